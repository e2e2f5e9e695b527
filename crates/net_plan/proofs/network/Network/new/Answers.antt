use Rattle.std.proofs.Common.{◌≡◌, length, ap, ◌∙◌, arith}
use Rattle.net_plan.specs.Ends.{ends_of}
use Rattle.net_plan.proofs.TableLemmas.{ends_small}
use Rattle.net_plan.proofs.network.Network.new.Goals as goal

pub overflow_cast-ends : goal.overflow_cast-ends
overflow_cast-ends c =
    let counted : length c.as_slice.result.now ≡ ends_of c.args.plan =
    ap length (c.as_slice.ensures ∙ c.in_ok-places.ensures) in
    omega (arith, counted, ends_small c.args.plan c.requires)
