use Rattle.std.proofs.Common.{◌≡◌, length, ap, ◌∙◌, arith}
use Rattle.net_plan.specs.declared.plan.Plan.{Plan}
use Rattle.net_plan.proofs.TableLemmas.{ends_small, links_few}
use Rattle.net_plan.proofs.network.Network.links.Goals as goal

pub overflow_cast-result : goal.overflow_cast-result
overflow_cast-result c =
    let counted : length c.as_slice.result.now ≡ length c.args.self.now.links =
    ap length (c.as_slice.ensures ∙ ap (λ (plan : Plan). plan.links) c.self.view_is) in
    omega (arith, counted, ends_small c.args.self.now c.sound.ensures, links_few c.args.self.now c.sound.ensures)
