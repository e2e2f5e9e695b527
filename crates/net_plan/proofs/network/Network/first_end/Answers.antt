use Rattle.std.proofs.Common.{◌≡◌, ap, ◌∙◌, arith}
use Rattle.net_plan.specs.Plan.{boxes_of}
use Rattle.net_plan.specs.Kept.{first_end, first_ends}
use Rattle.net_plan.proofs.TableLemmas.{counted_length, counted_read}
use Rattle.net_plan.proofs.network.Network.first_end.Goals as goal

pub bounds-as_slice-b : goal.bounds-as_slice-b
bounds-as_slice-b c =
    let table : c.as_slice.result.now ≡ first_ends c.args.self.now =
    c.as_slice.ensures ∙ c.self.invariant.ends_are ∙ ap first_ends c.self.view_is in
    omega (arith, counted_length (first_end c.args.self.now) (boxes_of c.args.self.now) c.as_slice.result.now table)

pub returns : goal.returns
returns c =
    let table : c.as_slice.result.now ≡ first_ends c.args.self.now =
    c.as_slice.ensures ∙ c.self.invariant.ends_are ∙ ap first_ends c.self.view_is in
    counted_read (first_end c.args.self.now)
    (boxes_of c.args.self.now) c.as_slice.result.now table c.args.b 0 c.requires
