use Rattle.std.proofs.Common.{◌-◌, ◌≤◌}
use Rattle.net_plan.specs.declared.fact.Fact.TheVariants.{State}
use Rattle.net_plan.specs.Plan.{box_at, masks_of}
use Rattle.move_table.specs.Offered.{Offered}
use Rattle.packet_domain.specs.Reasons.{AgreeingChanges}
use Rattle.move_table.proofs.OfferedLemmas.{UpTo, Known}
use Rattle.packet_domain.proofs.changes.change_at.Given as goal

abbrev pub invariant-loop-w : goal.invariant-loop-w
invariant-loop-w g l =
    record {
      turns : Offered l.net (UpTo l.net (Known l.net (State l.b l.q)
          (λ done w. AgreeingChanges l.net l.b l.p l.v l.fired l.q w) l.initial.work.done) l.at)
          l.initial.work l.work;
      within : l.at ≤ masks_of l.net (box_at l.net l.b);
    }

abbrev pub decreases-loop-w : goal.decreases-loop-w
decreases-loop-w g l = masks_of l.net (box_at l.net l.b) - l.at
