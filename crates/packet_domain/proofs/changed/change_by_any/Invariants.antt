use Rattle.std.proofs.Common.{◌≡◌, ◌-◌, ◌≤◌, [], ◌∷◌}
use Rattle.net_plan.specs.declared.fact.Fact.TheVariants.{Out, State}
use Rattle.net_plan.specs.Plan.{box_at, masks_of}
use Rattle.packet_state.specs.Follows.{Follows}
use Rattle.move_table.specs.Offered.{Offered}
use Rattle.move_table.proofs.OfferedLemmas.{UpTo, Known}
use Rattle.packet_domain.proofs.changed.change_by_any.Given as goal

abbrev pub invariant-loop-v : goal.invariant-loop-v
invariant-loop-v g l =
    record {
      made : l.paths ≡ l.net;
      turns : Offered l.net (UpTo l.net (Known l.net (State l.inlet.b l.p)
          (λ done v. Follows l.net (Out l.inlet.end l.p ∷ State l.inlet.b l.p v ∷ State l.inlet.b l.q l.w ∷ [])) l.initial.work.done) l.at)
          l.initial.work l.work;
      within : l.at ≤ masks_of l.net (box_at l.net l.inlet.b);
    }

abbrev pub decreases-loop-v : goal.decreases-loop-v
decreases-loop-v g l = masks_of l.net (box_at l.net l.inlet.b) - l.at
