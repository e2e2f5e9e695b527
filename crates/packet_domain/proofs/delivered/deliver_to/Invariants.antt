use Rattle.std.proofs.Common.{◌≡◌, ◌-◌, ◌≤◌}
use Rattle.net_plan.specs.declared.fact.Fact.TheVariants.{State}
use Rattle.net_plan.specs.Plan.{box_at, masks_of}
use Rattle.move_table.specs.Offered.{Offered}
use Rattle.packet_domain.specs.Reasons.{IsDelivered}
use Rattle.move_table.proofs.OfferedLemmas.{UpTo, Known}
use Rattle.move_table.specs.Moves.{Adds, AreFollowed}
use Rattle.packet_domain.specs.Table.{MovesBy}
use Rattle.move_table.proofs.AddLemmas.{MovesUpTo, MovesKnown}
use Rattle.packet_domain.proofs.delivered.deliver_to.Given as goal

abbrev pub invariant-loop-v : goal.invariant-loop-v
invariant-loop-v g l =
    record {
      made : l.paths ≡ l.net;
      table : l.table.plan ≡ l.net;
      followed : AreFollowed l.net l.table.moves l.work;
      turns : Offered l.net (UpTo l.net (Known l.net (State l.inlet.b l.p) (λ done v. IsDelivered l.net done l.inlet.end l.p l.inlet.b v) l.initial.work.done) l.at)
          l.initial.work l.work;
      adds : Adds l.net (MovesUpTo l.net (MovesKnown l.net l.initial.work.done (State l.inlet.b l.p)
          (λ v. MovesBy l.net l.inlet.end l.p l.inlet.b v)) l.at) l.initial.table.moves l.table.moves;
      within : l.at ≤ masks_of l.net (box_at l.net l.inlet.b);
    }

abbrev pub decreases-loop-v : goal.decreases-loop-v
decreases-loop-v g l = masks_of l.net (box_at l.net l.inlet.b) - l.at
