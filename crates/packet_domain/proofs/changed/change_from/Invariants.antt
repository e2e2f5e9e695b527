use Rattle.std.proofs.Common.{◌≡◌, ◌-◌, ◌≤◌}
use Rattle.net_plan.specs.declared.fact.Fact.TheVariants.{Out}
use Rattle.net_plan.specs.Plan.{packets_of}
use Rattle.move_table.specs.Offered.{Offered}
use Rattle.packet_domain.specs.Reasons.{AsChangedBy}
use Rattle.move_table.proofs.OfferedLemmas.{UpTo, Known}
use Rattle.packet_domain.proofs.changed.change_from.Given as goal

abbrev pub invariant-loop-p : goal.invariant-loop-p
invariant-loop-p g l =
    record {
      made : l.paths ≡ l.net;
      turns : Offered l.net (UpTo l.net (Known l.net (Out l.inlet.end)
          (λ done p. AsChangedBy l.net done l.inlet.end p l.inlet.b l.q l.w) l.initial.work.done) l.at)
          l.initial.work l.work;
      within : l.at ≤ packets_of l.net;
    }

abbrev pub decreases-loop-p : goal.decreases-loop-p
decreases-loop-p g l = packets_of l.net - l.at
