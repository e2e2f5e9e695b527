use Rattle.std.proofs.Common.{◌≡◌, ◌-◌, ◌≤◌, None, replicate}
use Rattle.net_plan.proofs.tables.nobody.Given as goal

abbrev pub invariant-loop-made : goal.invariant-loop-made
invariant-loop-made l = record { made_so_far : l.partners ≡ replicate l.made None; in_range : l.made ≤ l.ends }

abbrev pub decreases-loop-made : goal.decreases-loop-made
decreases-loop-made l = l.ends - l.made
