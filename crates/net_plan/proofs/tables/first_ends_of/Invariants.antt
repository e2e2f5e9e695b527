use Rattle.std.proofs.Common.{◌≡◌, map}
use Rattle.std.specs.List.{range_with_len}
use Rattle.net_plan.specs.Kept.{first_end}
use Rattle.net_plan.proofs.tables.first_ends_of.Given as goal

abbrev pub invariant-loop-boxed : goal.invariant-loop-boxed
invariant-loop-boxed l = record {
  made : l.ends ≡ map (first_end l.plan) (range_with_len 0 l.boxed-index);
  next : l.end ≡ first_end l.plan l.boxed-index;
}
