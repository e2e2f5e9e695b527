use Rattle.std.proofs.Common.{◌≡◌, take, map, length}
use Rattle.net_plan.specs.Plan.{size_of}
use Rattle.net_plan.proofs.tables.headers_of.Given as goal

-- the sizes so far are those of the fields so far
abbrev pub invariant-loop-k : goal.invariant-loop-k
invariant-loop-k l = record {
  read : take l.k l.sizes ≡ map (size_of l.plan) (take l.k l.fields);
  room : length l.sizes ≡ 8;
}
