use Rattle.std.proofs.Common.{◌≡◌, length}
use Rattle.tree_plan.specs.Net.{tuple_of_values}
use Rattle.tree_plan.specs.Tables.{kinds_back}
use Rattle.tree_network.proofs.TupleLemmas.{onward_from}
use Rattle.tree_network.proofs.boxes.tuple_of_values.Given as goal

-- the tuple goes on with the values behind
abbrev pub invariant-loop-place : goal.invariant-loop-place
invariant-loop-place l = record {
  long : length l.arguments ≡ length l.values;
  before : tuple_of_values (kinds_back l.kinds) l.arguments l.values
      ≡ onward_from l.kinds l.arguments l.values l.tuple l.place;
}
