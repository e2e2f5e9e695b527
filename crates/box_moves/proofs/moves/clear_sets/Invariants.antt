use Rattle.box_moves.specs.Moves.{AreCleared}
use Rattle.box_moves.proofs.moves.clear_sets.Given as goal

abbrev pub invariant-loop-b : goal.invariant-loop-b
invariant-loop-b l = AreCleared l.b l.initial.sets.items l.sets.items
