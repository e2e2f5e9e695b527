use Rattle.box_moves.proofs.MoveLemmas.{AreBlank}
use Rattle.box_moves.proofs.moves.Moves.new.Given as goal

abbrev pub invariant-loop-b : goal.invariant-loop-b
invariant-loop-b l = AreBlank l.net l.b l.sets.items
