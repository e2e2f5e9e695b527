use Rattle.abstract_step.specs.Walk.{scene_at}
use Rattle.abstract_step.proofs.PlaceLemmas.{AreDigits}
use Rattle.abstract_step.proofs.place.entry_of.Given as goal

-- the digits so far
abbrev pub invariant-loop-term : goal.invariant-loop-term
invariant-loop-term l = AreDigits (scene_at l.place l.picked) l.query l.term-index l.tuple
