use Rattle.std.proofs.Common.{◌≡◌, take, map}
use Rattle.handler_runs.specs.Code.{scene_by}
use Rattle.handler_runs.specs.Reading.{value_by}
use Rattle.handler_runs.proofs.terms.values_of.Given as goal

abbrev pub invariant-loop-term : goal.invariant-loop-term
invariant-loop-term l = l.values ≡ map (value_by (scene_by l.setting l.picked)) (take l.term-index l.terms)
