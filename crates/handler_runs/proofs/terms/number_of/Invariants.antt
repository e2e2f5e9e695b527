use Rattle.std.proofs.Common.{◌≡◌}
use Rattle.handler_runs.specs.Reading.{number_by}
use Rattle.handler_runs.proofs.CodeLemmas.{behind}
use Rattle.handler_runs.proofs.terms.number_of.Given as goal

abbrev pub invariant-loop-place : goal.invariant-loop-place
invariant-loop-place l = behind l.sizes l.values l.place l.number ≡ number_by 0 l.sizes l.values
