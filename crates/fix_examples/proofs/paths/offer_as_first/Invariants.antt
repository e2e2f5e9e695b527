use Rattle.std.proofs.Common.{◌<◌}
use Rattle.std.specs.List.{Contains}
use Rattle.fix_examples.specs.Paths.{cell_of, IsFromFirst}
use Rattle.fix_examples.proofs.PathLemmas.{Tried}
use Rattle.fix_examples.proofs.paths.offer_as_first.Given as goal

abbrev pub invariant-loop-to : goal.invariant-loop-to
invariant-loop-to g l =
    Tried (IsFromFirst l.graph l.from l.middle l.initial.work.done)
    (λ to. (to < l.graph.nodes) × Contains l.initial.work.done (cell_of l.graph l.middle to))
    (λ to. cell_of l.graph l.from to) l.initial.work l.work l.to
