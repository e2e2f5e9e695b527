use Rattle.std.proofs.Common.{◌<◌}
use Rattle.std.specs.List.{Contains}
use Rattle.fix_examples.specs.Paths.{cell_of, IsFromSecond}
use Rattle.fix_examples.proofs.PathLemmas.{Tried}
use Rattle.fix_examples.proofs.paths.offer_as_second.Given as goal

abbrev pub invariant-loop-from : goal.invariant-loop-from
invariant-loop-from g l =
    Tried (IsFromSecond l.graph l.middle l.to l.initial.work.done)
    (λ from. (from < l.graph.nodes) × Contains l.initial.work.done (cell_of l.graph from l.middle))
    (λ from. cell_of l.graph from l.to) l.initial.work l.work l.from
