use Rattle.fix_examples.specs.Paths.{IsEdgePath}
use Rattle.fix_examples.proofs.PathLemmas.{Tried, edge_cell, HasEnds}
use Rattle.fix_examples.proofs.paths.offer_edges.Given as goal

abbrev pub invariant-loop-edge : goal.invariant-loop-edge
invariant-loop-edge g l =
    Tried (IsEdgePath l.graph) (HasEnds l.graph) (edge_cell l.graph) l.initial.work l.work l.edge-index
