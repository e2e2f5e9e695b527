use Rattle.std.proofs.Common.{ℕ, ◌+◌, ◌<◌, ◌≤◌, List, sym, ap, subst, ◌∙◌, arith, length, get_or}
use Rattle.fix_engine.specs.Progress.{Offers}
use Rattle.fix_examples.specs.declared.graph.Edge.{Edge}
use Rattle.fix_examples.specs.Paths.{cell_of, IsEdgePath}
use Rattle.fix_examples.proofs.PathLemmas.{Tried, tried_offer, tried_skip, edge_cell, HasEnds, edges_found, listed_edge}
use Rattle.fix_examples.proofs.paths.offer_edges.Goals as goal
use Rattle.fix_examples.proofs.paths.offer_edges.Goals.{then-edge-graph+then-edge-graph-2, else-edge-graph}
use Rattle.fix_examples.proofs.paths.offer_edges.Goals.{else-edge-graph-via-then-edge-graph+else-edge-graph-2}
use Rattle.fix_examples.proofs.paths.offer_edges.Goals.{else-edge-graph-via-else-edge-graph}

pub loop-edge-preserved : goal.loop-edge-preserved
loop-edge-preserved g c =
    let graph = c.args.graph.now in
    let old = c.args.work.now in
    let now = c.loop-edge.work in
    let at = c.loop-edge.edge-index in
    let tried = c.loop-edge.invariant in
    let P = IsEdgePath graph in
    let D = HasEnds graph in
    let cell = edge_cell graph in
    let read = λ (s : List Edge). get_or s at record { from = 0; to = 0 } in
    let same = c.as_slice-edge-items.ensures in
    elim c.if-edge-graph.branch [
      | then-edge-graph+then-edge-graph-2 w ↦
          let ends : HasEnds graph at =
          subst (λ (s : List Edge). ((read s).from < graph.nodes) × ((read s).to < graph.nodes)) same
          (w.if-edge-graph.true, w.if-edge-graph-2.true) in
          let place = w.cell_of.ensures.is ∙ ap (λ (s : List Edge). cell_of graph (read s).from (read s).to) same in
          let offers = subst (λ (x : ℕ). Offers now x w.offer.new.self) place w.offer.ensures in
          let below : at < length graph.edges = subst (λ (s : List Edge). at < length s) same c.loop-edge-test.true in
          subst (λ p. Tried P D cell old p (at + 1)) (sym w.work-is)
          (tried_offer P D cell old now w.offer.new.self at tried offers (listed_edge graph at below ends))
      | else-edge-graph w ↦
          subst (λ p. Tried P D cell old p (at + 1)) (sym w.work-is) (tried_skip P D cell old now at tried (λ ends.
          let back =
          subst (λ (s : List Edge). ((read s).from < graph.nodes) × ((read s).to < graph.nodes)) (sym same) ends in
          elim w.else-edge-graph.branch [
            | else-edge-graph-via-then-edge-graph+else-edge-graph-2 v ↦ omega (arith, v.if-edge-graph-2.false, back.1)
            | else-edge-graph-via-else-edge-graph v ↦ omega (arith, v.if-edge-graph.false, back.0)
          ]))
    ]

pub returns-clause-all : goal.returns-clause-all
returns-clause-all g c =
    edges_found c.args.graph.now c.args.work.now c.loop-edge.work c.loop-edge.edge-index
    (subst
    (λ (s : List Edge). length s ≤ c.loop-edge.edge-index) c.as_slice-edge-items.ensures c.loop-edge-test.false)
    c.loop-edge.invariant
