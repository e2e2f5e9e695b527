-- What the two domains have to show: the range of the rules, and how the paths cover walks.
use Rattle.std.proofs.Common.{◌≡◌, ℕ, ◌<◌, ◌≤◌, List, [], ◌∷◌, length, refl, sym, ap, subst, ◌∙◌, arith}
use Rattle.std.specs.List.{Contains}
use Rattle.std.proofs.lemmas.List.Elements.{All-nil, All-cons}
use Rattle.std.proofs.lemmas.Nat.{mul-add-lt}
use Rattle.fix_engine.specs.Closed.{AreBelow, IsClosed}
use Rattle.fix_examples.specs.declared.graph.Edge.{Edge}
use Rattle.fix_examples.specs.declared.graph.Graph.{Graph}
use Rattle.fix_examples.specs.declared.walks.Walk.{Walk}
use Rattle.fix_examples.specs.Paths.{cells_of, cell_of, HasEdge, Follows}
use Rattle.fix_examples.specs.Walks.{IsFirst, Leads, IsBack, Covers, IsLoop}

pub cell_below : (graph : Graph) (from to : ℕ) → from < graph.nodes → to < graph.nodes →
    cell_of graph from to < cells_of graph
cell_below graph from to one other = mul-add-lt from graph.nodes to graph.nodes one other

cell_is_below : (graph : Graph) (from to cell : ℕ) → from < graph.nodes → to < graph.nodes →
    cell ≡ cell_of graph from to → cell < cells_of graph
cell_is_below graph from to cell one other is =
    subst (λ n. n < cells_of graph) (sym is) (cell_below graph from to one other)

pub follows_bounded : (graph : Graph) (premises : List ℕ) (cell : ℕ) → Follows graph premises cell →
    (length premises ≤ 3) × AreBelow (cells_of graph) premises × (cell < cells_of graph)
follows_bounded graph [] cell gives = (
  omega arith,
  All-nil (λ n. n < cells_of graph),
  cell_is_below graph gives.0.from gives.0.to cell gives.1.1 gives.1.2 gives.2,
)
follows_bounded graph (first ∷ []) cell gives = absurd gives
follows_bounded graph (first ∷ second ∷ []) cell gives =
    let low = gives.nodes in (
      omega arith,
      All-cons (λ n. n < cells_of graph) first (second ∷ [])
          (cell_is_below graph gives.from gives.middle first low.0 low.1 gives.first_is)
          (All-cons (λ n. n < cells_of graph) second []
          (cell_is_below graph gives.middle gives.to second low.1 low.2 gives.second_is)
          (All-nil (λ n. n < cells_of graph))),
      cell_is_below graph gives.from gives.to cell low.0 low.2 gives.cell_is,
    )
follows_bounded graph (first ∷ second ∷ third ∷ rest) cell gives = absurd gives

edge_path : (graph : Graph) (cells : List ℕ) → IsClosed (Follows graph) cells → (edge : Edge) → HasEdge graph edge →
    Contains cells (cell_of graph edge.from edge.to)
edge_path graph cells closed edge has =
    closed [] (cell_of graph edge.from edge.to) (All-nil (Contains cells)) (edge, has, refl)

pub walk_begins : (graph : Graph) (cells : List ℕ) (walk : Walk) → AreBelow (cells_of graph) cells →
    IsClosed (Follows graph) cells → IsFirst graph walk → Covers graph cells walk
walk_begins graph cells walk below closed first =
    let edge = first.0 in (
      subst (λ n. n < graph.nodes) (sym first.2) first.1.1,
      subst (λ n. n < graph.nodes) (sym first.3) first.1.2,
      subst (Contains cells)
          (ap (λ n. cell_of graph n edge.to) (sym first.2) ∙ ap (λ n. cell_of graph walk.start n) (sym first.3))
          (edge_path graph cells closed edge first.1),
    )

pub walk_goes_on : (graph : Graph) (cells : List ℕ) (old new : Walk) (edge : Edge) → AreBelow (cells_of graph) cells →
    IsClosed (Follows graph) cells → Covers graph cells old → Leads graph old edge new
    → Covers graph cells new
walk_goes_on graph cells old new edge below closed covers leads =
    let second : Contains cells (cell_of graph old.place edge.to) =
    subst (λ n. Contains cells (cell_of graph n edge.to)) leads.leaves
    (edge_path graph cells closed edge leads.edge_is) in
    let joined : Contains cells (cell_of graph old.start edge.to) =
    closed (cell_of graph old.start old.place ∷ cell_of graph old.place edge.to ∷ []) (cell_of graph old.start edge.to)
    (All-cons (Contains cells) (cell_of graph old.start old.place) (cell_of graph old.place edge.to ∷ []) covers.2
    (All-cons (Contains cells) (cell_of graph old.place edge.to) [] second (All-nil (Contains cells))))
    record {
      from = old.start;
      middle = old.place;
      to = edge.to;
      nodes =
          (covers.0, covers.1, leads.edge_is.2);
      first_is = refl;
      second_is = refl;
      cell_is = refl;
    } in (
      subst (λ n. n < graph.nodes) (sym leads.start) covers.0,
      subst (λ n. n < graph.nodes) (sym leads.place) leads.edge_is.2,
      subst (Contains cells)
          (ap (λ n. cell_of graph n edge.to) (sym leads.start)
          ∙ ap (λ n. cell_of graph new.start n) (sym leads.place)) joined,
    )

pub walk_shows : (graph : Graph) (cells : List ℕ) (old new : Walk) (edge : Edge) → AreBelow (cells_of graph) cells →
    IsClosed (Follows graph) cells → Covers graph cells old → Leads graph old edge new
    → IsBack new → (cell : ℕ) × Contains cells cell × IsLoop graph cell
walk_shows graph cells old new edge below closed covers leads back =
    let now = walk_goes_on graph cells old new edge below closed covers leads in
    (cell_of graph new.start new.place, now.2, (new.start, now.0, ap (λ n. cell_of graph new.start n) back))
