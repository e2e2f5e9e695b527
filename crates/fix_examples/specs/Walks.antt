-- Walks in a graph, and what paths say of them.
use Rattle.std.specs.Prelude.{◌≡◌, ℕ, ◌<◌, List}
use Rattle.std.specs.List.{Contains}
use Rattle.fix_engine.specs.Runs.{Reaches}
use Rattle.fix_examples.specs.declared.graph.Edge.{Edge}
use Rattle.fix_examples.specs.declared.graph.Graph.{Graph}
use Rattle.fix_examples.specs.declared.walks.Walk.{Walk}
use Rattle.fix_examples.specs.Paths.{HasEdge, cell_of}

-- the walk went over one edge
abbrev pub IsFirst : Graph → Walk → Type 0
IsFirst graph walk = (edge : Edge) × HasEdge graph edge × (walk.start ≡ edge.from) × (walk.place ≡ edge.to)

-- the walk goes on over the edge
pub record Leads (graph : Graph) (old : Walk) (edge : Edge) (new : Walk) : Type 0 where
  pub edge_is : HasEdge graph edge
  pub leaves : edge.from ≡ old.place
  pub start : new.start ≡ old.start
  pub place : new.place ≡ edge.to

-- the walk is back where it began
abbrev pub IsBack : Walk → Type 0
IsBack walk = walk.place ≡ walk.start

-- the path of the walk is among the cells
abbrev pub Covers : Graph → List ℕ → Walk → Type 0
Covers graph cells walk =
    (walk.start < graph.nodes) × (walk.place < graph.nodes) × Contains cells (cell_of graph walk.start walk.place)

-- the cell is that of the paths from a node to itself
abbrev pub IsLoop : Graph → ℕ → Type 0
IsLoop graph cell = (node : ℕ) × (node < graph.nodes) × (cell ≡ cell_of graph node node)

-- no walk of two edges or more comes back to where it began
abbrev pub HasNoRoundTrip : Graph → Type 0
HasNoRoundTrip graph =
    (first last next : Walk) (edges : List Edge) (edge : Edge) →
    IsFirst graph first → Reaches (Leads graph) first edges last → Leads graph last edge next → ¬ (IsBack next)
