-- Paths of one edge or more in a graph, as cells: where a path begins and where it ends.
use Rattle.std.specs.Prelude.{◌≡◌, ℕ, ◌+◌, ◌*◌, ◌<◌, ◌↔◌, Bool, true, false, List, [], ◌∷◌, slice_index_or}
use Rattle.std.specs.List.{Contains}
use Rattle.fix_examples.specs.declared.graph.Edge.{Edge}
use Rattle.fix_examples.specs.declared.graph.Graph.{Graph}

-- the number of cells
abbrev pub cells_of : Graph → ℕ
cells_of graph = graph.nodes * graph.nodes

-- the cell of the paths between two nodes
abbrev pub cell_of : Graph → ℕ → ℕ → ℕ
cell_of graph from to = from * graph.nodes + to

-- the edge is one between nodes
abbrev pub HasEdge : Graph → Edge → Type 0
HasEdge graph edge = Contains graph.edges edge × (edge.from < graph.nodes) × (edge.to < graph.nodes)

-- an edge is a path
abbrev pub IsEdgePath : Graph → ℕ → Type 0
IsEdgePath graph cell = (edge : Edge) × HasEdge graph edge × (cell ≡ cell_of graph edge.from edge.to)

-- the second path begins where the first one ends, and the cell is that of both together
pub record Joins (graph : Graph) (first second cell : ℕ) : Type 0 where
  pub from : ℕ
  pub middle : ℕ
  pub to : ℕ
  pub nodes : (from < graph.nodes) × (middle < graph.nodes) × (to < graph.nodes)
  pub first_is : first ≡ cell_of graph from middle
  pub second_is : second ≡ cell_of graph middle to
  pub cell_is : cell ≡ cell_of graph from to

-- an edge is a path, and two paths together are one
abbrev pub Follows : Graph → List ℕ → ℕ → Type 0
Follows graph [] cell = IsEdgePath graph cell
Follows graph (first ∷ []) cell = ⊥
Follows graph (first ∷ second ∷ []) cell = Joins graph first second cell
Follows graph (first ∷ second ∷ third ∷ rest) cell = ⊥

-- a path that was handled begins at the node
abbrev pub BeginsDone : Graph → List ℕ → ℕ → Type 0
BeginsDone graph done node = (to : ℕ) × (to < graph.nodes) × Contains done (cell_of graph node to)

-- the marks of the nodes are exactly where a path that was handled begins
abbrev pub Remembers : Graph → List Bool → List ℕ → Type 0
Remembers graph begins done =
    (node : ℕ) → node < graph.nodes → (slice_index_or begins node false ≡ true) ↔ BeginsDone graph done node

-- the path joined with a handled one that begins where it ends
abbrev pub IsFromFirst : Graph → ℕ → ℕ → List ℕ → ℕ → Type 0
IsFromFirst graph from middle done cell =
    (to : ℕ) × (to < graph.nodes) × Contains done (cell_of graph middle to) × (cell ≡ cell_of graph from to)

-- the path joined with a handled one that ends where it begins
abbrev pub IsFromSecond : Graph → ℕ → ℕ → List ℕ → ℕ → Type 0
IsFromSecond graph middle to done cell =
    (from : ℕ) × (from < graph.nodes) × Contains done (cell_of graph from middle) × (cell ≡ cell_of graph from to)

-- a graph, with a mark a node
pub record Memory : Type 0 where
  pub graph : Graph
  pub begins : List Bool
