-- Walks that were worked out by hand.
use Rattle.std.specs.Prelude.{ℕ, [], ◌∷◌}
use Rattle.fix_engine.specs.Runs.{Reaches}
use Rattle.fix_examples.specs.declared.graph.Edge.{Edge}
use Rattle.fix_examples.specs.declared.graph.Graph.{Graph}
use Rattle.fix_examples.specs.declared.walks.Walk.{Walk}
use Rattle.fix_examples.specs.Walks.{IsFirst, Leads, IsBack}

abbrev pub edge : ℕ → ℕ → Edge
edge from to = record { from = from; to = to }

abbrev pub walk : ℕ → ℕ → Walk
walk start place = record { start = start; place = place }

-- four nodes, and the edges 0 to 1, 1 to 2 and 2 to 3
abbrev pub line : Graph
line = record { nodes = 4; edges = edge 0 1 ∷ edge 1 2 ∷ edge 2 3 ∷ [] }

-- along the line, from 0 over 1 and 2 to 3
abbrev pub WalkByHand : Type 0
WalkByHand = IsFirst line (walk 0 1) × Reaches (Leads line) (walk 0 1) (edge 1 2 ∷ edge 2 3 ∷ []) (walk 0 3)

-- three nodes, and the edges 0 to 1, 1 to 2 and 2 to 0
abbrev pub ring : Graph
ring = record { nodes = 3; edges = edge 0 1 ∷ edge 1 2 ∷ edge 2 0 ∷ [] }

-- round the ring, and the last step is bad
abbrev pub WalkReturnsByHand : Type 0
WalkReturnsByHand =
    IsFirst ring (walk 0 1)
    × Reaches (Leads ring) (walk 0 1) (edge 1 2 ∷ []) (walk 0 2)
    × Leads ring (walk 0 2) (edge 2 0) (walk 0 0)
    × IsBack (walk 0 0)
