-- The file order of facts.
use Rattle.std.specs.Prelude.{◌≡◌, ℕ, ◌<◌, ◌⊎◌, ◌↔◌, List, [], ◌∷◌}
use Rattle.std.specs.List.{AllPairs, Contains}
use Rattle.net_plan.specs.declared.fact.Fact.{Fact}
use Rattle.net_plan.specs.declared.fact.Fact.TheVariants.{Out, State, Abort}

-- the kind of a fact, `Out` before `State` before `Abort`, and then its numbers in their order
abbrev pub numbers_of : Fact → List ℕ
numbers_of (Out end packet) = 0 ∷ end ∷ packet ∷ []
numbers_of (State box packet mask) = 1 ∷ box ∷ packet ∷ mask ∷ []
numbers_of (Abort box packet) = 2 ∷ box ∷ packet ∷ []

-- the first numbers that differ are less in the first list
abbrev pub IsBelow : List ℕ → List ℕ → Type 0
IsBelow (x ∷ xs) (y ∷ ys) = (x < y) ⊎ ((x ≡ y) × IsBelow xs ys)
IsBelow _ _ = ⊥

-- all `Out` by end and packet, then all `State` by box, packet and mask, then all `Abort` by box and packet
abbrev pub Precedes : Fact → Fact → Type 0
Precedes one two = IsBelow (numbers_of one) (numbers_of two)

-- each fact of the list precedes each later one
abbrev pub IsRising : List Fact → Type 0
IsRising facts = AllPairs Precedes facts

-- the list, in file order, of exactly the facts of which P holds
pub record ListsExactly (P : Fact → Type 0) (facts : List Fact) : Type 0 where
  pub rising : IsRising facts
  pub member : (fact : Fact) → Contains facts fact ↔ P fact
