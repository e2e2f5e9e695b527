-- Derivations, for any relation `follows` from a list of premises to a conclusion.
use Rattle.std.specs.Prelude.{◌≡◌, List, [], ◌∷◌, ◌++◌}
use Rattle.std.specs.List.{All, Contains}

-- each member of the list follows from earlier members
abbrev pub IsDerivation : {A : Type 0} → (List A → A → Type 0) → List A → Type 0
IsDerivation {A} follows list =
    (earlier : List A) (member : A) (later : List A) → list ≡ earlier ++ (member ∷ later) →
    (premises : List A) × All (Contains earlier) premises × follows premises member

-- a derivation ends in it
abbrev pub IsDerivable : {A : Type 0} → (List A → A → Type 0) → A → Type 0
IsDerivable {A} follows conclusion = (earlier : List A) × IsDerivation follows (earlier ++ conclusion ∷ [])
