-- Texts that say that a network is safe.
use Rattle.std.specs.Prelude.{◌≡◌, ◌++◌, ℕ, List, Contains, codes}
use Rattle.amdl_tree.specs.Layout.{line}

-- the text begins with the word
abbrev pub BeginsWith : List ℕ → List ℕ → Type 0
BeginsWith text word = (rest : List ℕ) × (text ≡ word ++ rest)

-- no line ends within the text
abbrev pub IsOneLine : List ℕ → Type 0
IsOneLine text = ¬ Contains text 10

-- the first line begins with `network` and the third with `SAFE`; the third may lack its end
pub record PrintsSafe (text : List ℕ) : Type 0 where
  pub first : List ℕ
  pub second : List ℕ
  pub third : List ℕ
  pub lines : text ≡ line first ++ line second ++ third
  pub first_ends : IsOneLine first
  pub second_ends : IsOneLine second
  pub of_network : BeginsWith first (codes "network")
  pub safe : BeginsWith third (codes "SAFE")
