-- What a writer leaves behind what stood there before.
use Rattle.std.specs.Prelude.{◌≡◌, ◌++◌, ℕ, List}

-- a front of the text was appended, perhaps nothing
pub record AppendsPart (old new text : List ℕ) : Type 0 where
  pub front : List ℕ
  pub rest : List ℕ
  pub appended : new ≡ old ++ front
  pub begun : text ≡ front ++ rest

-- what stood there stands in front of what was appended, perhaps nothing
pub record Keeps (old new : List ℕ) : Type 0 where
  pub more : List ℕ
  pub appended : new ≡ old ++ more
