-- What stands in front while more is appended.
use Rattle.std.specs.Prelude.{◌≡◌, ◌++◌, ℕ, List}

-- the text begins with the front
unfoldable pub BeginsWith : List ℕ → List ℕ → Type 0
BeginsWith front text = (rest : List ℕ) × (text ≡ front ++ rest)

-- what the text began with, it begins with still
abbrev pub KeepsFronts : List ℕ → List ℕ → Type 0
KeepsFronts old new = (front : List ℕ) → BeginsWith front old → BeginsWith front new
