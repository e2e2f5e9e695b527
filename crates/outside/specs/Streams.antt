-- What reading to the end within a limit does, where the bytes that a reader has left are known.
use Rattle.std.specs.Prelude.{◌≡◌, ℕ, ◌≤◌, List, [], ◌∷◌, ◌++◌, length, Option, Some}
use Rattle.std.specs.Io.KnownBytes.{Appends}
use Rattle.outside.specs.Files.{IsFront}

-- known bytes begin with `taken`, and the rest of them is known afterwards
abbrev pub Takes : Option (List ℕ) → Option (List ℕ) → List ℕ → Type 0
Takes old new taken =
    (known : List ℕ) → old ≡ Some known → (rest : List ℕ) × (new ≡ Some rest) × (known ≡ taken ++ rest)

-- the buffer grew by all that the reader had left, and by at most `limit` bytes
pub record ReadsAll (left : Option (List ℕ)) (limit : ℕ) (before after : List ℕ) : Type 0 where
  pub added : List ℕ
  pub appended : after ≡ before ++ added
  pub within : length added ≤ limit
  pub whole : (known : List ℕ) → left ≡ Some known → known ≡ added

-- the buffer grew by exactly `limit` bytes, and the reader gave one byte more and lost no other
pub record ReadsOver (old new : Option (List ℕ)) (limit : ℕ) (before after : List ℕ) : Type 0 where
  pub added : List ℕ
  pub last : ℕ
  pub appended : after ≡ before ++ added
  pub full : length added ≡ limit
  pub takes : Takes old new (added ++ last ∷ [])

-- the buffer grew by a front of what the reader had left, of at most `limit` bytes
pub record ReadsFront (left : Option (List ℕ)) (limit : ℕ) (before after : List ℕ) : Type 0 where
  pub added : List ℕ
  pub appended : after ≡ before ++ added
  pub within : length added ≤ limit
  pub front : (known : List ℕ) → left ≡ Some known → IsFront added known

-- the buffer grew by `count` bytes, and the reader lost them
pub record ReadsBlock (old new : Option (List ℕ)) (count : ℕ) (before after : List ℕ) : Type 0 where
  pub added : List ℕ
  pub appended : after ≡ before ++ added
  pub counted : length added ≡ count
  pub takes : Takes old new added

-- known contents grew by a front of the piece
abbrev pub WritesFront : Option (List ℕ) → Option (List ℕ) → List ℕ → Type 0
WritesFront old new piece = (front : List ℕ) × IsFront front piece × Appends old new front
