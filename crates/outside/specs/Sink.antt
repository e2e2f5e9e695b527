-- What a call on a sink does to the bytes that were written, where those are told.
use Rattle.std.specs.Prelude.{◌≡◌, ℕ, List, Option}
use Rattle.std.specs.Io.KnownBytes.{append_known}
use Rattle.outside.specs.Files.{IsFront}

-- a front of the piece was appended, perhaps an empty one or the whole
abbrev pub AppendsFront : Option (List ℕ) → Option (List ℕ) → List ℕ → Type 0
AppendsFront old new piece = (front : List ℕ) × IsFront front piece × (new ≡ append_known old front)
