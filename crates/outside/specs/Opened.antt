-- What a load and a store do with what the system opened for them, where the bytes that a reader has left, or that a
-- writer
-- holds, are known.
use Rattle.std.specs.Prelude.{◌≡◌, ℕ, List, Option, Result, Ok, Err}
use Rattle.std.specs.Io.KnownBytes.{Appends}
use Rattle.std.specs.declared.io.Error.{Error}
use Rattle.outside.specs.Streams.{ReadsAll, ReadsOver, ReadsFront, WritesFront}

-- a reader was opened, and all that it had left was appended
abbrev pub LoadsAll : {R : Type 0} → (R → Option (List ℕ)) → Result R Error → ℕ → List ℕ → List ℕ → Type 0
LoadsAll remaining (Ok reader) limit before after = ReadsAll (remaining reader) limit before after
LoadsAll remaining (Err error) limit before after = ⊥

-- a reader was opened, the buffer grew by exactly `limit` bytes, and the reader gave one byte more
abbrev pub LoadsOver : {R : Type 0} → (R → Option (List ℕ)) → Result R Error → Result R Error → ℕ → List ℕ → List ℕ →
    Type 0
LoadsOver remaining (Ok reader) (Ok later) limit before after =
    ReadsOver (remaining reader) (remaining later) limit before after
LoadsOver remaining _ _ limit before after = ⊥

-- a front of what the opened reader had left was appended, and nothing where none was opened
abbrev pub LoadsFront : {R : Type 0} → (R → Option (List ℕ)) → Result R Error → ℕ → List ℕ → List ℕ → Type 0
LoadsFront remaining (Ok reader) limit before after = ReadsFront (remaining reader) limit before after
LoadsFront remaining (Err error) limit before after = after ≡ before

-- a writer was opened, and took all the bytes
abbrev pub StoresAll : {W : Type 0} → (W → Option (List ℕ)) → Result W Error → Result W Error → List ℕ → Type 0
StoresAll contents (Ok writer) (Ok later) bytes = Appends (contents writer) (contents later) bytes
StoresAll contents _ _ bytes = ⊥

-- the opened writer took a front of the bytes; where none was opened, there is none
abbrev pub StoresPartly : {W : Type 0} → (W → Option (List ℕ)) → Result W Error → Result W Error → List ℕ → Type 0
StoresPartly contents (Ok writer) (Ok later) bytes = WritesFront (contents writer) (contents later) bytes
StoresPartly contents (Err error) (Err later) bytes = Unit {0}
StoresPartly contents _ _ bytes = ⊥
