-- Masks over the tuples of the queries of a box.
use Rattle.std.specs.Prelude.{ℕ, ◌+◌, ◌*◌, ◌/◌, ◌%◌, Bool, true, false, List, [], ◌∷◌, if◌then◌else◌, nat_eq}
use Rattle.box_contents.specs.declared.entry.Entry.{Entry}
use Rattle.box_contents.specs.Contents.{same_entry}

-- the tuples whose bits are 1
abbrev pub marked : List Entry → ℕ → List Entry
marked [] mask = []
marked (tuple ∷ tuples) mask =
    if nat_eq (mask % 2) 1 then (tuple ∷ marked tuples (mask / 2)) else marked tuples (mask / 2)

-- a bit after a write, to its tuple or to another one
abbrev pub bit_after : Bool → Bool → ℕ → ℕ
bit_after true true bit = 1
bit_after true false bit = 0
bit_after false add bit = bit

-- the mask after a write
abbrev pub mask_after : List Entry → ℕ → Entry → Bool → ℕ
mask_after [] mask entry add = 0
mask_after (tuple ∷ tuples) mask entry add =
    bit_after (same_entry tuple entry) add (mask % 2) + 2 * mask_after tuples (mask / 2) entry add
