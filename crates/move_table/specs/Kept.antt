-- Which tuples writes leave as they are, for contents that answer with a mask at a packet.
use Rattle.std.specs.Prelude.{ℕ, ◌/◌, Bool, false, not, ◌&&◌, ◌||◌, List, [], ◌∷◌}
use Rattle.box_contents.specs.declared.entry.Entry.{Entry}
use Rattle.box_contents.specs.Contents.{same_entry}
use Rattle.box_masks.specs.declared.write.Write.{Write}
use Rattle.box_masks.specs.Bits.{is_odd, is_one, bit_after}

-- whether one of the writes is to the entry
abbrev pub is_written : List Write → Entry → Bool
is_written [] entry = false
is_written (write ∷ writes) entry = same_entry entry write.entry || is_written writes entry

-- whether the entry is one of the tuples, with a bit in the mask that the writes leave
abbrev pub leaves : List Entry → ℕ → List Write → Entry → Bool
leaves [] mask writes entry = false
leaves (tuple ∷ tuples) mask writes entry =
    (same_entry entry tuple && is_one (is_odd mask) (bit_after (is_odd mask) entry writes))
    || leaves tuples (mask / 2) writes entry

-- whether the entry stays: it isn't written, or what was written to it last was there
abbrev pub keeps : List Entry → ℕ → List Write → Entry → Bool
keeps tuples mask writes entry = not (is_written writes entry) || leaves tuples mask writes entry
