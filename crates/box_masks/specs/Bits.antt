-- Masks as bits over the tuples of queries: which contents answer with them, which agree, and what writes leave of them.
use Rattle.std.specs.Prelude.{ℕ, ◌+◌, ◌*◌, ◌/◌, ◌%◌, Bool, true, false, not, cond, ◌&&◌, ◌||◌, List, [], ◌∷◌, map, nat_eq}
use Rattle.box_contents.specs.declared.entry.Entry.{Entry}
use Rattle.box_contents.specs.Contents.{same_entry, holds_entry}
use Rattle.box_handlers.specs.declared.act.Query.{Query}
use Rattle.net_plan.specs.declared.plan.Plan.{Plan}
use Rattle.net_plan.specs.Reading.{tuple_at}
use Rattle.packet_state.specs.Answers.{class_of_box, mask_of}
use Rattle.box_masks.specs.declared.write.Write.{Write}

-- the tuples of these queries of the box at the packet
abbrev pub tuples_at : Plan → ℕ → ℕ → List Query → List Entry
tuples_at plan box packet queries = map (tuple_at plan (class_of_box plan box) packet []) queries

-- the mask with which contents answer where the queries have these tuples
abbrev pub answers_over : List Entry → List Entry → ℕ
answers_over contents tuples = mask_of (map (holds_entry contents) tuples)

-- whether the lowest bit is 1
abbrev pub is_odd : ℕ → Bool
is_odd mask = nat_eq (mask % 2) 1

abbrev pub is_one : Bool → Bool → Bool
is_one true other = other
is_one false other = not other

-- whether the bit is this one wherever the tuple is the entry
abbrev pub is_alike : Entry → Bool → Entry → Bool → Bool
is_alike tuple one entry two = not (same_entry entry tuple) || is_one one two

-- whether each of the tuples that is the entry has this bit in the mask
abbrev pub has_bits : List Entry → ℕ → Entry → Bool → Bool
has_bits [] mask entry bit = true
has_bits (tuple ∷ tuples) mask entry bit =
    is_alike tuple (is_odd mask) entry bit && has_bits tuples (mask / 2) entry bit

-- whether no tuple has one bit in the one mask and another one in the other
abbrev pub agrees : List Entry → ℕ → List Entry → ℕ → Bool
agrees [] mask others other_mask = true
agrees (tuple ∷ tuples) mask others other_mask =
    has_bits others other_mask tuple (is_odd mask) && agrees tuples (mask / 2) others other_mask

-- whether no tuple has two bits, in one of the masks or in both
abbrev pub are_consistent : List Entry → ℕ → List Entry → ℕ → Bool
are_consistent tuples mask others other_mask =
    agrees tuples mask tuples mask && (agrees others other_mask others other_mask && agrees tuples mask others other_mask)

-- the bit of the entry after the writes
abbrev pub bit_after : Bool → Entry → List Write → Bool
bit_after bit entry [] = bit
bit_after bit entry (write ∷ writes) = bit_after (cond (same_entry entry write.entry) write.add bit) entry writes

-- the mask with a bit below it
abbrev pub with_bit : ℕ → Bool → ℕ
with_bit mask bit = 2 * mask + cond bit 1 0

-- the mask after the writes
abbrev pub patched : List Entry → List Write → ℕ → ℕ
patched [] writes mask = 0
patched (tuple ∷ tuples) writes mask =
    with_bit (patched tuples writes (mask / 2)) (bit_after (is_odd mask) tuple writes)
