-- What writes do to the bits of the queries at a packet, and which of these bits a firing knows.
use Rattle.std.specs.Prelude.{◌≡◌, ℕ, ◌/◌, ◌<◌, ◌≤◌, Bool, true, false, cond, List, [], ◌∷◌, Option, Some, None}
use Rattle.std.specs.Prelude.{bit_and, bit_or}
use Rattle.std.specs.Int.{bit_not, w16}
use Rattle.box_contents.specs.declared.entry.Entry.{Entry}
use Rattle.box_contents.specs.Contents.{same_entry}
use Rattle.box_masks.specs.declared.write.Write.{Write}
use Rattle.box_masks.specs.Bits.{is_odd, with_bit, bit_after}
use Rattle.move_table.specs.declared.effect.Effect.{Effect}
use Rattle.move_table.specs.Kept.{is_written}

-- the bit of the first of the tuples that is the entry, if there is one
abbrev pub bit_in : List Entry → ℕ → Entry → Option Bool
bit_in [] mask entry = None
bit_in (tuple ∷ tuples) mask entry = cond (same_entry entry tuple) (Some (is_odd mask)) (bit_in tuples (mask / 2) entry)

abbrev pub is_known : Option Bool → Bool
is_known None = false
is_known (Some bit) = true

abbrev pub is_set : Option Bool → Bool
is_set None = false
is_set (Some bit) = bit

-- one query more below the others
abbrev pub with_tuple : Effect → Bool → Bool → Option Bool → Effect
with_tuple behind written value known = record {
  written = with_bit behind.written written;
  values = with_bit behind.values value;
  known = with_bit behind.known (is_known known);
  bits = with_bit behind.bits (is_set known);
}

-- the others that are written, with what is written last, and those that are among the tuples, with their bits in
-- the mask
abbrev pub effect_over : List Entry → ℕ → List Write → List Entry → Effect
effect_over tuples mask writes [] = record { written = 0; values = 0; known = 0; bits = 0 }
effect_over tuples mask writes (other ∷ others) =
    with_tuple (effect_over tuples mask writes others) (is_written writes other) (bit_after false other writes)
    (bit_in tuples mask other)

-- the masks of the effect are below a number
pub record AreBelow (most : ℕ) (effect : Effect) : Type 0 where
  pub written : effect.written < most
  pub values : effect.values < most
  pub known : effect.known < most
  pub bits : effect.bits < most

-- the effect is that of these writes on the tuples, whatever is known
abbrev pub IsEffectOf : List Write → List Entry → Effect → Type 0
IsEffectOf writes others effect =
    (tuples : List Entry) × (mask : ℕ) × (effect ≡ effect_over tuples mask writes others)

-- the mask with the values in place of the bits that are written
abbrev pub overwritten : ℕ → Effect → ℕ
overwritten mask effect = bit_or (bit_and mask (bit_not w16 effect.written)) effect.values

-- the effect on these queries alone
abbrev pub cut : Effect → ℕ → Effect
cut effect fixed = record {
  written = bit_and effect.written fixed;
  values = bit_and effect.values fixed;
  known = bit_and effect.known fixed;
  bits = bit_and effect.bits fixed;
}

-- what makes one mask of these queries the other one
abbrev pub between : ℕ → ℕ → ℕ → Effect
between fixed mask other = record { written = fixed; values = other; known = fixed; bits = mask }

-- no mask from one up to another, without that one, has these bits at the queries that are known
abbrev pub HasNoKnown : ℕ → ℕ → ℕ → ℕ → Type 0
HasNoKnown known bits from to = (mask : ℕ) → from ≤ mask → mask < to → bit_and mask known ≡ bits → ⊥
