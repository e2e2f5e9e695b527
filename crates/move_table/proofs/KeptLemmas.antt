-- Which tuples writes leave as they are, what they make of answers, and which packets have to be visited.
use Rattle.std.proofs.Common.{◌≡◌, ℕ, ◌/◌, zero, suc, Bool, true, false, cond, not, ◌||◌, ◌&&◌, ◌⊎◌, inl, inr}
use Rattle.std.proofs.Common.{List, [], ◌∷◌, Some, refl, sym, ap, subst, ◌∙◌}
use Rattle.std.specs.Prelude.{slice_get}
use Rattle.std.specs.Ordering.{is_eq}
use Rattle.std.specs.Cmp.{tied_itself}
use Rattle.std.specs.declared.cmp.Ordering.{Ordering}
use Rattle.std.specs.declared.cmp.Ordering.TheVariants.{Less, Equal, Greater}
use Rattle.box_contents.specs.declared.entry.Entry.{Entry}
use Rattle.box_contents.specs.Contents.{entry_cmp, same_entry, holds_entry}
use Rattle.box_contents.proofs.Entries.{entries_total, exact}
use Rattle.box_masks.specs.declared.write.Write.{Write}
use Rattle.box_masks.specs.Writes.{after_writes}
use Rattle.box_masks.specs.Bits.{is_odd, is_one, bit_after}
use Rattle.box_masks.proofs.BitLemmas.{AreBitsBy, held_after, and_true}
use Rattle.move_table.specs.Kept.{is_written, leaves, keeps}
use Rattle.move_table.specs.Laws.{AreLaws}

pub same_true : (entry : Entry) → same_entry entry entry ≡ true
same_true entry = ap is_eq (tied_itself entries_total entry)

pub same_is : (one two : Entry) → same_entry one two ≡ true → one ≡ two
same_is one two e = exact one two (tied (entry_cmp one two) e)
  where
    tied : (r : Ordering) → is_eq r ≡ true → r ≡ Equal
    tied Less e = absurd (cc)
    tied Equal e = refl
    tied Greater e = absurd (cc)

both : {P : Type 0} (b : Bool) → b ≡ true → b ≡ false → P
both b one two = absurd (let clash : true ≡ false = sym one ∙ two in cc)

pub same_turned : (one two : Entry) → same_entry one two ≡ false → same_entry two one ≡ false
same_turned one two e = by (same_entry two one) refl
  where
    by : (b : Bool) → same_entry two one ≡ b → same_entry two one ≡ false
    by false f = f
    by true f =
        both (same_entry one two)
        (subst (λ (x : Entry). same_entry one x ≡ true) (sym (same_is two one f)) (same_true one)) e

or_true : (a b : Bool) → (a || b) ≡ true → (a ≡ true) ⊎ (b ≡ true)
or_true true b e = inl refl
or_true false b e = inr e

pub or_false : (a b : Bool) → (a || b) ≡ false → (a ≡ false) × (b ≡ false)
or_false true b e = absurd (cc)
or_false false b e = (refl, e)

and_false : (a b : Bool) → (a && b) ≡ false → (a ≡ false) ⊎ (b ≡ false)
and_false true b e = inr e
and_false false b e = inl refl

not_true : (b : Bool) → not b ≡ true → b ≡ false
not_true true e = absurd (cc)
not_true false e = refl

pub not_false : (b : Bool) → not b ≡ false → b ≡ true
not_false true e = refl
not_false false e = absurd (cc)

one_is : (a b : Bool) → is_one a b ≡ true → b ≡ a
one_is true b e = e
one_is false true e = absurd (cc)
one_is false false e = refl

-- writes to other entries leave a bit
pub unwritten_bit : (writes : List Write) (entry : Entry) (bit : Bool) → is_written writes entry ≡ false →
    bit_after bit entry writes ≡ bit
unwritten_bit [] entry bit e = refl
unwritten_bit (write ∷ writes) entry bit e =
    let parts = or_false (same_entry entry write.entry) (is_written writes entry) e in
    ap (λ b. bit_after (cond b write.add bit) entry writes) parts.0 ∙ unwritten_bit writes entry bit parts.1

-- and a write to the entry makes the bit from before mean nothing
pub written_bit : (writes : List Write) (entry : Entry) (one two : Bool) → is_written writes entry ≡ true →
    bit_after one entry writes ≡ bit_after two entry writes
written_bit [] entry one two e = absurd (cc)
written_bit (write ∷ writes) entry one two e =
    elim (or_true (same_entry entry write.entry) (is_written writes entry) e) [
      | inl same ↦ ap (λ b. bit_after (cond b write.add one) entry writes) same
          ∙ sym (ap (λ b. bit_after (cond b write.add two) entry writes) same)
      | inr more ↦ written_bit writes entry (cond (same_entry entry write.entry) write.add one)
          (cond (same_entry entry write.entry) write.add two) more
    ]

pub written_at : (writes : List Write) (entry : Entry) → is_written writes entry ≡ true →
    (index : ℕ) × (write : Write) × (slice_get writes index ≡ Some write) × (write.entry ≡ entry)
written_at [] entry e = absurd (cc)
written_at (write ∷ writes) entry e =
    elim (or_true (same_entry entry write.entry) (is_written writes entry) e) [
      | inl same ↦ (zero, write, refl, sym (same_is entry write.entry same))
      | inr more ↦ let there = written_at writes entry more in (suc there.0, there.1, there.2, there.3)
    ]

module _ (laws : AreLaws) (contents : List Entry) (writes : List Write) where
  left_bit : (tuples : List Entry) (mask : ℕ) (entry : Entry) → AreBitsBy (holds_entry contents) tuples mask →
      leaves tuples mask writes entry ≡ true →
      bit_after (holds_entry contents entry) entry writes ≡ holds_entry contents entry
  left_bit [] mask entry bits e = absurd (cc)
  left_bit (tuple ∷ tuples) mask entry bits e =
      elim (or_true (same_entry entry tuple && is_one (is_odd mask) (bit_after (is_odd mask) entry writes))
      (leaves tuples (mask / 2) writes entry) e) [
        | inl here ↦ let parts = and_true (same_entry entry tuple)
            (is_one (is_odd mask) (bit_after (is_odd mask) entry writes)) here in
            let bit : is_odd mask ≡ holds_entry contents entry =
            bits.0 ∙ ap (holds_entry contents) (sym (same_is entry tuple parts.0)) in
            subst (λ b. bit_after b entry writes ≡ b) bit
            (one_is (is_odd mask) (bit_after (is_odd mask) entry writes) parts.1)
        | inr more ↦ left_bit tuples (mask / 2) entry bits.1 more
      ]

  module _ (tuples : List Entry) (mask : ℕ) (bits : AreBitsBy (holds_entry contents) tuples mask) where
    pub kept_bit : (entry : Entry) → keeps tuples mask writes entry ≡ true →
        holds_entry (after_writes contents writes) entry ≡ holds_entry contents entry
    kept_bit entry e =
        held_after laws.held_with laws.held_without writes contents entry
        ∙ elim (or_true (not (is_written writes entry)) (leaves tuples mask writes entry) e) [
          | inl none ↦ unwritten_bit writes entry (holds_entry contents entry) (not_true (is_written writes entry) none)
          | inr left ↦ left_bit tuples mask entry bits left
        ]
