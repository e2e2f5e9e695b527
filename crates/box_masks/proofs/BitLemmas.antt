-- Masks by halving: which contents answer with them, which agree, and what writes do to them.
use Rattle.std.proofs.Common.{◌≡◌, ℕ, ◌+◌, ◌*◌, ◌/◌, ◌%◌, ◌^◌, ◌<◌, zero, suc, Bool, true, false, cond, not, ◌||◌}
use Rattle.std.proofs.Common.{◌&&◌, ◌⊎◌, inl, inr, List, [], ◌∷◌, ◌++◌, length, map, Some, refl, sym, ap, subst, ◌∙◌}
use Rattle.std.proofs.Common.{arith, nat_eq}
use Rattle.std.specs.Prelude.{slice_get}
use Rattle.std.specs.Int.{bit_at}
use Rattle.std.specs.Ordering.{is_eq}
use Rattle.std.specs.Cmp.{tied_itself}
use Rattle.std.specs.declared.cmp.Ordering.{Ordering}
use Rattle.std.specs.declared.cmp.Ordering.TheVariants.{Less, Equal, Greater}
use Rattle.std.proofs.Math.Nat.{pow-suc}
use Rattle.std.proofs.lemmas.Nat.Bits.{bit_at_lowest, bit_at-suc}
use Rattle.box_contents.specs.declared.entry.Entry.{Entry}
use Rattle.box_contents.specs.Contents.{entry_cmp, same_entry, holds_entry, with_entry}
use Rattle.box_contents.specs.Laws.{HeldWith, HeldWithout}
use Rattle.box_contents.proofs.Entries.{entries_total, exact}
use Rattle.box_executions.proofs.RangeLemmas.{some_inside}
use Rattle.packet_state.specs.Answers.{mask_of}
use Rattle.net_plan.proofs.Rising.{head_contained, tail_contained}
use Rattle.box_masks.specs.declared.write.Write.{Write}
use Rattle.box_masks.specs.Writes.{after_write, after_writes, IsLastWrite, IsUnwritten, IsPatchedBit}
use Rattle.box_masks.specs.Bits.{answers_over, is_odd, is_one, is_alike, has_bits, agrees, bit_after, with_bit, patched}

-- the lowest bit, and what stands above it

pub odd_with_bit : (mask : ℕ) (bit : Bool) → is_odd (with_bit mask bit) ≡ bit
odd_with_bit mask true = ap (λ n. nat_eq n 1) (let e : (2 * mask + 1) % 2 ≡ 1 = omega arith in e)
odd_with_bit mask false = ap (λ n. nat_eq n 1) (let e : (2 * mask + 0) % 2 ≡ 0 = omega arith in e)

pub half_with_bit : (mask : ℕ) (bit : Bool) → with_bit mask bit / 2 ≡ mask
half_with_bit mask true = let e : (2 * mask + 1) / 2 ≡ mask = omega arith in e
half_with_bit mask false = let e : (2 * mask + 0) / 2 ≡ mask = omega arith in e

pub mask_with_bit : (bit : Bool) (bits : List Bool) → mask_of (bit ∷ bits) ≡ with_bit (mask_of bits) bit
mask_with_bit true bits = let e : 1 + 2 * mask_of bits ≡ 2 * mask_of bits + 1 = omega arith in e
mask_with_bit false bits = let e : 2 * mask_of bits ≡ 2 * mask_of bits + 0 = omega arith in e

rest_of : (rest r : ℕ) → rest % 2 ≡ r → (r < 2) → 2 * (rest / 2) + cond (nat_eq r 1) 1 0 ≡ rest
rest_of rest zero e less = let s : 2 * (rest / 2) + 0 ≡ rest = omega (arith, e) in s
rest_of rest (suc zero) e less = let s : 2 * (rest / 2) + 1 ≡ rest = omega (arith, e) in s
rest_of rest (suc (suc r)) e less = absurd (let s : suc (suc r) < 2 = less in omega (arith, s))

pub mask_split : (mask : ℕ) → with_bit (mask / 2) (is_odd mask) ≡ mask
mask_split mask = rest_of mask (mask % 2) refl (omega arith)

-- the mask has the bit that the test gives for each tuple
abbrev pub AreBitsBy : (Entry → Bool) → List Entry → ℕ → Type 0
AreBitsBy test [] mask = Unit {0}
AreBitsBy test (tuple ∷ tuples) mask = (is_odd mask ≡ test tuple) × AreBitsBy test tuples (mask / 2)

pub bits_by : (test : Entry → Bool) (tuples : List Entry) (mask : ℕ) → mask_of (map test tuples) ≡ mask →
    AreBitsBy test tuples mask
bits_by test [] mask e = tt
bits_by test (tuple ∷ tuples) mask e =
    let split : with_bit (mask_of (map test tuples)) (test tuple) ≡ mask =
    sym (mask_with_bit (test tuple) (map test tuples)) ∙ e in (
      ap is_odd (sym split) ∙ odd_with_bit (mask_of (map test tuples)) (test tuple),
      bits_by test tuples (mask / 2)
          (sym (half_with_bit (mask_of (map test tuples)) (test tuple)) ∙ ap (λ m. m / 2) split),
    )

pub mask_by : (test : Entry → Bool) (tuples : List Entry) (mask : ℕ) → AreBitsBy test tuples mask →
    mask < 2 ^ length tuples → mask_of (map test tuples) ≡ mask
mask_by test [] mask bits less = let l : mask < 1 = less in omega (arith, l)
mask_by test (tuple ∷ tuples) mask bits less =
    let half : mask / 2 < 2 ^ length tuples = omega (arith, less, pow-suc 2 (length tuples)) in
    mask_with_bit (test tuple) (map test tuples)
    ∙ (λ i. with_bit (mask_by test tuples (mask / 2) bits.1 half i) (sym bits.0 i)) ∙ mask_split mask

-- after writes

pub held_after_write : HeldWith → HeldWithout → (contents : List Entry) (write : Write) (entry : Entry) →
    holds_entry (after_write contents write.entry write.add) entry
    ≡ cond (same_entry entry write.entry) write.add (holds_entry contents entry)
held_after_write with_law without_law contents write entry = by write.add
  where
    or_else : (b c : Bool) → (b || c) ≡ cond b true c
    or_else true c = refl
    or_else false c = refl

    and_not : (b c : Bool) → (not b && c) ≡ cond b false c
    and_not true c = refl
    and_not false c = refl

    by : (add : Bool) → holds_entry (after_write contents write.entry add) entry
        ≡ cond (same_entry entry write.entry) add (holds_entry contents entry)
    by true = with_law contents write.entry entry ∙ or_else (same_entry entry write.entry) (holds_entry contents entry)
    by false =
        without_law contents write.entry entry ∙ and_not (same_entry entry write.entry) (holds_entry contents entry)

pub held_after : HeldWith → HeldWithout → (writes : List Write) (contents : List Entry) (entry : Entry) →
    holds_entry (after_writes contents writes) entry ≡ bit_after (holds_entry contents entry) entry writes
held_after with_law without_law [] contents entry = refl
held_after with_law without_law (write ∷ writes) contents entry =
    held_after with_law without_law writes (after_write contents write.entry write.add) entry
    ∙ ap (λ bit. bit_after bit entry writes) (held_after_write with_law without_law contents write entry)

pub answers_after : HeldWith → HeldWithout → (tuples : List Entry) (writes : List Write) (contents : List Entry)
    (mask : ℕ) → AreBitsBy (holds_entry contents) tuples mask →
    answers_over (after_writes contents writes) tuples ≡ patched tuples writes mask
answers_after with_law without_law [] writes contents mask bits = refl
answers_after with_law without_law (tuple ∷ tuples) writes contents mask bits =
    mask_with_bit (holds_entry (after_writes contents writes) tuple)
    (map (holds_entry (after_writes contents writes)) tuples)
    ∙ (λ i. with_bit (answers_after with_law without_law tuples writes contents (mask / 2) bits.1 i)
    ((held_after with_law without_law writes contents tuple
    ∙ ap (λ bit. bit_after bit tuple writes) (sym bits.0)) i))

-- which masks agree

-- the entry is one of the tuples, with this bit in the mask
abbrev pub HasBit : List Entry → ℕ → Entry → Bool → Type 0
HasBit [] mask entry bit = ⊥
HasBit (tuple ∷ tuples) mask entry bit = ((tuple ≡ entry) × (is_odd mask ≡ bit)) ⊎ HasBit tuples (mask / 2) entry bit

pub and_true : (a b : Bool) → (a && b) ≡ true → (a ≡ true) × (b ≡ true)
and_true true b e = (refl, e)
and_true false b e = absurd (cc)

pub both_true : (a b : Bool) → a ≡ true → b ≡ true → (a && b) ≡ true
both_true true b one two = two
both_true false b one two = absurd (cc)

same_true : (entry : Entry) → same_entry entry entry ≡ true
same_true entry = ap is_eq (tied_itself entries_total entry)

same_is : (one two : Entry) → same_entry one two ≡ true → one ≡ two
same_is one two e = exact one two (tied (entry_cmp one two) e)
  where
    tied : (r : Ordering) → is_eq r ≡ true → r ≡ Equal
    tied Less e = absurd (cc)
    tied Equal e = refl
    tied Greater e = absurd (cc)

one_is : (a b : Bool) → is_one a b ≡ true → b ≡ a
one_is true b e = e
one_is false true e = absurd (cc)
one_is false false e = refl

is_one_itself : (a : Bool) → is_one a a ≡ true
is_one_itself true = refl
is_one_itself false = refl

alike_is : (s o : Bool) → (not s || o) ≡ true → s ≡ true → o ≡ true
alike_is true o e same = e
alike_is false o e same = absurd (cc)

alike_by : (s o : Bool) → (s ≡ true → o ≡ true) → (not s || o) ≡ true
alike_by true o f = f refl
alike_by false o f = refl

pub bits_are : (tuples : List Entry) (mask : ℕ) (entry : Entry) (bit other : Bool) →
    has_bits tuples mask entry bit ≡ true → HasBit tuples mask entry other → bit ≡ other
bits_are [] mask entry bit other e has = absurd has
bits_are (tuple ∷ tuples) mask entry bit other e (inl (same, odd)) =
    let first = and_true (is_alike tuple (is_odd mask) entry bit) (has_bits tuples (mask / 2) entry bit) e in
    one_is (is_odd mask) bit
    (alike_is (same_entry entry tuple) (is_one (is_odd mask) bit) first.0
    (subst (λ t. same_entry entry t ≡ true) (sym same) (same_true entry)))
    ∙ odd
bits_are (tuple ∷ tuples) mask entry bit other e (inr later) =
    bits_are tuples (mask / 2) entry bit other
    (and_true (is_alike tuple (is_odd mask) entry bit) (has_bits tuples (mask / 2) entry bit) e).1 later

pub agreed : (tuples others : List Entry) (mask other_mask : ℕ) (entry : Entry) (one two : Bool) →
    agrees tuples mask others other_mask ≡ true → HasBit tuples mask entry one → HasBit others other_mask entry two →
    one ≡ two
agreed [] others mask other_mask entry one two e has other = absurd has
agreed (tuple ∷ tuples) others mask other_mask entry one two e (inl (same, odd)) other =
    let first =
    and_true (has_bits others other_mask tuple (is_odd mask)) (agrees tuples (mask / 2) others other_mask) e in
    sym odd
    ∙ bits_are others other_mask entry (is_odd mask) two
    (subst (λ t. has_bits others other_mask t (is_odd mask) ≡ true) same first.0) other
agreed (tuple ∷ tuples) others mask other_mask entry one two e (inr later) other =
    agreed tuples others (mask / 2) other_mask entry one two
    (and_true (has_bits others other_mask tuple (is_odd mask)) (agrees tuples (mask / 2) others other_mask) e).1 later
    other

-- bits by one test agree
pub bits_by_agree : (test : Entry → Bool) (tuples : List Entry) (mask : ℕ) (entry : Entry) →
    AreBitsBy test tuples mask → has_bits tuples mask entry (test entry) ≡ true
bits_by_agree test [] mask entry bits = refl
bits_by_agree test (tuple ∷ tuples) mask entry bits =
    both_true (is_alike tuple (is_odd mask) entry (test entry)) (has_bits tuples (mask / 2) entry (test entry))
    (alike_by (same_entry entry tuple) (is_one (is_odd mask) (test entry))
    (λ same. subst (λ b. is_one b (test entry) ≡ true)
    (ap test (same_is entry tuple same) ∙ sym bits.0) (is_one_itself (test entry))))
    (bits_by_agree test tuples (mask / 2) entry bits.1)

pub masks_by_agree : (test : Entry → Bool) (tuples others : List Entry) (mask other_mask : ℕ) →
    AreBitsBy test tuples mask → AreBitsBy test others other_mask → agrees tuples mask others other_mask ≡ true
masks_by_agree test [] others mask other_mask bits other_bits = refl
masks_by_agree test (tuple ∷ tuples) others mask other_mask bits other_bits =
    both_true (has_bits others other_mask tuple (is_odd mask)) (agrees tuples (mask / 2) others other_mask)
    (subst (λ b. has_bits others other_mask tuple b ≡ true) (sym bits.0)
    (bits_by_agree test others other_mask tuple other_bits))
    (masks_by_agree test tuples others (mask / 2) other_mask bits.1 other_bits)

pub by_bits : (test : Entry → Bool) (tuples : List Entry) (mask : ℕ) →
    ((entry : Entry) (bit : Bool) → HasBit tuples mask entry bit → bit ≡ test entry) → AreBitsBy test tuples mask
by_bits test [] mask all = tt
by_bits test (tuple ∷ tuples) mask all = (
  all tuple (is_odd mask) (inl (refl, refl)),
  by_bits test tuples (mask / 2) (λ entry bit has. all entry bit (inr has)),
)

-- contents that hold the tuples whose bit is 1, put to others

abbrev pub put_where : Bool → Entry → List Entry → List Entry
put_where true entry contents = with_entry contents entry
put_where false entry contents = contents

abbrev pub put_ones : List Entry → ℕ → List Entry → List Entry
put_ones [] mask contents = contents
put_ones (tuple ∷ tuples) mask contents = put_where (is_odd mask) tuple (put_ones tuples (mask / 2) contents)

pub ones_held : HeldWith → (tuples : List Entry) (mask : ℕ) (contents : List Entry) (entry : Entry) →
    HasBit tuples mask entry true → holds_entry (put_ones tuples mask contents) entry ≡ true
ones_held law [] mask contents entry has = absurd has
ones_held law (tuple ∷ tuples) mask contents entry (inl (same, odd)) =
    subst (λ b. holds_entry (put_where b tuple (put_ones tuples (mask / 2) contents)) entry ≡ true) (sym odd)
    (law (put_ones tuples (mask / 2) contents) tuple entry
    ∙ ap (λ b. b || holds_entry (put_ones tuples (mask / 2) contents) entry)
    (subst (λ t. same_entry entry t ≡ true) (sym same) (same_true entry)))
ones_held law (tuple ∷ tuples) mask contents entry (inr later) =
    by (is_odd mask) (ones_held law tuples (mask / 2) contents entry later)
  where
    or_true : (a b : Bool) → b ≡ true → (a || b) ≡ true
    or_true true b e = refl
    or_true false b e = e

    by : (bit : Bool) → holds_entry (put_ones tuples (mask / 2) contents) entry ≡ true →
        holds_entry (put_where bit tuple (put_ones tuples (mask / 2) contents)) entry ≡ true
    by true held =
        law (put_ones tuples (mask / 2) contents) tuple entry
        ∙ or_true (same_entry entry tuple) (holds_entry (put_ones tuples (mask / 2) contents) entry) held
    by false held = held

pub base_held : HeldWith → (tuples : List Entry) (mask : ℕ) (contents : List Entry) (entry : Entry) →
    holds_entry contents entry ≡ true → holds_entry (put_ones tuples mask contents) entry ≡ true
base_held law [] mask contents entry held = held
base_held law (tuple ∷ tuples) mask contents entry held =
    by (is_odd mask) (base_held law tuples (mask / 2) contents entry held)
  where
    or_true : (a b : Bool) → b ≡ true → (a || b) ≡ true
    or_true true b e = refl
    or_true false b e = e

    by : (bit : Bool) → holds_entry (put_ones tuples (mask / 2) contents) entry ≡ true →
        holds_entry (put_where bit tuple (put_ones tuples (mask / 2) contents)) entry ≡ true
    by true held =
        law (put_ones tuples (mask / 2) contents) tuple entry
        ∙ or_true (same_entry entry tuple) (holds_entry (put_ones tuples (mask / 2) contents) entry) held
    by false held = held

-- what is held was held, or is a tuple whose bit is 1
pub held_ones : HeldWith → (tuples : List Entry) (mask : ℕ) (contents : List Entry) (entry : Entry) →
    holds_entry (put_ones tuples mask contents) entry ≡ true →
    HasBit tuples mask entry true ⊎ (holds_entry contents entry ≡ true)
held_ones law [] mask contents entry held = inr held
held_ones law (tuple ∷ tuples) mask contents entry held =
    by (held_ones law tuples (mask / 2) contents entry) (is_odd mask) refl held
  where
    later : HasBit tuples (mask / 2) entry true ⊎ (holds_entry contents entry ≡ true) → HasBit (tuple ∷ tuples) mask entry true ⊎ (holds_entry contents entry ≡ true)
    later (inl has) = inl (inr has)
    later (inr held) = inr held

    here : (holds_entry (put_ones tuples (mask / 2) contents) entry ≡ true → HasBit tuples (mask / 2) entry true ⊎ (holds_entry contents entry ≡ true)) →
        (same held : Bool) → same_entry entry tuple ≡ same → holds_entry (put_ones tuples (mask / 2) contents) entry ≡ held → (same || held) ≡ true →
        is_odd mask ≡ true → HasBit (tuple ∷ tuples) mask entry true ⊎ (holds_entry contents entry ≡ true)
    here before true held same is e odd = inl (inl (sym (same_is entry tuple same), odd))
    here before false held same is e odd = later (before (is ∙ e))

    by : (holds_entry (put_ones tuples (mask / 2) contents) entry ≡ true → HasBit tuples (mask / 2) entry true ⊎ (holds_entry contents entry ≡ true)) →
        (bit : Bool) → is_odd mask ≡ bit → holds_entry (put_where bit tuple (put_ones tuples (mask / 2) contents)) entry ≡ true → HasBit (tuple ∷ tuples) mask entry true ⊎ (holds_entry contents entry ≡ true)
    by before true odd held =
        here before (same_entry entry tuple) (holds_entry (put_ones tuples (mask / 2) contents) entry) refl refl
        (sym (law (put_ones tuples (mask / 2) contents) tuple entry) ∙ held) odd
    by before false odd held = later (before held)

-- where two masks agree with themselves and with one another, one test gives the bits of both
module _ (law : HeldWith) (tuples others : List Entry) (mask other_mask : ℕ)
    (one : agrees tuples mask tuples mask ≡ true) (two : agrees others other_mask others other_mask ≡ true)
    (both : agrees tuples mask others other_mask ≡ true) where
  abbrev pub shown : List Entry
  shown = put_ones tuples mask (put_ones others other_mask [])

  ones : (entry : Entry) → holds_entry shown entry ≡ true →
      HasBit tuples mask entry true ⊎ HasBit others other_mask entry true
  ones entry held = by (held_ones law tuples mask (put_ones others other_mask []) entry held)
    where
      never : HasBit others other_mask entry true ⊎ (false ≡ true) → HasBit others other_mask entry true
      never (inl has) = has
      never (inr e) = absurd (cc)

      by : HasBit tuples mask entry true ⊎ (holds_entry (put_ones others other_mask []) entry ≡ true) →
          HasBit tuples mask entry true ⊎ HasBit others other_mask entry true
      by (inl has) = inl has
      by (inr held) = inr (never (held_ones law others other_mask [] entry held))

  first_bits : AreBitsBy (holds_entry shown) tuples mask
  first_bits = by_bits (holds_entry shown) tuples mask all
    where
      zero_bit : (entry : Entry) (held : Bool) → holds_entry shown entry ≡ held → HasBit tuples mask entry false →
          false ≡ held
      zero_bit entry false e has = refl
      zero_bit entry true e has = by (ones entry e)
        where
          by : HasBit tuples mask entry true ⊎ HasBit others other_mask entry true → false ≡ true
          by (inl other) = agreed tuples tuples mask mask entry false true one has other
          by (inr other) = agreed tuples others mask other_mask entry false true both has other

      all : (entry : Entry) (bit : Bool) → HasBit tuples mask entry bit → bit ≡ holds_entry shown entry
      all entry true has = sym (ones_held law tuples mask (put_ones others other_mask []) entry has)
      all entry false has = zero_bit entry (holds_entry shown entry) refl has

  second_bits : AreBitsBy (holds_entry shown) others other_mask
  second_bits = by_bits (holds_entry shown) others other_mask all
    where
      zero_bit : (entry : Entry) (held : Bool) → holds_entry shown entry ≡ held → HasBit others other_mask entry false →
          false ≡ held
      zero_bit entry false e has = refl
      zero_bit entry true e has = by (ones entry e)
        where
          by : HasBit tuples mask entry true ⊎ HasBit others other_mask entry true → false ≡ true
          by (inl other) = sym (agreed tuples others mask other_mask entry true false both other has)
          by (inr other) = agreed others others other_mask other_mask entry false true two has other

      all : (entry : Entry) (bit : Bool) → HasBit others other_mask entry bit → bit ≡ holds_entry shown entry
      all entry true has =
          sym (base_held law tuples mask (put_ones others other_mask []) entry
          (ones_held law others other_mask [] entry has))
      all entry false has = zero_bit entry (holds_entry shown entry) refl has

  pub shows_first : mask < 2 ^ length tuples → answers_over shown tuples ≡ mask
  shows_first less = mask_by (holds_entry shown) tuples mask first_bits less

  pub shows_second : other_mask < 2 ^ length others → answers_over shown others ≡ other_mask
  shows_second less = mask_by (holds_entry shown) others other_mask second_bits less

-- the bits of a patched mask

odd_number : (mask : ℕ) → bit_at mask 0 ≡ cond (is_odd mask) 1 0
odd_number mask = bit_at_lowest mask ∙ by (mask % 2) (omega arith)
  where
    by : (r : ℕ) → r < 2 → r ≡ cond (nat_eq r 1) 1 0
    by zero less = refl
    by (suc zero) less = refl
    by (suc (suc r)) less = absurd (let s : suc (suc r) < 2 = less in omega (arith, s))

pub unwritten : (writes : List Write) (entry : Entry) (bit : Bool) → IsUnwritten writes entry →
    bit_after bit entry writes ≡ bit
unwritten [] entry bit none = refl
unwritten (write ∷ writes) entry bit none =
    ap (λ b. bit_after b entry writes) (by (same_entry entry write.entry) refl)
    ∙ unwritten writes entry bit (λ other there. none other (tail_contained write other writes there))
  where
    by : (same : Bool) → same_entry entry write.entry ≡ same → cond same write.add bit ≡ bit
    by true e = absurd (none write (head_contained write writes) (sym (same_is entry write.entry e)))
    by false e = refl

pub last_write : (earlier later : List Write) (entry : Entry) (add bit : Bool) → IsUnwritten later entry →
    bit_after bit entry (earlier ++ (record { entry = entry; add = add } ∷ later)) ≡ add
last_write [] later entry add bit none =
    ap (λ s. bit_after (cond s add bit) entry later) (same_true entry) ∙ unwritten later entry add none
last_write (write ∷ earlier) later entry add bit none =
    last_write earlier later entry add (cond (same_entry entry write.entry) write.add bit) none

lowest_patched : (writes : List Write) (entry : Entry) (mask rest : ℕ) →
    IsPatchedBit writes entry (bit_at mask 0) (bit_at (with_bit rest (bit_after (is_odd mask) entry writes)) 0)
lowest_patched writes entry mask rest =
    let number = odd_number (with_bit rest (bit_after (is_odd mask) entry writes))
    ∙ ap (λ (b : Bool). cond {A = ℕ} b 1 0) (odd_with_bit rest (bit_after (is_odd mask) entry writes)) in
    let last : (add : Bool) → IsLastWrite writes entry add → bit_after (is_odd mask) entry writes ≡ add =
    λ add is. ap (bit_after (is_odd mask) entry) is.stands
    ∙ last_write is.earlier is.later entry add (is_odd mask) is.last in
    record {
      added = λ is. number ∙ ap (λ (b : Bool). cond {A = ℕ} b 1 0) (last true is);
      removed = λ is. number ∙ ap (λ (b : Bool). cond {A = ℕ} b 1 0) (last false is);
      kept = λ none. number ∙ ap (λ (b : Bool). cond {A = ℕ} b 1 0) (unwritten writes entry (is_odd mask) none)
          ∙ sym (odd_number mask);
    }

pub patched_bit : (tuples : List Entry) (writes : List Write) (mask k : ℕ) (entry : Entry) →
    slice_get tuples k ≡ Some entry → IsPatchedBit writes entry (bit_at mask k) (bit_at (patched tuples writes mask) k)
patched_bit [] writes mask k entry e = absurd (cc)
patched_bit (tuple ∷ tuples) writes mask zero entry e =
    subst (λ t. IsPatchedBit writes entry (bit_at mask 0)
    (bit_at (with_bit (patched tuples writes (mask / 2)) (bit_after (is_odd mask) t writes)) 0))
    (sym (some_inside e)) (lowest_patched writes entry mask (patched tuples writes (mask / 2)))
patched_bit (tuple ∷ tuples) writes mask (suc k) entry e =
    let bit = bit_after (is_odd mask) tuple writes in
    let rest = patched tuples writes (mask / 2) in
    subst (λ n. IsPatchedBit writes entry n (bit_at (with_bit rest bit) (suc k))) (sym (bit_at-suc mask k))
    (subst (λ n. IsPatchedBit writes entry (bit_at (mask / 2) k) n)
    (sym (bit_at-suc (with_bit rest bit) k ∙ ap (λ m. bit_at m k) (half_with_bit rest bit)))
    (patched_bit tuples writes (mask / 2) k entry e))
