-- Masks over tuples, bit by bit.
use Rattle.std.proofs.Common.{◌≡◌, ℕ, zero, suc, ◌+◌, ◌*◌, ◌/◌, ◌%◌, ◌^◌, ◌<◌, ◌≤◌, Bool, true, false, not, ◌&&◌, ◌||◌}
use Rattle.std.specs.List.{Contains, list_any}
use Rattle.std.proofs.Common.{◌-◌, inl, inr, ◌↔◌}
use Rattle.std.proofs.Common.{List, [], ◌∷◌, length, drop, get_or, map, refl, sym, ap, subst, ◌∙◌, nat_eq, arith}
use Rattle.std.proofs.lemmas.List.{drop_all, drop_more}
use Rattle.std.proofs.lemmas.Bool.{eqb-true}
use Rattle.std.proofs.Math.Nat.{pow-suc}
use Rattle.box_contents.specs.declared.entry.Entry.{Entry}
use Rattle.box_contents.specs.Contents.{holds_entry, same_entry, with_entry, without_entry}
use Rattle.box_contents.specs.Laws.{HeldIsMember, HeldWith, HeldWithout}
use Rattle.box_masks.specs.Writes.{after_write}
use Rattle.net_plan.proofs.Rising.{head_contained, contained_cases, none_contained}
use Rattle.packet_state.specs.Answers.{mask_of}
use Rattle.abstract_step.specs.Masks.{marked, bit_after, mask_after}

-- the tuple at an index stands before those behind it
next_tuple : (tuples : List Entry) (i : ℕ) (tuple : Entry) → i < length tuples → tuple ≡ get_or tuples i tuple →
    drop i tuples ≡ tuple ∷ drop (i + 1) tuples
next_tuple tuples i tuple inside here =
    drop_more tuples i tuple inside ∙ ap (λ t. t ∷ drop (i + 1) tuples) (sym here)

-- one tuple with its bit
with_bit : (tuple : Entry) (tuples : List Entry) (mask : ℕ) (entry : Entry) →
    holds_entry (marked (tuple ∷ tuples) mask) entry
    ≡ ((nat_eq (mask % 2) 1 && same_entry entry tuple) || holds_entry (marked tuples (mask / 2)) entry)
with_bit tuple tuples mask entry = by (nat_eq (mask % 2) 1) refl
  where
    by : (b : Bool) → nat_eq (mask % 2) 1 ≡ b → holds_entry (marked (tuple ∷ tuples) mask) entry
        ≡ ((nat_eq (mask % 2) 1 && same_entry entry tuple) || holds_entry (marked tuples (mask / 2)) entry)
    by true e = rw e refl
    by false e = rw e refl

-- nothing is marked by the mask 0
pub none_in : (tuples : List Entry) (mask : ℕ) (entry : Entry) → mask ≡ 0 →
    false ≡ holds_entry (marked tuples mask) entry
none_in tuples mask entry none = sym (ap (λ (m : ℕ). holds_entry (marked tuples m) entry) none ∙ empty tuples)
  where
    empty : (some : List Entry) → holds_entry (marked some 0) entry ≡ false
    empty [] = refl
    empty (tuple ∷ some) = empty some

or_left : (a b : Bool) → a ≡ true → (a || b) ≡ true
or_left true b e = refl
or_left false b e = absurd (let wrong : ◌≡◌ {A = Bool} false true = e in cc)

or_right : (a b : Bool) → a ≡ false → (a || b) ≡ b
or_right true b e = absurd (let wrong : ◌≡◌ {A = Bool} true false = e in cc)
or_right false b e = refl

module _ (tuples : List Entry) (entry : Entry) where
  abbrev pub held_from : ℕ → ℕ → Bool
  held_from i rest = holds_entry (marked (drop i tuples) rest) entry

  step : (i rest : ℕ) (tuple : Entry) → i < length tuples → tuple ≡ get_or tuples i tuple →
      held_from i rest
      ≡ ((nat_eq (rest % 2) 1 && same_entry entry tuple) || held_from (i + 1) (rest / 2))
  step i rest tuple inside here =
      ap (λ t. holds_entry (marked t rest) entry) (next_tuple tuples i tuple inside here)
      ∙ with_bit tuple (drop (i + 1) tuples) rest entry

  pub has_found : (whole found : Bool) (i rest : ℕ) (tuple : Entry) → i < length tuples →
      tuple ≡ get_or tuples i tuple → whole ≡ held_from i rest →
      found ≡ (nat_eq (rest % 2) 1 && same_entry entry tuple) → found ≡ true → true ≡ whole
  has_found whole found i rest tuple inside here so_far is passed =
      sym (so_far ∙ step i rest tuple inside here
      ∙ or_left (nat_eq (rest % 2) 1 && same_entry entry tuple) (held_from (i + 1) (rest / 2)) (sym is ∙ passed))

  pub has_not : (whole found : Bool) (i rest : ℕ) (tuple : Entry) → i < length tuples →
      tuple ≡ get_or tuples i tuple → whole ≡ held_from i rest →
      found ≡ (nat_eq (rest % 2) 1 && same_entry entry tuple) → found ≡ false →
      whole ≡ held_from (i + 1) (rest / 2)
  has_not whole found i rest tuple inside here so_far is failed =
      so_far ∙ step i rest tuple inside here
      ∙ or_right (nat_eq (rest % 2) 1 && same_entry entry tuple) (held_from (i + 1) (rest / 2)) (sym is ∙ failed)

  pub has_no_more : (whole : Bool) (i rest : ℕ) → rest ≡ 0 → whole ≡ held_from i rest → false ≡ whole
  has_no_more whole i rest none so_far = none_in (drop i tuples) rest entry none ∙ sym so_far

  pub has_none : (whole : Bool) (i rest : ℕ) → length tuples ≤ i → whole ≡ held_from i rest → false ≡ whole
  has_none whole i rest all so_far =
      sym (so_far ∙ ap (λ t. holds_entry (marked t rest) entry) (drop_all i tuples all))

-- a number with a bit in front
low_bit : (b : Bool) (bits : List Bool) → nat_eq (mask_of (b ∷ bits) % 2) 1 ≡ b
low_bit true bits =
    let one : (1 + 2 * mask_of bits) % 2 ≡ 1 = omega arith in ap (λ (n : ℕ). nat_eq n 1) one
low_bit false bits =
    let none : (2 * mask_of bits) % 2 ≡ 0 = omega arith in ap (λ (n : ℕ). nat_eq n 1) none

half : (b : Bool) (bits : List Bool) → mask_of (b ∷ bits) / 2 ≡ mask_of bits
half true bits = omega arith
half false bits = omega arith

whole_of : (b : Bool) (bits : List Bool) (rest : ℕ) → b ≡ nat_eq (rest % 2) 1 → mask_of bits ≡ rest / 2 →
    mask_of (b ∷ bits) ≡ rest
whole_of true bits rest low high =
    let one : rest % 2 ≡ 1 = eqb-true (rest % 2) 1 (sym low) in omega (arith, one, high)
whole_of false bits rest low high =
    let none : rest % 2 ≡ 0 = by (rest % 2) (omega arith) (sym low) in omega (arith, none, high)
  where
    by : (n : ℕ) → n < 2 → nat_eq n 1 ≡ false → n ≡ 0
    by zero less e = refl
    by (suc zero) less e = absurd (let wrong : ◌≡◌ {A = Bool} true false = e in cc)
    by (suc (suc n)) less e = absurd (omega (arith, less))

-- the tuples that pass a test, as a mask
module _ (h : Entry → Bool) where
  abbrev pub tells : Entry → List Entry → Bool
  tells entry tuples = list_any (λ tuple. h tuple && same_entry entry tuple) tuples

  marked_is : (tuples : List Entry) (entry : Entry) →
      holds_entry (marked tuples (mask_of (map h tuples))) entry ≡ tells entry tuples
  marked_is [] entry = refl
  marked_is (tuple ∷ tuples) entry =
      with_bit tuple tuples (mask_of (map h (tuple ∷ tuples))) entry
      ∙ ap (λ (b : Bool). (b && same_entry entry tuple)
      || holds_entry (marked tuples (mask_of (map h (tuple ∷ tuples)) / 2)) entry)
      (low_bit (h tuple) (map h tuples))
      ∙ ap (λ (n : ℕ). (h tuple && same_entry entry tuple) || holds_entry (marked tuples n) entry)
      (half (h tuple) (map h tuples))
      ∙ ap (λ (b : Bool). (h tuple && same_entry entry tuple) || b) (marked_is tuples entry)

module _ (held : HeldIsMember) where
  or_false : (b : Bool) → (b || false) ≡ b
  or_false true = refl
  or_false false = refl

  pub same_is : (one two : Entry) → same_entry one two ≡ true → two ≡ one
  same_is one two e =
      elim (contained_cases two one [] ((held (two ∷ []) one).0 (or_false (same_entry one two) ∙ e))) [
        | inl same ↦ same
        | inr none ↦ absurd (none_contained one none)
      ]

  pub itself : (one : Entry) → same_entry one one ≡ true
  itself one = sym (or_false (same_entry one one)) ∙ (held (one ∷ []) one).1 (head_contained one [])

  module _ (h : Entry → Bool) where
    told : (tuples : List Entry) (entry : Entry) → tells h entry tuples ≡ true → h entry ≡ true
    told [] entry e = absurd (let wrong : ◌≡◌ {A = Bool} false true = e in cc)
    told (tuple ∷ tuples) entry e =
        by (h tuple) (same_entry entry tuple) refl refl (told tuples entry)
      where
        by : (a b : Bool) → h tuple ≡ a → same_entry entry tuple ≡ b →
            (tells h entry tuples ≡ true → h entry ≡ true) → h entry ≡ true
        by true true one two later = ap h (sym (same_is entry tuple two)) ∙ one
        by true false one two later =
            later (sym (ap (λ (a : Bool). (a && same_entry entry tuple) || tells h entry tuples) one
            ∙ ap (λ (b : Bool). (true && b) || tells h entry tuples) two) ∙ e)
        by false b one two later =
            later (sym (ap (λ (a : Bool). (a && same_entry entry tuple) || tells h entry tuples) one) ∙ e)

    telling : (tuples : List Entry) (entry : Entry) → Contains tuples entry → h entry ≡ true →
        tells h entry tuples ≡ true
    telling [] entry there e = absurd (none_contained entry there)
    telling (tuple ∷ tuples) entry there e =
        elim (contained_cases tuple entry tuples there) [
          | inl same ↦
              let one : h tuple ≡ true = ap h same ∙ e in
              let two : same_entry entry tuple ≡ true =
              ap (same_entry entry) same ∙ itself entry in
              ap (λ (a : Bool). (a && same_entry entry tuple) || tells h entry tuples) one
              ∙ ap (λ (b : Bool). b || tells h entry tuples) two
          | inr later ↦ or_true (h tuple && same_entry entry tuple) (tells h entry tuples)
              (telling tuples entry later e)
        ]
      where
        or_true : (a b : Bool) → b ≡ true → (a || b) ≡ true
        or_true true b e = refl
        or_true false b e = e

    -- what the mask says of a tuple is what the test says
    pub marked_holds : (tuples : List Entry) (entry : Entry) → Contains tuples entry →
        holds_entry (marked tuples (mask_of (map h tuples))) entry ≡ h entry
    marked_holds tuples entry there =
        marked_is h tuples entry ∙ by (h entry) (tells h entry tuples) refl refl
      where
        by : (a b : Bool) → h entry ≡ a → tells h entry tuples ≡ b → tells h entry tuples ≡ h entry
        by true b one two = telling tuples entry there one ∙ sym one
        by false false one two = two ∙ sym one
        by false true one two =
            absurd (let wrong : ◌≡◌ {A = Bool} false true = sym one ∙ told tuples entry two in cc)

  -- a write changes the mask as it changes the answers
  module _ (with_law : HeldWith) (without_law : HeldWithout) (contents : List Entry) (entry : Entry) where
    after_bit : (add : Bool) (tuple : Entry) (bits : List Bool) (old : ℕ) → mask_of bits ≡ old →
        bit_after (same_entry tuple entry) add (mask_of (holds_entry contents tuple ∷ bits) % 2) + 2 * old
        ≡ mask_of (holds_entry (after_write contents entry add) tuple ∷ bits)
    after_bit true tuple bits old is =
        by (same_entry tuple entry) (holds_entry contents tuple) refl refl
      where
        by : (s b : Bool) → same_entry tuple entry ≡ s → holds_entry contents tuple ≡ b →
            bit_after (same_entry tuple entry) true (mask_of (holds_entry contents tuple ∷ bits) % 2) + 2 * old
            ≡ mask_of (holds_entry (with_entry contents entry) tuple ∷ bits)
        by s b one two =
            ap (λ (x : Bool). bit_after x true (mask_of (holds_entry contents tuple ∷ bits) % 2) + 2 * old) one
            ∙ ap (λ (x : Bool). bit_after s true (mask_of (x ∷ bits) % 2) + 2 * old) two
            ∙ shape s b
            ∙ ap (λ (x : Bool). mask_of (x ∷ bits))
            (sym (with_law contents entry tuple ∙ ap (λ (x : Bool). x || holds_entry contents tuple) one
            ∙ ap (λ (x : Bool). s || x) two))
          where
            shape : (s b : Bool) → bit_after s true (mask_of (b ∷ bits) % 2) + 2 * old ≡ mask_of ((s || b) ∷ bits)
            shape true b = omega (arith, is)
            shape false true = omega (arith, is)
            shape false false = omega (arith, is)
    after_bit false tuple bits old is =
        by (same_entry tuple entry) (holds_entry contents tuple) refl refl
      where
        by : (s b : Bool) → same_entry tuple entry ≡ s → holds_entry contents tuple ≡ b →
            bit_after (same_entry tuple entry) false (mask_of (holds_entry contents tuple ∷ bits) % 2) + 2 * old
            ≡ mask_of (holds_entry (without_entry contents entry) tuple ∷ bits)
        by s b one two =
            ap (λ (x : Bool). bit_after x false (mask_of (holds_entry contents tuple ∷ bits) % 2) + 2 * old) one
            ∙ ap (λ (x : Bool). bit_after s false (mask_of (x ∷ bits) % 2) + 2 * old) two
            ∙ shape s b
            ∙ ap (λ (x : Bool). mask_of (x ∷ bits))
            (sym (without_law contents entry tuple ∙ ap (λ (x : Bool). not x && holds_entry contents tuple) one
            ∙ ap (λ (x : Bool). not s && x) two))
          where
            shape : (s b : Bool) →
                bit_after s false (mask_of (b ∷ bits) % 2) + 2 * old ≡ mask_of ((not s && b) ∷ bits)
            shape true b = omega (arith, is)
            shape false true = omega (arith, is)
            shape false false = omega (arith, is)

    pub mask_written : (add : Bool) (tuples : List Entry) →
        mask_after tuples (mask_of (map (holds_entry contents) tuples)) entry add
        ≡ mask_of (map (holds_entry (after_write contents entry add)) tuples)
    mask_written add [] = refl
    mask_written add (tuple ∷ tuples) =
        let old : List Bool = map (holds_entry contents) tuples in
        let new : List Bool = map (holds_entry (after_write contents entry add)) tuples in
        let bit : ℕ = mask_of (holds_entry contents tuple ∷ old) in
        ap (λ (n : ℕ). bit_after (same_entry tuple entry) add (bit % 2) + 2 * mask_after tuples n entry add)
        (half (holds_entry contents tuple) old)
        ∙ ap (λ (n : ℕ). bit_after (same_entry tuple entry) add (bit % 2) + 2 * n) (mask_written add tuples)
        ∙ ap (λ (n : ℕ). bit_after (same_entry tuple entry) add n + 2 * mask_of new)
        (same_low (holds_entry contents tuple) old new)
        ∙ after_bit add tuple new (mask_of new) refl
      where
        same_low : (b : Bool) (one two : List Bool) → mask_of (b ∷ one) % 2 ≡ mask_of (b ∷ two) % 2
        same_low true one two = omega arith
        same_low false one two = omega arith

-- the tuples with bit 1 from one place on are among all of them
module _ (held : HeldIsMember) (tuples : List Entry) (mask : ℕ) where
  abbrev pub AreAmong : ℕ → ℕ → Type 0
  AreAmong i rest =
      (entry : Entry) → holds_entry (marked (drop i tuples) rest) entry ≡ true →
      holds_entry (marked tuples mask) entry ≡ true

  from_next : (i rest : ℕ) (tuple : Entry) → i < length tuples → tuple ≡ get_or tuples i tuple → (entry : Entry) →
      holds_entry (marked (drop i tuples) rest) entry
      ≡ ((nat_eq (rest % 2) 1 && same_entry entry tuple) || holds_entry (marked (drop (i + 1) tuples) (rest / 2)) entry)
  from_next i rest tuple inside here entry = step tuples entry i rest tuple inside here

  either : (a b : Bool) → b ≡ true → (a || b) ≡ true
  either true b e = refl
  either false b e = e

  pub among_next : (i rest : ℕ) (tuple : Entry) → i < length tuples → tuple ≡ get_or tuples i tuple →
      AreAmong i rest → AreAmong (i + 1) (rest / 2)
  among_next i rest tuple inside here among entry there =
      among entry (from_next i rest tuple inside here entry
      ∙ either (nat_eq (rest % 2) 1 && same_entry entry tuple)
      (holds_entry (marked (drop (i + 1) tuples) (rest / 2)) entry) there)

  -- a tuple with bit 1 is among them
  pub one_marked : (i rest : ℕ) (tuple : Entry) → i < length tuples → tuple ≡ get_or tuples i tuple →
      AreAmong i rest → (rest % 2 ≡ 0 → ⊥) → holds_entry (marked tuples mask) tuple ≡ nat_eq (rest % 2) 1
  one_marked i rest tuple inside here among odd =
      let one : rest % 2 ≡ 1 = odd_is (rest % 2) (omega arith) odd in
      let bit : nat_eq (rest % 2) 1 ≡ true = ap (λ (n : ℕ). nat_eq n 1) one in
      let both : (nat_eq (rest % 2) 1 && same_entry tuple tuple) ≡ true =
      ap (λ (b : Bool). b && same_entry tuple tuple) bit ∙ itself held tuple in
      among tuple (from_next i rest tuple inside here tuple
      ∙ or_left (nat_eq (rest % 2) 1 && same_entry tuple tuple)
      (holds_entry (marked (drop (i + 1) tuples) (rest / 2)) tuple) both) ∙ sym bit
    where
      odd_is : (n : ℕ) → n < 2 → (n ≡ 0 → ⊥) → n ≡ 1
      odd_is zero less odd = absurd (odd refl)
      odd_is (suc zero) less odd = refl
      odd_is (suc (suc n)) less odd = absurd (omega (arith, less))

pub none_marked : (held : Bool) (rest : ℕ) → rest % 2 ≡ 0 → held ≡ false → held ≡ nat_eq (rest % 2) 1
none_marked held rest even none = none ∙ sym (ap (λ (n : ℕ). nat_eq n 1) even)

-- one tuple of a check of all
module _ (h : Entry → Bool) (tuples : List Entry) where
  abbrev pub told_from : ℕ → ℕ → Type 0
  told_from i rest = mask_of (map h (drop i tuples)) ≡ rest

  from_is : (i : ℕ) (tuple : Entry) → i < length tuples → tuple ≡ get_or tuples i tuple →
      mask_of (map h (drop i tuples)) ≡ mask_of (h tuple ∷ map h (drop (i + 1) tuples))
  from_is i tuple inside here = ap (λ t. mask_of (map h t)) (next_tuple tuples i tuple inside here)

  pub told_next : (i rest : ℕ) (tuple : Entry) → i < length tuples → tuple ≡ get_or tuples i tuple →
      h tuple ≡ nat_eq (rest % 2) 1 → told_from i rest ↔ told_from (i + 1) (rest / 2)
  told_next i rest tuple inside here low = (
    λ is. sym (half (h tuple) (map h (drop (i + 1) tuples)))
        ∙ ap (λ (n : ℕ). n / 2) (sym (from_is i tuple inside here) ∙ is),
    λ is. from_is i tuple inside here ∙ whole_of (h tuple) (map h (drop (i + 1) tuples)) rest low is,
  )

  pub told_not : (i rest : ℕ) (tuple : Entry) → i < length tuples → tuple ≡ get_or tuples i tuple →
      (h tuple ≡ nat_eq (rest % 2) 1 → ⊥) → told_from i rest → ⊥
  told_not i rest tuple inside here apart is =
      apart (sym (low_bit (h tuple) (map h (drop (i + 1) tuples)))
      ∙ ap (λ (n : ℕ). nat_eq (n % 2) 1) (sym (from_is i tuple inside here) ∙ is))

  pub told_end : (i rest : ℕ) → length tuples ≤ i → rest < 2 ^ (length tuples - i) → told_from i rest
  told_end i rest all less =
      let none : length tuples - i ≡ 0 = omega (arith, all) in
      let small : rest < 2 ^ 0 = subst (λ (n : ℕ). rest < 2 ^ n) none less in
      ap (λ (t : List Entry). mask_of (map h t)) (drop_all i tuples all) ∙ zero_is rest small
    where
      zero_is : (n : ℕ) → n < 2 ^ 0 → 0 ≡ n
      zero_is n less = omega (arith, less)

  pub rest_less : (i rest : ℕ) → i < length tuples → rest < 2 ^ (length tuples - i) →
      rest / 2 < 2 ^ (length tuples - (i + 1))
  rest_less i rest inside less =
      let count : length tuples - i ≡ suc (length tuples - (i + 1)) = omega (arith, inside) in
      let wide : rest < 2 ^ suc (length tuples - (i + 1)) = subst (λ (n : ℕ). rest < 2 ^ n) count less in
      omega (arith, wide, pow-suc 2 (length tuples - (i + 1)))

-- what a check of all keeps
module _ (held : HeldIsMember) (tuples : List Entry) (mask : ℕ) where
  abbrev pub IsChecked : ℕ → ℕ → Type 0
  IsChecked i rest =
      (rest < 2 ^ (length tuples - i))
      × ((mask_of (map (holds_entry (marked tuples mask)) tuples) ≡ mask)
      ↔ told_from (holds_entry (marked tuples mask)) tuples i rest)
      × AreAmong held tuples mask i rest

  pub check_next : (i rest : ℕ) (tuple : Entry) → i < length tuples → tuple ≡ get_or tuples i tuple →
      holds_entry (marked tuples mask) tuple ≡ nat_eq (rest % 2) 1 → IsChecked i rest → IsChecked (i + 1) (rest / 2)
  check_next i rest tuple inside here low checked =
      let h = holds_entry (marked tuples mask) in
      let next = told_next h tuples i rest tuple inside here low in (
        rest_less h tuples i rest inside checked.0,
        (λ whole. next.0 (checked.1.0 whole), λ rest. checked.1.1 (next.1 rest)),
        among_next held tuples mask i rest tuple inside here checked.2,
      )

  pub check_marked : (i rest : ℕ) → i < length tuples → (rest % 2 ≡ 0 → ⊥) → IsChecked i rest →
      IsChecked (i + 1) (rest / 2)
  check_marked i rest inside odd checked =
      let tuple : Entry = get_or tuples i (record { relation = 0; tuple = 0 }) in
      let here : tuple ≡ get_or tuples i tuple = there tuples i (record { relation = 0; tuple = 0 }) inside in
      check_next i rest tuple inside here (one_marked held tuples mask i rest tuple inside here checked.2 odd) checked
    where
      there : (some : List Entry) (k : ℕ) (other : Entry) → k < length some →
          get_or some k other ≡ get_or some k (get_or some k other)
      there [] k other less = absurd (omega (arith, less))
      there (one ∷ some) zero other less = refl
      there (one ∷ some) (suc k) other less = there some k other (omega (arith, less))
