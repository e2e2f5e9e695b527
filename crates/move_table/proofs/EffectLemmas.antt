-- The effect of writes on the masks at a packet, bit by bit.
use Rattle.std.proofs.Common.{◌≡◌, ℕ, ◌+◌, ◌-◌, ◌*◌, ◌/◌, ◌%◌, ◌^◌, ◌<◌, ◌≤◌, zero, suc, Bool, true, false, cond}
use Rattle.std.proofs.Common.{List, [], ◌∷◌, length, Option, Some, refl, sym, ap, subst, ◌∙◌, arith, nat_eq}
use Rattle.std.proofs.Common.{bit_and, bit_or, min, max}
use Rattle.std.specs.Int.{bit_at, bit_not, w16}
use Rattle.std.proofs.Math.Nat.{pow-suc}
use Rattle.std.proofs.Math.Pow.{pow_mono}
use Rattle.std.proofs.lemmas.List.{length-map}
use Rattle.std.proofs.lemmas.Nat.{and_le_l}
use Rattle.std.proofs.lemmas.Nat.Bits.{bit_at_lowest, bit_at-suc, bit_at-zero, bit_at_and, bit_at_or, bit_at_not}
use Rattle.std.proofs.lemmas.Nat.Bits.{same_from_bits_below}
use Rattle.box_contents.specs.declared.entry.Entry.{Entry}
use Rattle.box_contents.specs.Contents.{same_entry, holds_entry}
use Rattle.box_contents.specs.Laws.{HeldWith, HeldWithout}
use Rattle.net_plan.specs.declared.plan.Plan.{Plan}
use Rattle.net_plan.specs.Reading.{tuple_at}
use Rattle.packet_state.specs.Answers.{class_of_box, answers}
use Rattle.box_masks.specs.declared.write.Write.{Write}
use Rattle.box_masks.specs.Bits.{is_odd, with_bit, bit_after, patched}
use Rattle.box_masks.proofs.BitLemmas.{AreBitsBy, bits_by, half_with_bit}
use Rattle.box_masks.specs.Writes.{AreShown, IsMaskOf, after_writes}
use Rattle.box_masks.proofs.MaskLemmas.{answers_are, patch_is_exact}
use Rattle.query_tables.specs.Tables.{tuples_in, queries_of}
use Rattle.move_table.specs.declared.effect.Effect.{Effect}
use Rattle.move_table.specs.Effect.{bit_in, is_known, is_set, effect_over, AreBelow, IsEffectOf}
use Rattle.move_table.specs.Kept.{is_written}
use Rattle.move_table.proofs.KeptLemmas.{same_is, unwritten_bit, written_bit}

-- the lowest bit of a number with a bit below it, and the others
pub lowest : (mask : ℕ) (bit : Bool) → bit_at (with_bit mask bit) 0 ≡ cond bit 1 0
lowest mask bit = bit_at_lowest (with_bit mask bit) ∙ by bit
  where
    by : (bit : Bool) → with_bit mask bit % 2 ≡ cond bit 1 0
    by true = let e : (2 * mask + 1) % 2 ≡ 1 = omega arith in e
    by false = let e : (2 * mask + 0) % 2 ≡ 0 = omega arith in e

pub higher : (mask i : ℕ) (bit : Bool) → bit_at (with_bit mask bit) (suc i) ≡ bit_at mask i
higher mask i bit = bit_at-suc (with_bit mask bit) i ∙ ap (λ n. bit_at n i) (half_with_bit mask bit)

odd_bit : (mask : ℕ) → bit_at mask 0 ≡ cond (is_odd mask) 1 0
odd_bit mask = bit_at_lowest mask ∙ by (mask % 2) (omega arith)
  where
    by : (r : ℕ) → r < 2 → r ≡ cond (nat_eq r 1) 1 0
    by zero less = refl
    by (suc zero) less = refl
    by (suc (suc r)) less = absurd (let s : suc (suc r) < 2 = less in omega (arith, s))

-- the bit in place of which another one is written
abbrev pub new_bit : ℕ → ℕ → ℕ → ℕ
new_bit old written value = max (min old (1 - written)) value

pub one_new_bit : (written old value now : Bool) → (written ≡ true → now ≡ value) →
    (written ≡ false → (now ≡ old) × (value ≡ false)) →
    new_bit (cond old 1 0) (cond written 1 0) (cond value 1 0) ≡ cond now 1 0
one_new_bit true true true now is other = sym (ap (λ b. cond {A = ℕ} b 1 0) (is refl))
one_new_bit true true false now is other = sym (ap (λ b. cond {A = ℕ} b 1 0) (is refl))
one_new_bit true false true now is other = sym (ap (λ b. cond {A = ℕ} b 1 0) (is refl))
one_new_bit true false false now is other = sym (ap (λ b. cond {A = ℕ} b 1 0) (is refl))
one_new_bit false true value now is other =
    let e = other refl in
    (λ i. new_bit 1 0 (cond {A = ℕ} (e.1 i) 1 0)) ∙ sym (ap (λ b. cond {A = ℕ} b 1 0) e.0)
one_new_bit false false value now is other =
    let e = other refl in
    (λ i. new_bit 0 0 (cond {A = ℕ} (e.1 i) 1 0)) ∙ sym (ap (λ b. cond {A = ℕ} b 1 0) e.0)

module _ (tuples : List Entry) (mask : ℕ) (writes : List Write) where
  abbrev effect : List Entry → Effect
  effect others = effect_over tuples mask writes others

  new_bits : (others : List Entry) (w i : ℕ) → w < 2 ^ length others →
      new_bit (bit_at w i) (bit_at (effect others).written i) (bit_at (effect others).values i)
      ≡ bit_at (patched others writes w) i
  new_bits [] w i less =
      let none : w ≡ 0 = (let l : w < 1 = less in omega (arith, l)) in
      (λ j. new_bit ((ap (λ n. bit_at n i) none ∙ bit_at-zero i) j) (bit_at-zero i j) (bit_at-zero i j))
      ∙ sym (bit_at-zero i)
  new_bits (other ∷ others) w zero less =
      (λ j. new_bit (odd_bit w j) (lowest (effect others).written (is_written writes other) j)
      (lowest (effect others).values (bit_after false other writes) j))
      ∙ one_new_bit (is_written writes other) (is_odd w) (bit_after false other writes) (bit_after (is_odd w) other writes)
      (λ is. written_bit writes other (is_odd w) false is)
      (λ isnt. (unwritten_bit writes other (is_odd w) isnt, unwritten_bit writes other false isnt))
      ∙ sym (lowest (patched others writes (w / 2)) (bit_after (is_odd w) other writes))
  new_bits (other ∷ others) w (suc i) less =
      let half : w / 2 < 2 ^ length others = omega (arith, less, pow-suc 2 (length others)) in
      (λ j. new_bit (bit_at-suc w i j) (higher (effect others).written i (is_written writes other) j)
      (higher (effect others).values i (bit_after false other writes) j))
      ∙ new_bits others (w / 2) i half
      ∙ sym (higher (patched others writes (w / 2)) i (bit_after (is_odd w) other writes))

  one_more : (most mask : ℕ) (bit : Bool) → mask < most → with_bit mask bit < most * 2
  one_more most mask true less = omega (arith, less)
  one_more most mask false less = omega (arith, less)

  effect_below : (others : List Entry) → AreBelow (2 ^ length others) (effect others)
  effect_below [] = record { written = omega arith; values = omega arith; known = omega arith; bits = omega arith }
  effect_below (other ∷ others) =
      let behind = effect_below others in
      let most : ℕ = 2 ^ length others in
      let all : (mask : ℕ) (bit : Bool) → mask < most → with_bit mask bit < 2 ^ suc (length others) =
      λ mask bit less. subst (λ (n : ℕ). with_bit mask bit < n) (sym (pow-suc 2 (length others)))
      (one_more most mask bit less) in
      record {
        written = all (effect others).written (is_written writes other) behind.written;
        values = all (effect others).values (bit_after false other writes) behind.values;
        known = all (effect others).known (is_known (bit_in tuples mask other)) behind.known;
        bits = all (effect others).bits (is_set (bit_in tuples mask other)) behind.bits;
      }

  patched_below : (others : List Entry) (w : ℕ) → patched others writes w < 2 ^ length others
  patched_below [] w = omega arith
  patched_below (other ∷ others) w =
      let behind = patched_below others (w / 2) in
      omega (arith, behind, pow-suc 2 (length others), one (bit_after (is_odd w) other writes))
    where
      one : (bit : Bool) → cond bit 1 0 ≤ 1
      one true = omega arith
      one false = omega arith

  -- the mask in which the written bits are put in place is the mask after the writes
  pub overwritten_is : (others : List Entry) (w : ℕ) → w < 2 ^ length others → length others ≤ 12 →
      bit_or (bit_and w (bit_not w16 (effect others).written)) (effect others).values < 2 ^ 16 →
      bit_or (bit_and w (bit_not w16 (effect others).written)) (effect others).values ≡ patched others writes w
  overwritten_is others w less few small =
      let room : 2 ^ length others ≤ 2 ^ 16 = pow_mono {i = length others} {j = 16} (omega (arith, few)) in
      let written = (effect others).written in
      let values = (effect others).values in
      let below : written < 2 ^ length others = (effect_below others).written in
      let fits : written < 2 ^ 16 = omega (arith, below, room) in
      same_from_bits_below 16 (bit_or (bit_and w (bit_not w16 written)) values) (patched others writes w) small
      (let p = patched_below others w in omega (arith, p, room))
      (λ i within. bit_at_or (bit_and w (bit_not w16 written)) values i
      ∙ (λ j. max (bit_at_and w (bit_not w16 written) i j) (bit_at values i))
      ∙ (λ j. max (min (bit_at w i) (bit_at_not w16 written i fits within j)) (bit_at values i))
      ∙ new_bits others w i less)

  pub overwritten_below : (others : List Entry) (w result : ℕ) → result ≡ patched others writes w →
      result < 2 ^ length others
  overwritten_below others w result is =
      subst (λ (n : ℕ). n < 2 ^ length others) (sym is) (patched_below others w)

  -- the bits that contents have at the tuples are known
  pub held_known : (test : Entry → Bool) (tuples : List Entry) (mask : ℕ) (other : Entry) → AreBitsBy test tuples mask →
      (is_known (bit_in tuples mask other) ≡ true → is_set (bit_in tuples mask other) ≡ test other)
      × (is_known (bit_in tuples mask other) ≡ false → is_set (bit_in tuples mask other) ≡ false)
  held_known test [] mask other bits = (λ e. absurd (cc), λ e. refl)
  held_known test (tuple ∷ tuples) mask other bits =
      by (same_entry other tuple) refl (held_known test tuples (mask / 2) other bits.1)
    where
      rest : Option Bool
      rest = bit_in tuples (mask / 2) other

      by : (b : Bool) → same_entry other tuple ≡ b →
          (is_known rest ≡ true → is_set rest ≡ test other) × (is_known rest ≡ false → is_set rest ≡ false) →
          (is_known (cond b (Some (is_odd mask)) rest) ≡ true →
          is_set (cond b (Some (is_odd mask)) rest) ≡ test other)
          × (is_known (cond b (Some (is_odd mask)) rest) ≡ false →
          is_set (cond b (Some (is_odd mask)) rest) ≡ false)
      by true same behind = (λ e. bits.0 ∙ ap test (sym (same_is other tuple same)), λ e. absurd (cc))
      by false differs behind = behind

  pub one_kept : (known old set : Bool) → (known ≡ true → set ≡ old) → (known ≡ false → set ≡ false) →
      min (cond old 1 0) (cond known 1 0) ≡ cond set 1 0
  one_kept true true set is isnt = sym (ap (λ b. cond {A = ℕ} b 1 0) (is refl))
  one_kept true false set is isnt = sym (ap (λ b. cond {A = ℕ} b 1 0) (is refl))
  one_kept false true set is isnt = sym (ap (λ b. cond {A = ℕ} b 1 0) (isnt refl))
  one_kept false false set is isnt = sym (ap (λ b. cond {A = ℕ} b 1 0) (isnt refl))

  none_kept : (n : ℕ) → min n 0 ≡ 0
  none_kept n = omega arith

  module _ (test : Entry → Bool) (bits : AreBitsBy test tuples mask) where
    kept_bits : (others : List Entry) (w i : ℕ) → AreBitsBy test others w →
        min (bit_at w i) (bit_at (effect others).known i) ≡ bit_at (effect others).bits i
    kept_bits [] w i all =
        (λ j. min (bit_at w i) (bit_at-zero i j)) ∙ none_kept (bit_at w i) ∙ sym (bit_at-zero i)
    kept_bits (other ∷ others) w zero all =
        let known = held_known test tuples mask other bits in
        (λ j. min (odd_bit w j) (lowest (effect others).known (is_known (bit_in tuples mask other)) j))
        ∙ one_kept (is_known (bit_in tuples mask other)) (is_odd w) (is_set (bit_in tuples mask other))
        (λ is. known.0 is ∙ sym all.0) known.1
        ∙ sym (lowest (effect others).bits (is_set (bit_in tuples mask other)))
    kept_bits (other ∷ others) w (suc i) all =
        (λ j. min (bit_at-suc w i j) (higher (effect others).known i (is_known (bit_in tuples mask other)) j))
        ∙ kept_bits others (w / 2) i all.1
        ∙ sym (higher (effect others).bits i (is_set (bit_in tuples mask other)))

    -- a mask with which the same contents answer has the known bits
    pub has_known_bits : (others : List Entry) (w : ℕ) → AreBitsBy test others w → length others ≤ 12 → w < 2 ^ 16 →
        bit_and w (effect others).known ≡ (effect others).bits
    has_known_bits others w all few small =
        let room : 2 ^ length others ≤ 2 ^ 16 = pow_mono {i = length others} {j = 16} (omega (arith, few)) in
        let below : (effect others).bits < 2 ^ length others = (effect_below others).bits in
        let less : bit_and w (effect others).known ≤ w = and_le_l w (effect others).known in
        same_from_bits_below 16 (bit_and w (effect others).known) (effect others).bits (omega (arith, less, small))
        (omega (arith, below, room))
        (λ i within. bit_at_and w (effect others).known i ∙ kept_bits others w i all)

-- the effect of writes at a packet of a box
module _ (with_law : HeldWith) (without_law : HeldWithout) (plan : Plan) (box packet : ℕ) (writes : List Write)
    (effect : Effect) (is : IsEffectOf writes (tuples_in plan box packet) effect) (few : queries_of plan box ≤ 12) where
  asked : length (tuples_in plan box packet) ≡ queries_of plan box
  asked = length-map (class_of_box plan box).queries (tuple_at plan (class_of_box plan box) packet [])

  pub result_is : (w result : ℕ) → IsMaskOf plan box w →
      result ≡ bit_or (bit_and w (bit_not w16 effect.written)) effect.values → result < 2 ^ 16 →
      result ≡ patched (tuples_in plan box packet) writes w
  result_is w result less stands small =
      let others = tuples_in plan box packet in
      let now : result ≡ bit_or (bit_and w (bit_not w16 (effect_over is.0 is.1 writes others).written))
      (effect_over is.0 is.1 writes others).values =
      stands ∙ (λ j. bit_or (bit_and w (bit_not w16 (is.2 j).written)) (is.2 j).values) in
      now
      ∙ overwritten_is is.0 is.1 writes others w (subst (λ (n : ℕ). w < 2 ^ n) (sym asked) less)
      (subst (λ (n : ℕ). n ≤ 12) (sym asked) few) (subst (λ (n : ℕ). n < 2 ^ 16) now small)

  pub result_below : (w result : ℕ) → result ≡ patched (tuples_in plan box packet) writes w → IsMaskOf plan box result
  result_below w result e =
      subst (λ (n : ℕ). result < 2 ^ n) asked (overwritten_below is.0 is.1 writes (tuples_in plan box packet) w result e)

  pub result_exact : (w result : ℕ) → result ≡ patched (tuples_in plan box packet) writes w →
      (contents : List Entry) → answers plan box packet contents ≡ w →
      answers plan box packet (after_writes contents writes) ≡ result
  result_exact w result e contents answered =
      patch_is_exact with_law without_law plan box packet writes w contents answered ∙ sym e

-- masks that contents show have the known bits
pub shown_known : (plan : Plan) (box packet mask q w : ℕ) (writes : List Write) (effect : Effect) →
    effect ≡ effect_over (tuples_in plan box packet) mask writes (tuples_in plan box q) → queries_of plan box ≤ 12 →
    w < 2 ^ 16 → AreShown plan box packet mask q w → bit_and w effect.known ≡ effect.bits
shown_known plan box packet mask q w writes effect is few small shown =
    let test : Entry → Bool = holds_entry shown.0 in
    let asked : length (tuples_in plan box q) ≡ queries_of plan box =
    length-map (class_of_box plan box).queries (tuple_at plan (class_of_box plan box) q []) in
    subst (λ (e : Effect). bit_and w e.known ≡ e.bits) (sym is)
    (has_known_bits (tuples_in plan box packet) mask writes test
    (bits_by test (tuples_in plan box packet) mask (sym (answers_are plan box packet shown.0) ∙ shown.2))
    (tuples_in plan box q) w
    (bits_by test (tuples_in plan box q) w (sym (answers_are plan box q shown.0) ∙ shown.3))
    (subst (λ (n : ℕ). n ≤ 12) (sym asked) few) small)
