-- The queries of which the tuples are the same at the packets of spots.
use Rattle.std.proofs.Common.{◌≡◌, ℕ, ◌+◌, ◌*◌, ◌^◌, ◌<◌, bit_and, min, List, length, get_or, sym, subst}
use Rattle.std.proofs.Common.{◌∙◌, arith}
use Rattle.std.specs.Prelude.{slice_get}
use Rattle.std.specs.Int.{bit_at}
use Rattle.std.specs.List.{AllWithin}
use Rattle.std.proofs.lemmas.List.{get_or_default}
use Rattle.std.proofs.lemmas.List.Elements.{AllWithin-more, AllWithin-upto}
use Rattle.std.proofs.lemmas.Nat.Bits.{bit_at_and, bit_at-lt}
use Rattle.box_contents.specs.declared.entry.Entry.{Entry}
use Rattle.net_plan.specs.declared.plan.Plan.{Plan}
use Rattle.query_tables.specs.declared.spots.Spot.{Spot}
use Rattle.query_tables.specs.Sites.{AreFixed}
use Rattle.query_tables.specs.Spots.{alike, IsLike, IsSmall, group_seen}
use Rattle.query_tables.specs.Tables.{tuples_in, key_of}
use Rattle.query_tables.proofs.BitLemmas.{alike_at, alike_has}

left_one : (x y : ℕ) → min x y ≡ 1 → x < 2 → x ≡ 1
left_one x y e less = omega (arith, e, less)

right_one : (x y : ℕ) → min x y ≡ 1 → y < 2 → y ≡ 1
right_one x y e less = omega (arith, e, less)

left_bit : (a b k : ℕ) → bit_at (bit_and a b) k ≡ 1 → bit_at a k ≡ 1
left_bit a b k e = left_one (bit_at a k) (bit_at b k) (sym (bit_at_and a b k) ∙ e) (bit_at-lt a k)

right_bit : (a b k : ℕ) → bit_at (bit_and a b) k ≡ 1 → bit_at b k ≡ 1
right_bit a b k e = right_one (bit_at a k) (bit_at b k) (sym (bit_at_and a b k) ∙ e) (bit_at-lt b k)

both_bits : (a b k : ℕ) → bit_at a k ≡ 1 → bit_at b k ≡ 1 → bit_at (bit_and a b) k ≡ 1
both_bits a b k one other = bit_at_and a b k ∙ (λ i. min (one i) (other i))

-- one number, one tuple and one set of queries
pub group_once : (one other : Spot) → IsSmall one → IsSmall other → group_seen other ≡ group_seen one →
    IsLike one other
group_once one other small other_small same =
    let key : key_of other.entry ≡ key_of one.entry =
    front (key_of other.entry) (key_of one.entry) other.bits one.bits other_small.bits_are small.bits_are same in
    let bits : other.bits ≡ one.bits =
    back (key_of other.entry) (key_of one.entry) other.bits one.bits key same in
    let relation : other.entry.relation ≡ one.entry.relation =
    omega (arith, small.tuple_is, other_small.tuple_is, key) in
    let tuple : other.entry.tuple ≡ one.entry.tuple = omega (arith, small.tuple_is, other_small.tuple_is, key) in
    record { entry_is = λ i. record { relation = relation i; tuple = tuple i }; bits_are = bits }
  where
    front : (k l b c : ℕ) → b < 2 ^ 16 → c < 2 ^ 16 → k * 2 ^ 16 + b ≡ l * 2 ^ 16 + c → k ≡ l
    front k l b c less more e = omega (arith, less, more, e)

    back : (k l b c : ℕ) → k ≡ l → k * 2 ^ 16 + b ≡ l * 2 ^ 16 + c → b ≡ c
    back k l b c same e = omega (arith, same, e)

module _ (run : List Spot) (i : ℕ) (there : i < length run) (e : Spot) where
  -- what holds of the spot at a place holds of it whatever stands for a missing one
  at_place : (P : Spot → Type 0) → P (get_or run i e) → (d : Spot) → P (get_or run i d)
  at_place P holds d = subst P (get_or_default run i e d there) holds

  pub like_more : (first : Spot) → IsSmall first → IsSmall (get_or run i e) →
      group_seen (get_or run i e) ≡ group_seen first → AllWithin (IsLike first) run 0 i →
      AllWithin (IsLike first) run 0 (i + 1)
  like_more first small other_small same before =
      AllWithin-more (IsLike first) run 0 i before
      (at_place (IsLike first) (group_once first (get_or run i e) small other_small same))

  module _ (plan : Plan) (box : ℕ) (row : List Entry) (fixed more : ℕ)
      (is : more ≡ alike row (tuples_in plan box (get_or run i e).packet)) where
    pub fixed_more : AllWithin (λ spot. AreFixed fixed row (tuples_in plan box spot.packet)) run 0 i →
        AllWithin (λ spot. AreFixed (bit_and fixed more) row (tuples_in plan box spot.packet)) run 0 (i + 1)
    fixed_more before =
        AllWithin-more (λ spot. AreFixed (bit_and fixed more) row (tuples_in plan box spot.packet)) run 0 i
        (λ k d from less query bit. before k d from less query (left_bit fixed more query bit))
        (at_place (λ spot. AreFixed (bit_and fixed more) row (tuples_in plan box spot.packet))
        (λ query bit. alike_at row (tuples_in plan box (get_or run i e).packet) query
        (subst (λ (n : ℕ). bit_at n query ≡ 1) is (right_bit fixed more query bit))))

    pub all_more : (query : ℕ) → query < length row →
        (AllWithin (λ spot. slice_get row query ≡ slice_get (tuples_in plan box spot.packet) query) run 0 i →
        bit_at fixed query ≡ 1) →
        AllWithin (λ spot. slice_get row query ≡ slice_get (tuples_in plan box spot.packet) query) run 0 (i + 1) →
        bit_at (bit_and fixed more) query ≡ 1
    all_more query within before all =
        both_bits fixed more query
        (before (AllWithin-upto (λ spot. slice_get row query ≡ slice_get (tuples_in plan box spot.packet) query) run 0
        (i + 1) i (omega arith) all))
        (subst (λ (n : ℕ). bit_at n query ≡ 1) (sym is)
        (alike_has row (tuples_in plan box (get_or run i e).packet) query within (all i e (omega arith) (omega arith))))
