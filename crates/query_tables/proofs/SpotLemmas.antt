-- The spots of a box.
use Rattle.std.proofs.Common.{◌≡◌, ℕ, suc, ◌+◌, ◌*◌, ◌^◌, ◌<◌, ◌≤◌, Bool, true, false, cond, nat_eq, List, [], ◌∷◌}
use Rattle.std.proofs.Common.{length, get_or, refl, sym, subst, ◌⊎◌, inl, inr, arith}
use Rattle.std.specs.List.{All, Contains, range_with_len}
use Rattle.std.specs.List.Sorted.{IsNonDecreasingBy, IsPermutation}
use Rattle.std.proofs.lemmas.Bool.{eqb-false}
use Rattle.std.proofs.lemmas.List.Elements.{Contains-get_or}
use Rattle.std.proofs.lemmas.List.Sorted.{Contains-permutation, All-permutation, length_permutation}
use Rattle.std.proofs.lemmas.Nat.{mul-le}
use Rattle.box_contents.specs.declared.entry.Entry.{Entry}
use Rattle.net_plan.specs.declared.plan.Plan.{Plan}
use Rattle.net_plan.specs.Plan.{packets_of}
use Rattle.net_plan.proofs.Rising.{head_contained, tail_contained, contained_cases, none_contained}
use Rattle.query_tables.specs.declared.spots.Spot.{Spot}
use Rattle.query_tables.specs.Sites.{bits_of}
use Rattle.query_tables.specs.Spots.{spots_over, spots_in, all_spots, group_seen, key_spotted, IsSpot, AreSpots}
use Rattle.query_tables.specs.Tables.{queries_of, tuples_in}
use Rattle.query_tables.proofs.BitLemmas.{bits_some, bits_from}
use Rattle.query_tables.proofs.ListLemmas.{pieces_have, pieces_from, range_has, range_from, length_within}
use Rattle.query_tables.proofs.TableLemmas.{even_tuples}

module _ (row : List Entry) (packet : ℕ) where
  abbrev spot_of : Entry → Spot
  spot_of entry = record { entry = entry; bits = bits_of entry row; packet = packet }

  -- what is known of a spot of the packet
  abbrev Stands : List Entry → Spot → Type 0
  Stands tuples spot =
      (spot.packet ≡ packet) × (bits_of spot.entry row ≡ spot.bits) × Contains tuples spot.entry

  later_stands : (tuple : Entry) (tuples : List Entry) (spot : Spot) → Stands tuples spot → Stands (tuple ∷ tuples) spot
  later_stands tuple tuples spot stands =
      (stands.0, stands.1, tail_contained tuple spot.entry tuples stands.2)

  spots_from : (tuples : List Entry) (spot : Spot) → Contains (spots_over row packet tuples) spot → Stands tuples spot
  spots_from [] spot has = absurd (none_contained spot has)
  spots_from (tuple ∷ tuples) spot has =
      by (nat_eq (bits_of tuple tuples) 0) has (spots_from tuples spot)
    where
      by : (b : Bool) →
          Contains (cond b (spot_of tuple ∷ spots_over row packet tuples) (spots_over row packet tuples)) spot →
          (Contains (spots_over row packet tuples) spot → Stands tuples spot) → Stands (tuple ∷ tuples) spot
      by true has rest =
          elim (contained_cases (spot_of tuple) spot (spots_over row packet tuples) has) [
            | inl here ↦ subst (Stands (tuple ∷ tuples)) here (refl, refl, head_contained tuple tuples)
            | inr later ↦ later_stands tuple tuples spot (rest later)
          ]
      by false has rest = later_stands tuple tuples spot (rest has)

  spots_has : (tuples : List Entry) (entry : Entry) → Contains tuples entry →
      Contains (spots_over row packet tuples) (spot_of entry)
  spots_has [] entry has = absurd (none_contained entry has)
  spots_has (tuple ∷ tuples) entry has =
      by (nat_eq (bits_of tuple tuples) 0) refl (contained_cases tuple entry tuples has) (spots_has tuples entry)
    where
      by : (b : Bool) → nat_eq (bits_of tuple tuples) 0 ≡ b → (tuple ≡ entry) ⊎ Contains tuples entry →
          (Contains tuples entry → Contains (spots_over row packet tuples) (spot_of entry)) →
          Contains (cond b (spot_of tuple ∷ spots_over row packet tuples) (spots_over row packet tuples))
          (spot_of entry)
      by true e (inl here) rest =
          subst (λ x. Contains (spot_of tuple ∷ spots_over row packet tuples) (spot_of x)) here
          (head_contained (spot_of tuple) (spots_over row packet tuples))
      by true e (inr later) rest =
          tail_contained (spot_of tuple) (spot_of entry) (spots_over row packet tuples) (rest later)
      by false e (inl here) rest =
          let none : bits_of tuple tuples ≡ 0 → ⊥ = eqb-false (bits_of tuple tuples) 0 e in
          rest (subst (Contains tuples) here
          (bits_from tuple tuples (grind (arith, none))))
      by false e (inr later) rest = rest later

  spots_few : (tuples : List Entry) → length (spots_over row packet tuples) ≤ length tuples
  spots_few [] = let l : 0 ≤ 0 = omega arith in l
  spots_few (tuple ∷ tuples) = by (nat_eq (bits_of tuple tuples) 0) (spots_few tuples)
    where
      by : (b : Bool) → length (spots_over row packet tuples) ≤ length tuples →
          length (cond b (spot_of tuple ∷ spots_over row packet tuples) (spots_over row packet tuples))
          ≤ suc (length tuples)
      by true rest =
          let l : suc (length (spots_over row packet tuples)) ≤ suc (length tuples) = omega (arith, rest) in l
      by false rest = omega (arith, rest)

module _ (plan : Plan) (box : ℕ) where
  spot_is : (spot : Spot) → Contains (all_spots plan box) spot → IsSpot plan box spot
  spot_is spot has =
      let piece = pieces_from (spots_in plan box) (range_with_len 0 (packets_of plan)) spot has in
      let stands = spots_from (tuples_in plan box piece.0) piece.0 (tuples_in plan box piece.0) spot piece.2 in
      let bits : bits_of spot.entry (tuples_in plan box piece.0) ≡ spot.bits = stands.1 in
      record {
        in_range = subst (λ (p : ℕ). p < packets_of plan) (sym stands.0) (range_from (packets_of plan) piece.0 piece.1);
        bits_are = subst (λ (p : ℕ). bits_of spot.entry (tuples_in plan box p) ≡ spot.bits) (sym stands.0) bits;
        some = subst (λ (n : ℕ). 0 < n) bits (bits_some spot.entry (tuples_in plan box piece.0) stands.2);
      }

  spot_in : (spot : Spot) → IsSpot plan box spot → Contains (all_spots plan box) spot
  spot_in spot is =
      let row = tuples_in plan box spot.packet in
      let has : Contains row spot.entry =
      bits_from spot.entry row (subst (λ (n : ℕ). 0 < n) (sym is.bits_are) is.some) in
      let there : Contains (spots_in plan box spot.packet) spot =
      subst (λ (n : ℕ). Contains (spots_in plan box spot.packet)
      (record { entry = spot.entry; bits = n; packet = spot.packet })) is.bits_are
      (spots_has row spot.packet row spot.entry has) in
      pieces_have (spots_in plan box) (range_with_len 0 (packets_of plan)) spot.packet spot
      (range_has (packets_of plan) spot.packet is.in_range) there

  front_le : (g h p q : ℕ) → g * 2 ^ 32 + p ≤ h * 2 ^ 32 + q → q < 2 ^ 32 → g ≤ h
  front_le g h p q le small = omega (arith, le, small)

  groups_rise : (spots : List Spot) → packets_of plan ≤ 65536 → All (IsSpot plan box) spots →
      IsNonDecreasingBy key_spotted spots → IsNonDecreasingBy group_seen spots
  groups_rise spots few are rising i j d le within =
      front_le (group_seen (get_or spots i d)) (group_seen (get_or spots j d)) (get_or spots i d).packet
      (get_or spots j d).packet (rising i j d le within)
      (let small : (get_or spots j d).packet < packets_of plan = (are j d within).in_range in
      omega (arith, small, few))

  -- what is sorted has all spots of the box
  pub spots_sorted : (spots : List Spot) → packets_of plan ≤ 65536 → IsPermutation (all_spots plan box) spots →
      IsNonDecreasingBy key_spotted spots → AreSpots plan box spots
  spots_sorted spots few moved rising =
      let are : All (IsSpot plan box) spots =
      All-permutation (IsSpot plan box) (all_spots plan box) spots moved
      (λ k d within. spot_is (get_or (all_spots plan box) k d) (Contains-get_or (all_spots plan box) k d within)) in
      record {
        grouped = groups_rise spots few are rising;
        rising = rising;
        only = are;
        all = λ spot is. Contains-permutation (all_spots plan box) spots spot moved (spot_in spot is);
      }

  -- their number fits 32 bits
  pub few_spots : (spots : List Spot) → packets_of plan ≤ 65536 → queries_of plan box ≤ 12 →
      IsPermutation (all_spots plan box) spots → length spots < 2 ^ 32
  few_spots spots few_packets few_queries moved =
      let one : (packet : ℕ) → length (spots_in plan box packet) ≤ queries_of plan box =
      λ packet. subst (λ (n : ℕ). length (spots_in plan box packet) ≤ n) (even_tuples plan box packet)
      (spots_few (tuples_in plan box packet) packet (tuples_in plan box packet)) in
      let all : length (all_spots plan box) ≤ packets_of plan * queries_of plan box =
      length_within (spots_in plan box) (queries_of plan box) one 0 (packets_of plan) in
      let most : packets_of plan * queries_of plan box ≤ 65536 * 12 =
      mul-le (packets_of plan) (queries_of plan box) 65536 12 few_packets few_queries in
      omega (arith, all, most, length_permutation (all_spots plan box) spots moved)
