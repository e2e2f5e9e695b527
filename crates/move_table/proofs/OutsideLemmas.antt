-- Tuples that change where they are fixed, and stand where they aren't fixed too.
use Rattle.std.proofs.Common.{◌≡◌, ℕ, ◌/◌, ◌%◌, ◌^◌, ◌<◌, ◌≤◌, ◌⊎◌, zero, suc, inl, inr, Bool, true, List, [], ◌∷◌, Some}
use Rattle.std.proofs.Common.{refl, sym, ap, subst, ◌∙◌, arith, bit_and}
use Rattle.std.specs.Prelude.{slice_get}
use Rattle.std.specs.Int.{bit_at}
use Rattle.std.proofs.lemmas.Nat.Bits.{bit_at_lowest, bit_at-suc, bit_at_and, bit_at-lt}
use Rattle.box_contents.specs.declared.entry.Entry.{Entry}
use Rattle.box_contents.specs.Contents.{same_entry}
use Rattle.net_plan.specs.declared.plan.Plan.{Plan}
use Rattle.packet_state.specs.Answers.{answers}
use Rattle.box_masks.specs.Writes.{AreContentsOf}
use Rattle.box_moves.specs.Moves.{masks_at}
use Rattle.query_tables.specs.Tables.{tuples_in}
use Rattle.move_table.specs.Effect.{overwritten, between}
use Rattle.move_table.specs.Marks.{StandsOutside, Changes, ReachesOutside, IsNotedAt, IsNotedWithin}
use Rattle.move_table.proofs.CutLemmas.{overwritten_bit}
use Rattle.move_table.proofs.KeptLemmas.{same_true, same_is}
use Rattle.move_table.proofs.MarkLemmas.{answered_mask}

some_tuple : {one two : Entry} → Some one ≡ Some two → one ≡ two
some_tuple e = cc

-- no tuple is among none
pub stands_nowhere : (fixed : ℕ) (tuple : Entry) → StandsOutside fixed [] tuple → ⊥
stands_nowhere fixed tuple there = let clash = there.stands in absurd (cc)

pub changes_nowhere : (P : Entry → Type 0) (fixed mask other : ℕ) → Changes P fixed [] mask other → ⊥
changes_nowhere P fixed mask other there = let clash = there.stands in absurd (cc)

module _ (fixed : ℕ) (tuple first : Entry) (tuples : List Entry) where
  pub stands_first : fixed % 2 ≡ 0 → same_entry tuple first ≡ true → StandsOutside fixed (first ∷ tuples) tuple
  stands_first free same = record {
    query = 0;
    is_free = bit_at_lowest fixed ∙ free;
    stands = ap Some (sym (same_is tuple first same));
  }

  pub stands_behind : StandsOutside (fixed / 2) tuples tuple → StandsOutside fixed (first ∷ tuples) tuple
  stands_behind there = record {
    query = suc there.query;
    is_free = bit_at-suc fixed there.query ∙ there.is_free;
    stands = there.stands;
  }

  pub stands_split : StandsOutside fixed (first ∷ tuples) tuple →
      ((fixed % 2 ≡ 0) × (same_entry tuple first ≡ true)) ⊎ StandsOutside (fixed / 2) tuples tuple
  stands_split there = by there.query there.is_free there.stands
    where
      by : (query : ℕ) → bit_at fixed query ≡ 0 → slice_get (first ∷ tuples) query ≡ Some tuple →
          ((fixed % 2 ≡ 0) × (same_entry tuple first ≡ true)) ⊎ StandsOutside (fixed / 2) tuples tuple
      by zero free stands = inl (
        sym (bit_at_lowest fixed) ∙ free,
        subst (λ (x : Entry). same_entry tuple x ≡ true) (sym (some_tuple stands)) (same_true tuple),
      )
      by (suc query) free stands =
          inr (record { query = query; is_free = sym (bit_at-suc fixed query) ∙ free; stands = stands })

module _ (P : Entry → Type 0) (fixed mask other : ℕ) (first : Entry) (tuples : List Entry) where
  pub changes_first : fixed % 2 ≡ 1 → (mask % 2 ≡ other % 2 → ⊥) → P first →
      Changes P fixed (first ∷ tuples) mask other
  changes_first set apart holds = record {
    query = 0;
    is_fixed = bit_at_lowest fixed ∙ set;
    differ = λ e. apart (sym (bit_at_lowest mask) ∙ e ∙ bit_at_lowest other);
    tuple = first;
    stands = refl;
    holds = holds;
  }

  pub changes_behind : Changes P (fixed / 2) tuples (mask / 2) (other / 2) → Changes P fixed (first ∷ tuples) mask other
  changes_behind there = record {
    query = suc there.query;
    is_fixed = bit_at-suc fixed there.query ∙ there.is_fixed;
    differ = λ e. there.differ (sym (bit_at-suc mask there.query) ∙ e ∙ bit_at-suc other there.query);
    tuple = there.tuple;
    stands = there.stands;
    holds = there.holds;
  }

  pub changes_split : Changes P fixed (first ∷ tuples) mask other →
      ((fixed % 2 ≡ 1) × (mask % 2 ≡ other % 2 → ⊥) × P first) ⊎ Changes P (fixed / 2) tuples (mask / 2) (other / 2)
  changes_split there = by there.query there.is_fixed there.differ there.stands
    where
      by : (query : ℕ) → bit_at fixed query ≡ 1 → (bit_at mask query ≡ bit_at other query → ⊥) →
          slice_get (first ∷ tuples) query ≡ Some there.tuple →
          ((fixed % 2 ≡ 1) × (mask % 2 ≡ other % 2 → ⊥) × P first) ⊎ Changes P (fixed / 2) tuples (mask / 2) (other / 2)
      by zero set apart stands = inl (
        sym (bit_at_lowest fixed) ∙ set,
        (λ e. apart (bit_at_lowest mask ∙ e ∙ sym (bit_at_lowest other))),
        subst P (sym (some_tuple stands)) there.holds,
      )
      by (suc query) set apart stands = inr (record {
        query = query;
        is_fixed = sym (bit_at-suc fixed query) ∙ set;
        differ = λ e. apart (bit_at-suc mask query ∙ e ∙ sym (bit_at-suc other query));
        tuple = there.tuple;
        stands = stands;
        holds = there.holds;
      })

-- masks that have the known bits change at the same queries
module _ (plan : Plan) (moves : List (List Bool)) (box fixed w after packet : ℕ) (fits : fixed < 2 ^ 16)
    (few : masks_at plan box ≤ 2 ^ 16) where
  pub noted_within : IsNotedAt plan moves box (between fixed w after) packet
      ⊎ ReachesOutside fixed (tuples_in plan box packet) w after → (mask : ℕ) → bit_and mask fixed ≡ w →
      (contents : List Entry) → AreContentsOf plan box contents → answers plan box packet contents ≡ mask →
      IsNotedWithin plan moves box fixed (between fixed w after) packet mask
  noted_within state mask known contents fit answered = elim state [
    | inl noted ↦ inl (noted mask known contents fit answered)
    | inr there ↦ inr (record {
      query = there.query;
      is_fixed = there.is_fixed;
      differ = λ e. there.differ (before there.query there.is_fixed ∙ e ∙ behind there.query there.is_fixed);
      tuple = there.tuple;
      stands = there.stands;
      holds = there.holds;
    })
  ]
    where
      small : mask < 2 ^ 16
      small = let below = answered_mask plan box packet mask contents answered in omega (arith, below, few)

      before : (query : ℕ) → bit_at fixed query ≡ 1 → bit_at w query ≡ bit_at mask query
      before query set =
          let both = ap (λ n. bit_at n query) (sym known) ∙ bit_at_and mask fixed query in
          omega (arith, both, set, bit_at-lt mask query)

      behind : (query : ℕ) → bit_at fixed query ≡ 1 →
          bit_at (overwritten mask (between fixed w after)) query ≡ bit_at after query
      behind query set =
          let over = overwritten_bit mask (between fixed w after) query small fits in
          omega (arith, over, set, bit_at-lt mask query)
