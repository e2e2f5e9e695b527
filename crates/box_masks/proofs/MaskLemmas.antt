-- What the masks of the queries of a box come to.
use Rattle.std.proofs.Common.{◌≡◌, ℕ, ◌/◌, ◌^◌, ◌<◌, ◌≤◌, ◌↔◌, suc, Bool, true, false, ◌&&◌, List, [], ◌∷◌, length, map}
use Rattle.std.proofs.Common.{All, IsTrue, refl, sym, ap, subst, ◌∙◌, arith}
use Rattle.std.specs.Option.{option_map}
use Rattle.std.specs.List.{AllByRecursion, range_with_len}
use Rattle.std.specs.List.Sorted.{IsStrictlySortedBy}
use Rattle.std.proofs.Math.Pow.{pow_mono}
use Rattle.std.proofs.lemmas.Option.{slice_get-map}
use Rattle.std.proofs.lemmas.List.{length-map}
use Rattle.std.proofs.lemmas.List.Elements.{All-nil, recursion_from_All}
use Rattle.header_set.specs.Headers.{field_of}
use Rattle.header_set.specs.Laws.{FieldsAreBelowSizes}
use Rattle.box_contents.specs.declared.entry.Entry.{Entry}
use Rattle.box_contents.specs.Contents.{holds_entry}
use Rattle.box_contents.specs.Laws.{WithKeepsRising, WithoutKeepsRising, HeldWith, HeldWithout}
use Rattle.box_handlers.specs.declared.act.Query.{Query}
use Rattle.box_handlers.specs.Tuple.{tuple_of}
use Rattle.box_executions.specs.Environment.{entry_in}
use Rattle.box_executions.specs.Shape.{IsTuple, AreContents}
use Rattle.box_executions.proofs.RangeLemmas.{entry_is_tuple}
use Rattle.box_executions.proofs.KeepLemmas.{with_fits}
use Rattle.net_plan.specs.declared.plan.Plan.{Plan}
use Rattle.net_plan.specs.declared.plan.ClassPlan.{ClassPlan}
use Rattle.net_plan.specs.Plan.{sizes_of, size_of, packets_of, boxes_of, arguments_of, surroundings_of}
use Rattle.net_plan.specs.Reading.{QueryFitsAt, tuple_at}
use Rattle.net_plan.specs.Sound.{IsSound}
use Rattle.net_runs.specs.World.{IsBoxAt, relations_of, environment_of}
use Rattle.net_runs.proofs.PlanLemmas.{box_there, environment_is}
use Rattle.packet_state.specs.Answers.{class_of_box, mask_of, answer_in, answers_in, answers}
use Rattle.packet_state.proofs.ListLemmas.{class_found}
use Rattle.box_masks.specs.declared.write.Write.{Write}
use Rattle.box_masks.specs.Writes.{AreContentsOf, AreShown, IsMaskOf, IsPatched, after_writes}
use Rattle.box_masks.specs.Bits.{tuples_at, answers_over, agrees, are_consistent, is_odd, patched}
use Rattle.box_masks.proofs.BitLemmas.{bits_by, masks_by_agree, put_ones, shown, shows_first, shows_second, answers_after}
use Rattle.box_masks.proofs.BitLemmas.{patched_bit, put_where, and_true, both_true}

-- a number of bits within the queries
pub few_bits : {X : Type 0} (all rest : List X) (query : X) (mask : ℕ) → all ≡ query ∷ rest → length all ≤ 12 →
    mask < 2 ^ length rest → mask < 4096
few_bits all rest query mask e few less =
    let long : length all ≡ suc (length rest) = ap length e in
    let most : 2 ^ length rest ≤ 2 ^ 12 = pow_mono {i = length rest} {j = 12} (omega (arith, few, long)) in
    omega (arith, less, most)

-- the tuple of a query
entry_same : (plan : Plan) (class : ClassPlan) (packet : ℕ) (query : Query) →
    tuple_at plan class packet [] query ≡ entry_in (environment_of plan class packet) query
entry_same plan class packet query =
    ap (λ (n : ℕ). tuple_of (map (arguments_of plan) class.relations)
    (map (field_of (sizes_of plan) packet) (range_with_len 0 n)) [] query)
    (sym (length-map plan.fields (size_of plan)))

module _ (plan : Plan) (class : ClassPlan) (packet : ℕ) (contents : List Entry) where
  answers_alike : (queries : List Query) →
      answers_in (environment_of plan class packet) queries contents
      ≡ answers_over contents (map (tuple_at plan class packet []) queries)
  answers_alike queries = ap mask_of (by queries)
    where
      by : (queries : List Query) → map (answer_in (environment_of plan class packet) contents) queries
          ≡ map (holds_entry contents) (map (tuple_at plan class packet []) queries)
      by [] = refl
      by (query ∷ queries) =
          λ i. holds_entry contents (sym (entry_same plan class packet query) i) ∷ by queries i

pub answers_are : (plan : Plan) (box packet : ℕ) (contents : List Entry) →
    answers plan box packet contents
    ≡ answers_over contents (tuples_at plan box packet (class_of_box plan box).queries)
answers_are plan box packet contents =
    answers_alike plan (class_of_box plan box) packet contents (class_of_box plan box).queries

-- what writes leave

pub patch_is_exact : HeldWith → HeldWithout → (plan : Plan) (box packet : ℕ) (writes : List Write) (mask : ℕ)
    (contents : List Entry) → answers plan box packet contents ≡ mask →
    answers plan box packet (after_writes contents writes)
    ≡ patched (tuples_at plan box packet (class_of_box plan box).queries) writes mask
patch_is_exact with_law without_law plan box packet writes mask contents e =
    let tuples = tuples_at plan box packet (class_of_box plan box).queries in
    answers_are plan box packet (after_writes contents writes)
    ∙ answers_after with_law without_law tuples writes contents mask
    (bits_by (holds_entry contents) tuples mask (sym (answers_are plan box packet contents) ∙ e))

pub patch_bits : (plan : Plan) (box packet : ℕ) (writes : List Write) (mask : ℕ) →
    IsPatched plan box writes packet mask
    (patched (tuples_at plan box packet (class_of_box plan box).queries) writes mask)
patch_bits plan box packet writes mask k query found =
    let class = class_of_box plan box in
    patched_bit (tuples_at plan box packet class.queries) writes mask k (tuple_at plan class packet [] query)
    (slice_get-map (tuple_at plan class packet []) class.queries k
    ∙ ap (option_map (tuple_at plan class packet [])) found)

-- which masks are shown

nothing_fits : (relations : List (List ℕ)) → AreContents relations []
unfolding IsStrictlySortedBy
nothing_fits relations = record { rising = tt; tuples = All-nil (IsTuple relations) }

module _ (plan : Plan) (box : ℕ) (sound : IsSound plan) (less : box < boxes_of plan) where
  abbrev class : ClassPlan
  class = class_of_box plan box

  at_box : IsBoxAt plan box (box_there plan box sound less).0 class
  at_box =
      let there = box_there plan box sound less in
      subst (λ c. IsBoxAt plan box there.0 c) (sym (class_found plan box there.0 there.1 there.2)) there.2

  tuple_fits : FieldsAreBelowSizes → (packet : ℕ) → packet < packets_of plan → (query : Query) →
      QueryFitsAt plan class [] query → IsTuple (relations_of plan class) (tuple_at plan class packet [] query)
  tuple_fits law packet small query ([], picked, fits) =
      subst (IsTuple (relations_of plan class)) (sym (entry_same plan class packet query))
      (entry_is_tuple law (surroundings_of plan class) [] (environment_of plan class packet)
      (environment_is plan sound box (box_there plan box sound less).0 class at_box packet small) query fits)
  tuple_fits law packet small query (pick ∷ picks, picked, fits) = absurd picked

  module _ (law : FieldsAreBelowSizes) (rising : WithKeepsRising) (without_rising : WithoutKeepsRising) where
    ones_fit : (packet : ℕ) → packet < packets_of plan → (queries : List Query) (mask : ℕ) (contents : List Entry) →
        AllByRecursion (QueryFitsAt plan class []) queries → AreContentsOf plan box contents →
        AreContentsOf plan box (put_ones (tuples_at plan box packet queries) mask contents)
    ones_fit packet small [] mask contents fit are = are
    ones_fit packet small (query ∷ queries) mask contents fit are =
        by (is_odd mask) (ones_fit packet small queries (mask / 2) contents fit.1 are)
      where
        by : (bit : Bool) → AreContentsOf plan box (put_ones (tuples_at plan box packet queries) (mask / 2) contents) →
            AreContentsOf plan box
            (put_where bit (tuple_at plan class packet [] query)
            (put_ones (tuples_at plan box packet queries) (mask / 2) contents))
        by true rest =
            with_fits law rising without_rising (surroundings_of plan class) (relations_of plan class)
            (put_ones (tuples_at plan box packet queries) (mask / 2) contents) (tuple_at plan class packet [] query) rest
            (tuple_fits law packet small query fit.0)
        by false rest = rest

    -- the masks agree where no tuple has two bits
    abbrev Agree : ℕ → ℕ → ℕ → ℕ → Bool
    Agree packet mask other other_mask =
        agrees (tuples_at plan box packet class.queries) mask (tuples_at plan box other class.queries) other_mask

    long : (packet mask : ℕ) → IsMaskOf plan box mask → mask < 2 ^ length (tuples_at plan box packet class.queries)
    long packet mask is =
        subst (λ (n : ℕ). mask < 2 ^ n) (sym (length-map class.queries (tuple_at plan class packet []))) is

    pub shown_where : HeldWith → (packet mask other other_mask : ℕ) → packet < packets_of plan →
        other < packets_of plan → IsMaskOf plan box mask → IsMaskOf plan box other_mask →
        All (QueryFitsAt plan class []) class.queries →
        IsTrue (are_consistent (tuples_at plan box packet class.queries) mask (tuples_at plan box other class.queries) other_mask)
        ↔ AreShown plan box packet mask other other_mask
    shown_where held packet mask other other_mask small other_small is other_is fit = (λ agree. by agree, back)
      where
        by : IsTrue (are_consistent (tuples_at plan box packet class.queries) mask (tuples_at plan box other class.queries) other_mask) →
            AreShown plan box packet mask other other_mask
        by agree =
            let first = and_true (Agree packet mask packet mask)
            (Agree other other_mask other other_mask && Agree packet mask other other_mask) agree in
            let more = and_true (Agree other other_mask other other_mask) (Agree packet mask other other_mask) first.1 in
            let contents : List Entry = shown held (tuples_at plan box packet class.queries) (tuples_at plan box other class.queries) mask other_mask first.0 more.0 more.1 in (
              contents,
              ones_fit packet small class.queries mask (put_ones (tuples_at plan box other class.queries) other_mask [])
                  (recursion_from_All (QueryFitsAt plan class []) class.queries fit)
                  (ones_fit other other_small class.queries other_mask []
                  (recursion_from_All (QueryFitsAt plan class []) class.queries fit)
                  (nothing_fits (relations_of plan class))),
              answers_are plan box packet contents
                  ∙ shows_first held (tuples_at plan box packet class.queries) (tuples_at plan box other class.queries) mask other_mask first.0 more.0 more.1 (long packet mask is),
              answers_are plan box other contents
                  ∙ shows_second held (tuples_at plan box packet class.queries) (tuples_at plan box other class.queries) mask other_mask first.0 more.0 more.1 (long other other_mask other_is),
            )

        back : AreShown plan box packet mask other other_mask →
            IsTrue (are_consistent (tuples_at plan box packet class.queries) mask (tuples_at plan box other class.queries) other_mask)
        back (contents, are, one, two) =
            let bits = bits_by (holds_entry contents) (tuples_at plan box packet class.queries) mask (sym (answers_are plan box packet contents) ∙ one) in
            let other_bits = bits_by (holds_entry contents) (tuples_at plan box other class.queries) other_mask (sym (answers_are plan box other contents) ∙ two) in
            both_true (Agree packet mask packet mask)
            (Agree other other_mask other other_mask && Agree packet mask other other_mask)
            (masks_by_agree (holds_entry contents) (tuples_at plan box packet class.queries) (tuples_at plan box packet class.queries) mask mask bits bits)
            (both_true (Agree other other_mask other other_mask) (Agree packet mask other other_mask)
            (masks_by_agree (holds_entry contents) (tuples_at plan box other class.queries) (tuples_at plan box other class.queries) other_mask other_mask other_bits other_bits)
            (masks_by_agree (holds_entry contents) (tuples_at plan box packet class.queries) (tuples_at plan box other class.queries) mask other_mask bits other_bits))
