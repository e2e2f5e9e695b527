-- The box of a `State` cell among the first cells of the boxes.
use Rattle.std.proofs.Common.{◌≡◌, ℕ, ◌+◌, ◌-◌, ◌*◌, ◌<◌, ◌≤◌, List, [], length, slice_index_or, sym, ap, ◌∙◌, inl, inr}
use Rattle.std.proofs.Common.{mul-add, arith}
use Rattle.std.specs.Prelude.{Result, Ok, Err, MatchResult}
use Rattle.std.specs.Ordering.{nat_cmp}
use Rattle.std.specs.List.Sorted.{IsBinarySearchResult}
use Rattle.std.proofs.lemmas.Bool.{cases_lt}
use Rattle.std.proofs.lemmas.List.Sorted.{searched}
use Rattle.std.proofs.lemmas.List.Sums.{sum_by_more}
use Rattle.std.proofs.lemmas.Nat.{mul-le}
use Rattle.net_plan.specs.declared.plan.Plan.{Plan}
use Rattle.net_plan.specs.Plan.{packets_of, boxes_of, box_at, masks_of}
use Rattle.net_plan.specs.Ends.{ends_of}
use Rattle.net_plan.specs.Cells.{masks_before}
use Rattle.net_plan.specs.Kept.{first_state, first_states}
use Rattle.net_plan.specs.Sound.{IsSound}
use Rattle.net_plan.proofs.CellLemmas.{some_masks, before_later}
use Rattle.net_plan.proofs.TableLemmas.{counted_length, counted_read, some_packets}

-- the cell stands among those of the box
pub record IsBoxOf (plan : Plan) (cell box : ℕ) : Type 0 where
  pub in_range : box < boxes_of plan
  pub from : first_state plan box ≤ cell
  pub below : cell < first_state plan (box + 1)

module _ (plan : Plan) where
  -- the first cell of the next box is behind all of this one
  pub next_state : (box : ℕ) → box < boxes_of plan →
      first_state plan (box + 1) ≡ first_state plan box + packets_of plan * masks_of plan (box_at plan box)
  next_state box less =
      let more : masks_before plan (box + 1) ≡ masks_before plan box + masks_of plan (box_at plan box) =
      sum_by_more (masks_of plan) plan.boxes box (record { name = []; class = 0; first = [] }) less in
      ap (λ (n : ℕ). packets_of plan * n)
      (let same : ends_of plan + masks_before plan (box + 1)
      ≡ ends_of plan + masks_before plan box + masks_of plan (box_at plan box) = omega (arith, more) in same)
      ∙ mul-add (packets_of plan) (ends_of plan + masks_before plan box) (masks_of plan (box_at plan box))

  -- from box to box the first cells rise
  pub states_rise : (one two : ℕ) → 1 ≤ packets_of plan → one < two → one < boxes_of plan →
      first_state plan one < first_state plan two
  states_rise one two some less in' =
      let fits : masks_before plan one + masks_of plan (box_at plan one) ≤ masks_before plan two =
      before_later (masks_of plan) plan.boxes one two (record { name = []; class = 0; first = [] }) less in' in
      let rows : packets_of plan * (ends_of plan + masks_before plan one + 1)
      ≡ first_state plan one + packets_of plan * 1 =
      mul-add (packets_of plan) (ends_of plan + masks_before plan one) 1 in
      let one_row : 1 * 1 ≤ packets_of plan * 1 = mul-le 1 1 (packets_of plan) 1 some (omega arith) in
      let all : packets_of plan * (ends_of plan + masks_before plan one + 1) ≤ first_state plan two =
      mul-le (packets_of plan) (ends_of plan + masks_before plan one + 1) (packets_of plan)
      (ends_of plan + masks_before plan two) (omega arith) (omega (arith, fits, some_masks plan one)) in
      omega (arith, rows, one_row, all)

  states_keep : (one two : ℕ) → 1 ≤ packets_of plan → one ≤ two → two ≤ boxes_of plan →
      first_state plan one ≤ first_state plan two
  states_keep one two some least in' =
      elim (cases_lt one two) [
        | inl less ↦ let rises : first_state plan one < first_state plan two =
            states_rise one two some less (omega arith) in omega (arith, rises)
        | inr more ↦ let same : one ≡ two =
            omega arith in let e : first_state plan one ≡ first_state plan two =
            ap (first_state plan) same in omega (arith, e)
      ]

  module _ (sound : IsSound plan) (table : List ℕ) (is : table ≡ first_states plan) (cell : ℕ)
      (from : first_state plan 0 ≤ cell) (below : cell < first_state plan (boxes_of plan)) where
    read : (box : ℕ) → box ≤ boxes_of plan → slice_index_or table box 0 ≡ first_state plan box
    read box less = counted_read (first_state plan) (boxes_of plan + 1) table is box 0 (omega arith)

    long : length table ≡ boxes_of plan + 1
    long = counted_length (first_state plan) (boxes_of plan + 1) table is

    keeps : (i j : ℕ) → i ≤ j → j < length table → slice_index_or table i 0 ≤ slice_index_or table j 0
    keeps i j least in' =
        let last : j ≤ boxes_of plan = omega (arith, long) in
        let kept : first_state plan i ≤ first_state plan j = states_keep i j (some_packets plan sound) least last in
        omega (arith, read i (omega arith), read j last, kept)

    pub found_box : (result : Result ℕ ℕ) → IsBinarySearchResult (λ y. nat_cmp y cell) table result →
        MatchResult result (IsBoxOf plan cell)
        (λ behind. (1 ≤ behind) × (behind ≤ boxes_of plan) × IsBoxOf plan cell (behind - 1))
    found_box (Ok box) found =
        let told : (box < length table) × (slice_index_or table box 0 ≡ cell) =
        searched table cell (Ok box) found keeps in
        let last : box ≤ boxes_of plan = omega (arith, long, told.0) in
        let here : first_state plan box ≡ cell = sym (read box last) ∙ told.1 in
        let inside : box < boxes_of plan = elim (cases_lt box (boxes_of plan)) [
          | inl less ↦ less
          | inr more ↦ absurd
              (let same : box ≡ boxes_of plan = omega arith in let e : first_state plan box
              ≡ first_state plan (boxes_of plan) = ap (first_state plan) same in omega (arith, here, e))
        ] in
        let next : first_state plan box < first_state plan (box + 1) =
        states_rise box (box + 1) (some_packets plan sound) (omega arith) inside in
        record { in_range = inside; from = omega (arith, here); below = omega (arith, here, next) }
    found_box (Err behind) found =
        let told : (behind ≤ length table) × ((k : ℕ) → k < behind → slice_index_or table k 0 < cell)
        × ((k : ℕ) → behind ≤ k → k < length table → cell < slice_index_or table k 0) =
        searched table cell (Err behind) found keeps in
        let some : 1 ≤ behind = elim (cases_lt 0 behind) [
          | inl less ↦ less
          | inr none ↦ absurd (
              let above : cell < slice_index_or table 0 0 = told.2 0 none (omega (arith, long)) in
              let is_first : slice_index_or table 0 0 ≡ first_state plan 0 = read 0 (omega arith) in
              omega (arith, above, is_first))
        ] in
        let last : behind ≤ boxes_of plan = elim (cases_lt behind (boxes_of plan + 1)) [
          | inl less ↦ (let most : behind ≤ boxes_of plan = omega arith in most)
          | inr more ↦ absurd (
              let under : slice_index_or table (boxes_of plan) 0 < cell = told.1 (boxes_of plan) (omega arith) in
              let is_last : slice_index_or table (boxes_of plan) 0 ≡ first_state plan (boxes_of plan) =
              read (boxes_of plan) (omega arith) in
              omega (arith, under, is_last))
        ] in
        let under : slice_index_or table (behind - 1) 0 < cell = told.1 (behind - 1) (omega arith) in
        let above : cell < slice_index_or table behind 0 = told.2 behind (omega arith) (omega (arith, long)) in
        let is_under : slice_index_or table (behind - 1) 0 ≡ first_state plan (behind - 1) =
        read (behind - 1) (omega arith) in
        let is_above : slice_index_or table behind 0 ≡ first_state plan (behind - 1 + 1) =
        read behind last ∙ ap (first_state plan) (let same : behind ≡ behind - 1 + 1 = omega arith in same) in (
          some,
          last,
          record {
            in_range = omega arith;
            from = omega (arith, under, is_under);
            below = omega
                (arith, above, is_above);
          },
        )
