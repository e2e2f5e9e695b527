-- Cells that are done in a row of cells, and the facts of the row.
use Rattle.std.proofs.Common.{◌≡◌, ℕ, ◌+◌, ◌-◌, ◌*◌, ◌<◌, ◌≤◌, List, Option, Some, None, MatchOption, sym, ap, subst, ◌∙◌, arith, inl, inr}
use Rattle.std.proofs.lemmas.Bool.{cases_lt}
use Rattle.std.specs.List.{Contains}
use Rattle.fix_engine.specs.Progress.{HasNoneOf}
use Rattle.net_plan.specs.declared.plan.Plan.{Plan}
use Rattle.net_plan.specs.declared.fact.Fact.{Fact}
use Rattle.net_plan.specs.declared.fact.Fact.TheVariants.{Out, State}
use Rattle.net_plan.specs.Plan.{packets_of, boxes_of, box_at, masks_of}
use Rattle.net_plan.specs.Ends.{ends_of}
use Rattle.net_plan.specs.Cells.{IsInRange, masks_before, cell_of, cells_of}
use Rattle.net_plan.proofs.CellLemmas.{cell_below, some_masks}
use Rattle.move_table.specs.Offered.{IsDone, IsDoneIn, HasNone, HasNoneFrom}

-- the next cell that is done, as a number of the row
module _ (done : List ℕ) (first from count : ℕ) where
  pub found_in_row : (cell : ℕ) → first + from ≤ cell → Contains done cell → HasNoneOf done (first + from) cell →
      cell < first + count →
      (from ≤ cell - first) × (cell - first < count) × IsDoneIn done first (cell - first)
      × HasNone (IsDoneIn done first) from (cell - first)
  found_in_row cell low has none high =
      let same : cell ≡ first + (cell - first) = omega (arith, low) in (
        omega (arith, low),
        omega (arith, low, high),
        subst (Contains done) same has,
        λ k above below there. none (first + k) (omega (arith, above)) (omega (arith, low, below)) there,
      )

  pub none_in_row : (cell : ℕ) → HasNoneOf done (first + from) cell → first + count ≤ cell →
      HasNone (IsDoneIn done first) from count
  none_in_row cell none past k above below there =
      none (first + k) (omega (arith, above)) (omega (arith, past, below)) there

-- a number of which it isn't so, behind others of which it isn't
pub none_next : (P : ℕ → Type 0) (from k : ℕ) → HasNone P from k → (P k → ⊥) → HasNone P from (k + 1)
none_next P from k none here other above below there = elim (cases_lt other k) [
  | inl before ↦ none other above before there
  | inr behind ↦ let same : other ≡ k = omega (arith, below, behind) in here (subst P same there)
]

pub none_so_far : (P : ℕ → Type 0) (from k count : ℕ) → HasNone P from k → count ≤ k → HasNone P from count
none_so_far P from k count none past other above below = none other above (omega (arith, past, below))

-- the facts of a row
module _ (plan : Plan) (done : List ℕ) (place : ℕ → Fact) (first count : ℕ)
    (row : (k : ℕ) → first + k ≡ cell_of plan (place k)) (inside : (k : ℕ) → k < count → IsInRange plan (place k))
    (within : (k : ℕ) → IsInRange plan (place k) → k < count) where
  pub no_fact : (from : ℕ) → HasNone (IsDoneIn done first) from count →
      HasNoneFrom (λ k. IsDone plan done (place k)) from
  no_fact from none k above known =
      none k above (within k known.0) (subst (Contains done) (sym (row k)) known.1)

  pub some_fact : (from k : ℕ) → (from ≤ k) × (k < count) × IsDoneIn done first k × HasNone (IsDoneIn done first) from k →
      (from ≤ k) × IsDone plan done (place k) × HasNone (λ k. IsDone plan done (place k)) from k
  some_fact from k (low, high, there, none) = (
    low,
    (inside k high, subst (Contains done) (row k) there),
    λ other above below known. none other above below (subst (Contains done) (sym (row other)) known.1),
  )

-- the answers of a box at a packet, and the packets at an end
module _ (plan : Plan) where
  pub state_row : (box packet k : ℕ) →
      cell_of plan (State box packet 0) + k ≡ cell_of plan (State box packet k)
  state_row box packet k =
      let start : ℕ = packets_of plan * (ends_of plan + masks_before plan box) in
      let rows : ℕ = packet * masks_of plan (box_at plan box) in
      let same : start + (rows + 0) + k ≡ start + (rows + k) = omega arith in same

  pub states_fit : (box packet : ℕ) → box < boxes_of plan → packet < packets_of plan →
      cell_of plan (State box packet 0) + masks_of plan (box_at plan box) ≤ cells_of plan
  states_fit box packet in' small =
      let masks : ℕ = masks_of plan (box_at plan box) in
      let some : 0 < masks = some_masks plan box in
      let last : cell_of plan (State box packet (masks - 1)) < cells_of plan =
      cell_below plan (State box packet (masks - 1)) (in', small, omega (arith, some)) in
      let same : cell_of plan (State box packet 0) + (masks - 1) ≡ cell_of plan (State box packet (masks - 1)) =
      state_row box packet (masks - 1) in omega (arith, some, last, same)

  pub out_row : (end k : ℕ) → cell_of plan (Out end 0) + k ≡ cell_of plan (Out end k)
  out_row end k = let rows : ℕ = end * packets_of plan in
      let same : rows + 0 + k ≡ rows + k = omega arith in same

  pub outs_fit : (end : ℕ) → end < ends_of plan → 0 < packets_of plan →
      cell_of plan (Out end 0) + packets_of plan ≤ cells_of plan
  outs_fit end in' some =
      let last : cell_of plan (Out end (packets_of plan - 1)) < cells_of plan =
      cell_below plan (Out end (packets_of plan - 1)) (in', omega (arith, some)) in
      let same : cell_of plan (Out end 0) + (packets_of plan - 1) ≡ cell_of plan (Out end (packets_of plan - 1)) =
      out_row end (packets_of plan - 1) in omega (arith, some, last, same)

-- the next answers of a box, and the next packet at an end
module _ (plan : Plan) (done : List ℕ) (box packet first count : ℕ) (is : first ≡ cell_of plan (State box packet 0))
    (masks : count ≡ masks_of plan (box_at plan box)) (in' : box < boxes_of plan) (small : packet < packets_of plan) where
  masks_row : (k : ℕ) → first + k ≡ cell_of plan (State box packet k)
  masks_row k = ap (λ n. n + k) is ∙ state_row plan box packet k

  pub masks_within : first + count ≤ cells_of plan
  masks_within = let all = states_fit plan box packet in' small in omega (arith, is, masks, all)

  pub no_mask : (from : ℕ) → HasNone (IsDoneIn done first) from count →
      HasNoneFrom (λ k. IsDone plan done (State box packet k)) from
  no_mask from none =
      no_fact plan done (State box packet) first count masks_row
      (λ k less. (in', small, subst (λ (n : ℕ). k < n) masks less))
      (λ k within. subst (λ (n : ℕ). k < n) (sym masks) within.2) from none

  pub some_mask : (from k : ℕ) →
      (from ≤ k) × (k < count) × IsDoneIn done first k × HasNone (IsDoneIn done first) from k →
      (from ≤ k) × IsDone plan done (State box packet k) × HasNone (λ k. IsDone plan done (State box packet k)) from k
  some_mask from k found =
      some_fact plan done (State box packet) first count masks_row
      (λ k less. (in', small, subst (λ (n : ℕ). k < n) masks less))
      (λ k within. subst (λ (n : ℕ). k < n) (sym masks) within.2) from k found

module _ (plan : Plan) (done : List ℕ) (end first count : ℕ) (is : first ≡ cell_of plan (Out end 0))
    (packets : count ≡ packets_of plan) (in' : end < ends_of plan) (from : ℕ) where
  packets_row : (k : ℕ) → first + k ≡ cell_of plan (Out end k)
  packets_row k = ap (λ n. n + k) is ∙ out_row plan end k

  pub next_of : (r : Option ℕ) →
      MatchOption r (HasNone (IsDoneIn done first) from count)
      (λ k. (from ≤ k) × (k < count) × IsDoneIn done first k × HasNone (IsDoneIn done first) from k) →
      MatchOption r (HasNoneFrom (λ k. IsDone plan done (Out end k)) from)
      (λ p. (from ≤ p) × IsDone plan done (Out end p) × HasNone (λ k. IsDone plan done (Out end k)) from p)
  next_of None none =
      no_fact plan done (Out end) first count packets_row (λ k less. (in', subst (λ (n : ℕ). k < n) packets less))
      (λ k within. subst (λ (n : ℕ). k < n) (sym packets) within.1) from none
  next_of (Some k) found =
      some_fact plan done (Out end) first count packets_row (λ k less. (in', subst (λ (n : ℕ). k < n) packets less))
      (λ k within. subst (λ (n : ℕ). k < n) (sym packets) within.1) from k found
