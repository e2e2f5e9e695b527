-- Cells and facts in range are one to one, and in one order.
use Rattle.std.proofs.Common.{◌≡◌, ℕ, zero, suc, ◌+◌, ◌-◌, ◌*◌, ◌/◌, ◌%◌, ◌<◌, ◌≤◌, List, [], ◌∷◌, length, take}
use Rattle.std.proofs.Common.{slice_index_or, sum_by, refl, sym, ap, subst, ◌∙◌, ◌⊎◌, inl, inr, ◌↔◌, mul-add, mul_comm}
use Rattle.std.proofs.Common.{mul-zero, lit<, arith}
use Rattle.std.proofs.lemmas.Bool.{cases_lt, cases_eq}
use Rattle.std.proofs.lemmas.List.Sums.{sum_by-cons, sum_by_more_le}
use Rattle.std.proofs.lemmas.Nat.{mul-add-lt, mul-le, div_below, mod_below, div-add-mod', pow_pos}
use Rattle.net_plan.specs.declared.plan.Plan.{Plan}
use Rattle.net_plan.specs.declared.plan.BoxPlan.{BoxPlan}
use Rattle.net_plan.specs.declared.fact.Fact.{Fact}
use Rattle.net_plan.specs.declared.fact.Fact.TheVariants.{Out, State, Abort}
use Rattle.net_plan.specs.Plan.{packets_of, boxes_of, box_at, class_of, masks_of}
use Rattle.net_plan.specs.Ends.{ends_of}
use Rattle.net_plan.specs.Fact.{numbers_of, IsBelow, Precedes}
use Rattle.net_plan.specs.Cells.{IsInRange, masks_before, all_masks, cell_of, cells_of}

-- two lists of one length are in one of three orders
compared : (xs ys : List ℕ) → length xs ≡ length ys → IsBelow xs ys ⊎ ((xs ≡ ys) ⊎ IsBelow ys xs)
compared [] [] e = inr (inl refl)
compared [] (y ∷ ys) e = absurd (cc)
compared (x ∷ xs) [] e = absurd (cc)
compared (x ∷ xs) (y ∷ ys) e =
    elim (cases_lt x y) [
      | inl less ↦ inl (inl less)
      | inr more ↦ elim (cases_eq x y) [
        | inl same ↦ elim (compared xs ys (cc)) [
          | inl below ↦ inl (inr (same, below))
          | inr other ↦ elim other [
            | inl equal ↦ inr (inl (ap (λ (n : ℕ). n ∷ xs) same ∙ ap (λ (l : List ℕ). y ∷ l) equal))
            | inr above ↦ inr (inr (inr (sym same, above)))
          ]
        ]
        | inr apart ↦ inr (inr (inl (let less : y < x = omega arith in less)))
      ]
    ]

abbrev Order : Fact → Fact → Type 0
Order one two = Precedes one two ⊎ ((one ≡ two) ⊎ Precedes two one)

same_numbers : (one two : Fact) → (numbers_of one ≡ numbers_of two → one ≡ two) →
    length (numbers_of one) ≡ length (numbers_of two) → Order one two
same_numbers one two settled e =
    elim (compared (numbers_of one) (numbers_of two) e) [
      | inl below ↦ inl below
      | inr other ↦ elim other [ inl same ↦ inr (inl (settled same)) | inr above ↦ inr (inr above) ]
    ]

pub ordered : (one two : Fact) → Order one two
ordered (Out end packet) (Out other_end other) = same_numbers (Out end packet) (Out other_end other) (λ e. cc) refl
ordered (Out end packet) (State box other mask) = inl (inl (lit< tt))
ordered (Out end packet) (Abort box other) = inl (inl (lit< tt))
ordered (State box packet mask) (Out end other) = inr (inr (inl (lit< tt)))
ordered (State box packet mask) (State other_box other other_mask) =
    same_numbers (State box packet mask) (State other_box other other_mask) (λ e. cc) refl
ordered (State box packet mask) (Abort other_box other) = inl (inl (lit< tt))
ordered (Abort box packet) (Out end other) = inr (inr (inl (lit< tt)))
ordered (Abort box packet) (State other_box other other_mask) = inr (inr (inl (lit< tt)))
ordered (Abort box packet) (Abort other_box other) =
    same_numbers (Abort box packet) (Abort other_box other) (λ e. cc) refl

-- numbers in rows
in_part : (h a m c x : ℕ) → x < m * h → a + m ≤ c → h * a + x < h * c
in_part h a m c x less fits =
    let rows : h * (a + m) ≡ h * a + h * m = mul-add h a m in
    let turned : m * h ≡ h * m = mul_comm m h in
    let all : h * (a + m) ≤ h * c = mul-le h (a + m) h c (omega arith) fits in
    omega (arith, rows, turned, all)

next_row : (a b p q h : ℕ) → p < h → a < b → a * h + p < b * h + q
next_row a b p q h less below =
    let row : a * h + p < h * suc a = mul-add-lt a h p (suc a) (omega arith) less in
    let turned : h * suc a ≡ suc a * h = mul_comm h (suc a) in
    let more : suc a * h ≤ b * h = mul-le (suc a) h b h below (omega arith) in
    omega (arith, row, turned, more)

module _ (f : BoxPlan → ℕ) where
  -- a box and those before it, among those before a later one
  pub before_later : (boxes : List BoxPlan) (one two : ℕ) (d : BoxPlan) → one < two → one < length boxes →
      sum_by f (take one boxes) + f (slice_index_or boxes one d) ≤ sum_by f (take two boxes)
  before_later [] one two d less in' = absurd (omega arith)
  before_later (box ∷ boxes) one zero d less in' = absurd (omega arith)
  before_later (box ∷ boxes) zero (suc two) d less in' =
      let sum : sum_by f (box ∷ take two boxes) ≡ f box + sum_by f (take two boxes) =
      sum_by-cons f box (take two boxes) in omega (arith, sum)
  before_later (box ∷ boxes) (suc one) (suc two) d less in' =
      let first : sum_by f (box ∷ take one boxes) ≡ f box + sum_by f (take one boxes) =
      sum_by-cons f box (take one boxes) in
      let second : sum_by f (box ∷ take two boxes) ≡ f box + sum_by f (take two boxes) =
      sum_by-cons f box (take two boxes) in
      let rest =
      before_later boxes one two d (omega arith) (let more : suc one < suc (length boxes) = in' in omega arith) in
      omega (arith, first, second, rest)

  -- the box in whose rows a number stands
  record IsInRows (h x : ℕ) (boxes : List BoxPlan) (d : BoxPlan) : Type 0 where
    box : ℕ
    in_range : box < length boxes
    from : h * sum_by f (take box boxes) ≤ x
    below : x < h * (sum_by f (take box boxes) + f (slice_index_or boxes box d))

  row_found : (h x : ℕ) (boxes : List BoxPlan) (d : BoxPlan) → x < h * sum_by f boxes → IsInRows h x boxes d
  row_found h x [] d less = absurd (let none : h * sum_by f [] ≡ 0 = mul-zero h in omega (arith, none, less))
  row_found h x (box ∷ boxes) d less =
      elim (cases_lt x (h * f box)) [
        | inl here ↦ record {
          box = 0;
          in_range = (let some : 0 < suc (length boxes) = omega arith in some);
          from = (let none : h * 0 ≡ 0 = mul-zero h in omega (arith, none));
          below = (let row : h * (0 + f box) ≡ h * 0 + h * f box = mul-add h 0 (f box) in let none : h * 0
              ≡ 0 = mul-zero h in omega (arith, row, none, here));
        }
        | inr more ↦
            let sum : h * sum_by f (box ∷ boxes) ≡ h * f box + h * sum_by f boxes =
            ap (λ (n : ℕ). h * n) (sum_by-cons f box boxes) ∙ mul-add h (f box) (sum_by f boxes) in
            let found : IsInRows h (x - h * f box) boxes d =
            row_found h (x - h * f box) boxes d (omega (arith, sum, less, more)) in
            let later : h * sum_by f (box ∷ take found.box boxes) ≡ h * f box + h * sum_by f (take found.box boxes) =
            ap (λ (n : ℕ). h * n) (sum_by-cons f box (take found.box boxes))
            ∙ mul-add h (f box) (sum_by f (take found.box boxes)) in
            let here : ℕ = f (slice_index_or boxes found.box d) in
            let outer : h * (sum_by f (box ∷ take found.box boxes) + here)
            ≡ h * sum_by f (box ∷ take found.box boxes) + h * here =
            mul-add h (sum_by f (box ∷ take found.box boxes)) here in
            let inner : h * (sum_by f (take found.box boxes) + here) ≡ h * sum_by f (take found.box boxes) + h * here =
            mul-add h (sum_by f (take found.box boxes)) here in
            let below : x - h * f box < h * (sum_by f (take found.box boxes) + here) = found.below in
            record {
              box = suc found.box;
              in_range = (let less' : suc found.box < suc (length boxes) = omega (arith, found.in_range) in less');
              from = (let start : h * sum_by f (take found.box boxes) ≤ x - h * f box = found.from in omega
                  (arith, later, start, more));
              below = omega (arith, later, outer, inner, below, more);
            }
      ]

-- a mask more than there are for each
one_more : (plan : Plan) (boxes : List BoxPlan) →
    sum_by (λ box. masks_of plan box + 1) boxes ≡ sum_by (masks_of plan) boxes + length boxes
one_more plan [] = refl
one_more plan (box ∷ boxes) =
    let first : sum_by (λ box. masks_of plan box + 1) (box ∷ boxes)
    ≡ masks_of plan box + 1 + sum_by (λ box. masks_of plan box + 1) boxes =
    sum_by-cons (λ box. masks_of plan box + 1) box boxes in
    let second : sum_by (masks_of plan) (box ∷ boxes) ≡ masks_of plan box + sum_by (masks_of plan) boxes =
    sum_by-cons (masks_of plan) box boxes in
    omega (arith, first, second, one_more plan boxes)

module _ (plan : Plan) where
  abbrev H : ℕ
  H = packets_of plan

  abbrev m : ℕ → ℕ
  m box = masks_of plan (box_at plan box)

  pub some_masks : (box : ℕ) → 0 < m box
  some_masks box = pow_pos (length (class_of plan (box_at plan box)).queries)

  pub cells_counted : cells_of plan ≡ H * (ends_of plan + all_masks plan) + H * boxes_of plan
  cells_counted =
      ap (λ (n : ℕ). H * (ends_of plan + n)) (one_more plan plan.boxes)
      ∙ ap (λ (n : ℕ). H * n)
      (let same : ends_of plan + (all_masks plan + boxes_of plan)
      ≡ ends_of plan + all_masks plan + boxes_of plan = omega arith in same)
      ∙ mul-add H (ends_of plan + all_masks plan) (boxes_of plan)

  out_below : (end packet : ℕ) → end < ends_of plan → packet < H → cell_of plan (Out end packet) < H * ends_of plan
  out_below end packet in' less = mul-add-lt end H packet (ends_of plan) in' less

  within_box : (box packet mask : ℕ) → packet < H → mask < m box → packet * m box + mask < m box * H
  within_box box packet mask less in' = mul-add-lt packet (m box) mask H less in'

  masks_within : (box : ℕ) → box < boxes_of plan → masks_before plan box + m box ≤ all_masks plan
  masks_within box less =
      sum_by_more_le (masks_of plan) plan.boxes box (record { name = []; class = 0; first = [] }) less

  state_below : (box packet mask : ℕ) → box < boxes_of plan → packet < H → mask < m box →
      cell_of plan (State box packet mask) < H * (ends_of plan + all_masks plan)
  state_below box packet mask less low in' =
      in_part H (ends_of plan + masks_before plan box) (m box) (ends_of plan + all_masks plan) (packet * m box + mask)
      (within_box box packet mask low in')
      (let fits : masks_before plan box + m box ≤ all_masks plan = masks_within box less in omega (arith, fits))

  before_states : (box : ℕ) → H * ends_of plan ≤ H * (ends_of plan + masks_before plan box)
  before_states box = mul-le H (ends_of plan) H (ends_of plan + masks_before plan box) (omega arith) (omega arith)

  before_aborts : H * ends_of plan ≤ H * (ends_of plan + all_masks plan)
  before_aborts = mul-le H (ends_of plan) H (ends_of plan + all_masks plan) (omega arith) (omega arith)

  abort_below : (box packet : ℕ) → box < boxes_of plan → packet < H → box * H + packet < H * boxes_of plan
  abort_below box packet less low = mul-add-lt box H packet (boxes_of plan) less low

  pub cell_below : (fact : Fact) → IsInRange plan fact → cell_of plan fact < cells_of plan
  cell_below (Out end packet) in' =
      let here : cell_of plan (Out end packet) < H * ends_of plan =
      out_below end packet in'.0 in'.1 in omega (arith, cells_counted, before_aborts, here)
  cell_below (State box packet mask) in' =
      let here : cell_of plan (State box packet mask) < H * (ends_of plan + all_masks plan) =
      state_below box packet mask in'.0 in'.1 in'.2 in omega (arith, cells_counted, here)
  cell_below (Abort box packet) in' =
      let here : box * H + packet < H * boxes_of plan =
      abort_below box packet in'.0 in'.1 in omega (arith, cells_counted, here)

  pub cell_rises : (one two : Fact) → IsInRange plan one → IsInRange plan two → Precedes one two →
      cell_of plan one < cell_of plan two
  cell_rises (Out end packet) (Out other_end other) one two (inl never) = absurd (omega arith)
  cell_rises (Out end packet) (Out other_end other) one two (inr (_, inl less)) =
      next_row end other_end packet other H one.1 less
  cell_rises (Out end packet) (Out other_end other) one two (inr (_, inr (same, inl less))) =
      let row : end * H ≡ other_end * H = ap (λ (e : ℕ). e * H) same in omega (arith, row, less)
  cell_rises (Out end packet) (Out other_end other) one two (inr (_, inr (same, inr (equal, none)))) = absurd none
  cell_rises (Out end packet) (State box other mask) one two before =
      let here : cell_of plan (Out end packet) < H * ends_of plan =
      out_below end packet one.0 one.1 in omega (arith, here, before_states box)
  cell_rises (Out end packet) (Abort box other) one two before =
      let here : cell_of plan (Out end packet) < H * ends_of plan =
      out_below end packet one.0 one.1 in omega (arith, here, before_aborts)
  cell_rises (State box packet mask) (Out end other) one two (inl never) = absurd (omega arith)
  cell_rises (State box packet mask) (Out end other) one two (inr never) =
      absurd (let e : 1 ≡ 0 = never.0 in omega arith)
  cell_rises (State box packet mask) (State other_box other other_mask) one two (inl never) = absurd (omega arith)
  cell_rises (State box packet mask) (State other_box other other_mask) one two (inr (_, inl less)) =
      let here : cell_of plan (State box packet mask) < H * (ends_of plan + masks_before plan other_box) =
      in_part H (ends_of plan + masks_before plan box) (m box) (ends_of plan + masks_before plan other_box)
      (packet * m box + mask) (within_box box packet mask one.1 one.2)
      (let fits : masks_before plan box + m box ≤ masks_before plan other_box = before_later
      (masks_of plan) plan.boxes box other_box (record { name = []; class = 0; first = [] }) less one.0 in omega
      (arith, fits)) in
      omega (arith, here)
  cell_rises (State box packet mask) (State other_box other other_mask) one two (inr (_, inr (same, inl less))) =
      let start : H * (ends_of plan + masks_before plan box) ≡ H * (ends_of plan + masks_before plan other_box) =
      ap (λ (b : ℕ). H * (ends_of plan + masks_before plan b)) same in
      let masks : m box ≡ m other_box = ap m same in
      let row : packet * m other_box + mask < other * m other_box + other_mask =
      next_row packet other mask other_mask (m other_box) (subst (λ (n : ℕ). mask < n) masks one.2) less in
      let rows : packet * m box ≡ packet * m other_box = ap (λ (n : ℕ). packet * n) masks in
      omega (arith, start, row, rows)
  cell_rises (State box packet mask) (State other_box other other_mask) one two
      (inr (_, inr (same, inr (equal, inl less)))) =
      let start : H * (ends_of plan + masks_before plan box) ≡ H * (ends_of plan + masks_before plan other_box) =
      ap (λ (b : ℕ). H * (ends_of plan + masks_before plan b)) same in
      let rows : packet * m box ≡ other * m other_box =
      ap (λ (n : ℕ). packet * n) (ap m same) ∙ ap (λ (p : ℕ). p * m other_box) equal in
      omega (arith, start, rows, less)
  cell_rises (State box packet mask) (State other_box other other_mask) one two
      (inr (_, inr (same, inr (equal, inr (alike, none))))) = absurd none
  cell_rises (State box packet mask) (Abort other_box other) one two before =
      let here : cell_of plan (State box packet mask) < H * (ends_of plan + all_masks plan) =
      state_below box packet mask one.0 one.1 one.2 in omega (arith, here)
  cell_rises (Abort box packet) (Out end other) one two (inl never) = absurd (omega arith)
  cell_rises (Abort box packet) (Out end other) one two (inr never) = absurd (let e : 2 ≡ 0 = never.0 in omega arith)
  cell_rises (Abort box packet) (State other_box other other_mask) one two (inl never) = absurd (omega arith)
  cell_rises (Abort box packet) (State other_box other other_mask) one two (inr never) =
      absurd (let e : 2 ≡ 1 = never.0 in omega arith)
  cell_rises (Abort box packet) (Abort other_box other) one two (inl never) = absurd (omega arith)
  cell_rises (Abort box packet) (Abort other_box other) one two (inr (_, inl less)) =
      let row : box * H + packet < other_box * H + other =
      next_row box other_box packet other H one.1 less in omega (arith, row)
  cell_rises (Abort box packet) (Abort other_box other) one two (inr (_, inr (same, inl less))) =
      let row : box * H ≡ other_box * H = ap (λ (b : ℕ). b * H) same in omega (arith, row, less)
  cell_rises (Abort box packet) (Abort other_box other) one two (inr (_, inr (same, inr (equal, none)))) = absurd none

  pub cell_order : (one two : Fact) → IsInRange plan one → IsInRange plan two →
      Precedes one two ↔ (cell_of plan one < cell_of plan two)
  cell_order one two first second = (
    cell_rises one two first second,
    λ less. elim (ordered one two) [
      | inl before ↦ before
      | inr other ↦ elim other [
        | inl same ↦ absurd
            (let e : cell_of plan one ≡ cell_of plan two = ap (cell_of plan) same in omega (arith, e, less))
        | inr after ↦ absurd
            (let more : cell_of plan two < cell_of plan one = cell_rises two one second first after in omega
            (arith, more, less))
      ]
    ],
  )

  pub cell_once : (one two : Fact) → IsInRange plan one → IsInRange plan two → cell_of plan one ≡ cell_of plan two →
      one ≡ two
  cell_once one two first second e =
      elim (ordered one two) [
        | inl before ↦ absurd
            (let less : cell_of plan one < cell_of plan two = cell_rises one two first second before in omega
            (arith, e, less))
        | inr other ↦ elim other [
          | inl same ↦ same
          | inr after ↦ absurd
              (let more : cell_of plan two < cell_of plan one = cell_rises two one second first after in omega
              (arith, e, more))
        ]
      ]

  abbrev IsFactOf : ℕ → Fact → Type 0
  IsFactOf cell fact = IsInRange plan fact × (cell_of plan fact ≡ cell)

  some_packets : (cell n : ℕ) → cell < H * n → 0 < H
  some_packets cell n less =
      elim (cases_lt 0 H) [
        | inl some ↦ some
        | inr none ↦ absurd
            (let zero_rows : H * n ≤ 0 * n = mul-le H n 0 n none (omega arith) in omega (arith, zero_rows, less))
      ]

  pub out_fact : (cell : ℕ) → cell < H * ends_of plan → IsFactOf cell (Out (cell / H) (cell % H))
  out_fact cell less =
      let some : 0 < H = some_packets cell (ends_of plan) less in
      let turned : H * ends_of plan ≡ ends_of plan * H = mul_comm H (ends_of plan) in (
        (div_below cell H (ends_of plan) some (omega (arith, turned, less)), mod_below cell H some),
        div-add-mod' cell H,
      )

  pub state_fact : (box cell : ℕ) → box < boxes_of plan → H * (ends_of plan + masks_before plan box) ≤ cell →
      cell < H * (ends_of plan + masks_before plan box) + H * m box →
      IsFactOf cell
      (State box ((cell - H * (ends_of plan + masks_before plan box)) / m box)
      ((cell - H * (ends_of plan + masks_before plan box)) % m box))
  state_fact box cell in' from below =
      let left : ℕ = cell - H * (ends_of plan + masks_before plan box) in
      let whole : left / m box * m box + left % m box ≡ left = div-add-mod' left (m box) in (
        (
          in',
          div_below left (m box) H (some_masks box) (omega (arith, from, below)),
          mod_below left (m box) (some_masks box),
        ),
        omega (arith, whole, from),
      )

  pub abort_fact : (cell : ℕ) → H * (ends_of plan + all_masks plan) ≤ cell → cell < cells_of plan →
      IsFactOf cell
      (Abort ((cell - H * (ends_of plan + all_masks plan)) / H) ((cell - H * (ends_of plan + all_masks plan)) % H))
  abort_fact cell from below =
      let left : ℕ = cell - H * (ends_of plan + all_masks plan) in
      let short : left < H * boxes_of plan = omega (arith, cells_counted, from, below) in
      let some : 0 < H = some_packets left (boxes_of plan) short in
      let turned : H * boxes_of plan ≡ boxes_of plan * H = mul_comm H (boxes_of plan) in
      let whole : left / H * H + left % H ≡ left = div-add-mod' left H in (
        (div_below left H (boxes_of plan) some (omega (arith, turned, short)), mod_below left H some),
        omega (arith, whole, from),
      )

  pub each_cell : (cell : ℕ) → cell < cells_of plan → (fact : Fact) × IsInRange plan fact × (cell_of plan fact ≡ cell)
  each_cell cell less =
      elim (cases_lt cell (H * ends_of plan)) [
        | inl out ↦ (Out (cell / H) (cell % H), (out_fact cell out).0, (out_fact cell out).1)
        | inr more ↦ elim (cases_lt cell (H * (ends_of plan + all_masks plan))) [
          | inr abort ↦
              let found = abort_fact cell abort less in (
                Abort ((cell - H * (ends_of plan + all_masks plan)) / H)
                    ((cell - H * (ends_of plan + all_masks plan)) % H),
                found.0,
                found.1,
              )
          | inl state ↦
              let rows : H * (ends_of plan + all_masks plan) ≡ H * ends_of plan + H * all_masks plan =
              mul-add H (ends_of plan) (all_masks plan) in
              let row : IsInRows (masks_of plan) H (cell - H * ends_of plan) plan.boxes
              (record { name = []; class = 0; first = [] }) =
              row_found (masks_of plan) H (cell - H * ends_of plan) plan.boxes
              (record { name = []; class = 0; first = [] }) (omega (arith, rows, state, more)) in
              let start : H * (ends_of plan + masks_before plan row.box)
              ≡ H * ends_of plan + H * masks_before plan row.box =
              mul-add H (ends_of plan) (masks_before plan row.box) in
              let upto : H * (masks_before plan row.box + m row.box) ≡ H * masks_before plan row.box + H * m row.box =
              mul-add H (masks_before plan row.box) (m row.box) in
              let from : H * masks_before plan row.box ≤ cell - H * ends_of plan = row.from in
              let below : cell - H * ends_of plan < H * (masks_before plan row.box + m row.box) = row.below in
              let found =
              state_fact row.box cell row.in_range (omega (arith, start, from, more))
              (omega (arith, start, upto, below, more)) in (
                State row.box ((cell - H * (ends_of plan + masks_before plan row.box)) / m row.box)
                    ((cell - H * (ends_of plan + masks_before plan row.box)) % m row.box),
                found.0,
                found.1,
              )
        ]
      ]
