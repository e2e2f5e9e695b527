-- Moves and their numbers are one to one, and what a table has after a move more.
use Rattle.std.proofs.Common.{◌≡◌, ◌≢◌, ℕ, ◌+◌, ◌*◌, ◌/◌, ◌%◌, ◌^◌, ◌<◌, ◌≤◌, Bool, true, false, List, [], ◌∷◌, ◌++◌, replicate}
use Rattle.std.proofs.Common.{length, length-append, get_or, set, refl, sym, ap, subst, ◌∙◌, ◌⊎◌, ◌↔◌, inl, inr, arith}
use Rattle.std.proofs.lemmas.Bool.{cases_lt, cases_eq, le-leb}
use Rattle.std.proofs.lemmas.Nat.{div-mul-add, mod-mul-add, mul-add-lt, mul-le, pow_below}
use Rattle.std.proofs.lemmas.List.{get_or-set_same, get_or-set_other, get_or_append_left, get_or-replicate, length-replicate}
use Rattle.std.proofs.lemmas.List.{get_or_read}
use Rattle.std.proofs.Math.Seq.{get_or-append_seam}
use Rattle.std.specs.Prelude.{if◌then◌else◌}
use Rattle.cell_sets.specs.Marks.{HasCell}
use Rattle.cell_sets.proofs.MarkLemmas.{HasCell-add}
use Rattle.std.proofs.lemmas.List.{length-set}
use Rattle.net_plan.specs.declared.plan.Plan.{Plan}
use Rattle.net_plan.specs.Plan.{boxes_of, packets_of}
use Rattle.box_moves.specs.Moves.{masks_at, moves_of, moves_over, move_number, marks_at, IsKept, IsSized, IsMove, HasMove, cells_of, AreCleared}

-- at most twelve queries have at most 4,096 masks
pub few_masks : (n : ℕ) → n ≤ 12 → 2 ^ n ≤ 4096
few_masks n small =
    elim (cases_lt n 12) [
      | inl less ↦ let below : 2 ^ n < 4096 = pow_below n 12 less in omega (arith, below)
      | inr more ↦ subst (λ (j : ℕ). 2 ^ j ≤ 4096) (let same : 12 ≡ n = omega arith in same) (omega arith)
    ]

-- a number in a row is of one row and one place
row_once : (width row place other_row other : ℕ) → place < width → other < width →
    row * width + place ≡ other_row * width + other → (row ≡ other_row) × (place ≡ other)
row_once width row place other_row other within other_within e = (
  sym (div-mul-add row width place within) ∙ ap (λ (n : ℕ). n / width) e ∙ div-mul-add other_row width other other_within,
  sym (mod-mul-add row width place within) ∙ ap (λ (n : ℕ). n % width) e ∙ mod-mul-add other_row width other other_within,
)

-- a number is that of one move
pub number_once : (masks packet mask other q w x : ℕ) → mask < masks → other < masks → w < masks → x < masks →
    move_number masks packet mask other ≡ move_number masks q w x → (packet ≡ q) × (mask ≡ w) × (other ≡ x)
number_once masks packet mask other q w x mask_in other_in w_in x_in e =
    let last = row_once masks (packet * masks + mask) other (q * masks + w) x other_in x_in e in
    let first = row_once masks packet mask q w mask_in w_in last.0 in
    (first.0, first.1, last.1)

module _ (plan : Plan) (sets : List (List Bool)) (box packet mask other : ℕ) (is : IsMove plan box packet mask other)
    (within : box < length sets)
    (below : move_number (masks_at plan box) packet mask other < length (marks_at sets box)) where
  abbrev marks : List Bool
  marks = set (marks_at sets box) (move_number (masks_at plan box) packet mask other) true

  abbrev IsThis : ℕ → ℕ → ℕ → ℕ → Type 0
  IsThis b q w x = (box ≡ b) × (packet ≡ q) × (mask ≡ w) × (other ≡ x)

  -- the sets of the other boxes stay
  there : marks_at (set sets box marks) box ≡ marks
  there = get_or-set_same sets box marks [] within

  elsewhere : (b : ℕ) → b ≢ box → marks_at (set sets box marks) b ≡ marks_at sets b
  elsewhere b apart = get_or-set_other sets box b marks [] apart

  pub noted : (b q w x : ℕ) → HasMove plan (set sets box marks) b q w x → HasMove plan sets b q w x ⊎ IsThis b q w x
  noted b q w x has =
      elim (cases_eq b box) [
        | inr apart ↦ inl (record {
          is_move = has.is_move;
          marked = subst (λ l. HasCell l (move_number (masks_at plan b) q w x)) (elsewhere b apart) has.marked;
        })
        | inl same ↦ here b (sym same) has
      ]
    where
      here : (b : ℕ) → box ≡ b → HasMove plan (set sets box marks) b q w x → HasMove plan sets b q w x ⊎ IsThis b q w x
      here b same has =
          let moved : IsMove plan box q w x = subst (λ (n : ℕ). IsMove plan n q w x) (sym same) has.is_move in
          let cell : ℕ = move_number (masks_at plan box) q w x in
          let marked : HasCell (marks_at (set sets box marks) box) cell =
          subst (λ (n : ℕ). HasCell (marks_at (set sets box marks) n) (move_number (masks_at plan n) q w x)) (sym same)
          has.marked in
          elim ((HasCell-add (marks_at sets box) (move_number (masks_at plan box) packet mask other) below cell).0
          (subst (λ l. HasCell l cell) there marked)) [
            | inl before ↦ inl (subst (λ (n : ℕ). HasMove plan sets n q w x) same
                (record { is_move = moved; marked = before }))
            | inr now ↦ let e = number_once (masks_at plan box) packet mask other q w x is.mask_is is.other_is
                moved.mask_is moved.other_is now in
                inr (same, e.0, e.1, e.2)
          ]

  pub kept_noted : (b q w x : ℕ) → HasMove plan sets b q w x → HasMove plan (set sets box marks) b q w x
  kept_noted b q w x has =
      elim (cases_eq b box) [
        | inr apart ↦ record {
          is_move = has.is_move;
          marked = subst (λ l. HasCell l (move_number (masks_at plan b) q w x)) (sym (elsewhere b apart)) has.marked;
        }
        | inl same ↦ here b (sym same) has
      ]
    where
      here : (b : ℕ) → box ≡ b → HasMove plan sets b q w x → HasMove plan (set sets box marks) b q w x
      here b same has =
          let cell : ℕ = move_number (masks_at plan box) q w x in
          let old : HasMove plan sets box q w x = subst (λ (n : ℕ). HasMove plan sets n q w x) (sym same) has in
          subst (λ (n : ℕ). HasMove plan (set sets box marks) n q w x) same
          (record {
            is_move = old.is_move;
            marked = subst (λ l. HasCell l cell) (sym there)
                ((HasCell-add (marks_at sets box) (move_number (masks_at plan box) packet mask other) below cell).1
                (inl old.marked));
          })

  pub now_noted : (b q w x : ℕ) → IsThis b q w x → HasMove plan (set sets box marks) b q w x
  now_noted b q w x same =
      let cell : ℕ = move_number (masks_at plan box) packet mask other in
      let first : HasMove plan (set sets box marks) box packet mask other =
      record {
        is_move = is;
        marked = subst (λ l. HasCell l cell) (sym there)
            ((HasCell-add (marks_at sets box) cell below cell).1 (inr refl));
      } in
      subst (λ (n : ℕ). HasMove plan (set sets box marks) b q w n) same.3
      (subst (λ (n : ℕ). HasMove plan (set sets box marks) b q n other) same.2
      (subst (λ (n : ℕ). HasMove plan (set sets box marks) b n mask other) same.1
      (subst (λ (n : ℕ). HasMove plan (set sets box marks) n packet mask other) same.0 first)))

  pub noted_exactly : (b q w x : ℕ) →
      HasMove plan (set sets box marks) b q w x ↔ (HasMove plan sets b q w x ⊎ IsThis b q w x)
  noted_exactly b q w x = (
    noted b q w x,
    λ cases. elim cases [ inl before ↦ kept_noted b q w x before | inr now ↦ now_noted b q w x now ],
  )

-- no mark is there
pub empty_has_none : (cells cell : ℕ) → ¬ (HasCell (replicate cells false) cell)
empty_has_none cells cell has =
    absurd (let e : false ≡ true = sym (get_or-replicate cells cell false false
    (subst (λ (n : ℕ). cell < n) (length-replicate cells false) has.0)) ∙ has.1 in cc)

-- the sets of the first boxes, without a mark
pub record AreBlank (plan : Plan) (boxes : ℕ) (sets : List (List Bool)) : Type 0 where
  pub boxes_are : length sets ≡ boxes
  pub blank : (box : ℕ) → box < boxes → marks_at sets box ≡ replicate (cells_of plan box) false

pub blank_more : (plan : Plan) (boxes : ℕ) (sets : List (List Bool)) (marks : List Bool) →
    marks ≡ replicate (cells_of plan boxes) false → AreBlank plan boxes sets →
    AreBlank plan (boxes + 1) (sets ++ marks ∷ [])
blank_more plan boxes sets marks is so_far = record {
  boxes_are = length-append sets (marks ∷ []) ∙ ap (λ (n : ℕ). n + 1) so_far.boxes_are;
  blank = λ box less. elim (cases_lt box boxes) [
    | inl before ↦ get_or_append_left sets (marks ∷ []) [] box (subst (λ (n : ℕ). box < n) (sym so_far.boxes_are) before)
        ∙ so_far.blank box before
    | inr more ↦ let last : length sets ≡ box = omega (arith, so_far.boxes_are, less, more) in
        let here : boxes ≡ box = omega (arith, less, more) in
        subst (λ (n : ℕ). get_or (sets ++ marks ∷ []) n [] ≡ marks) last (get_or-append_seam sets marks [] [])
        ∙ is ∙ ap (λ (n : ℕ). replicate (cells_of plan n) false) here
  ];
}

pub blank_sized : (plan : Plan) (sets : List (List Bool)) → AreBlank plan (boxes_of plan) sets → IsSized plan sets
blank_sized plan sets blank = record {
  boxes = blank.boxes_are;
  cells = λ box less. ap length (blank.blank box less) ∙ length-replicate (cells_of plan box) false;
}

pub blank_empty : (plan : Plan) (sets : List (List Bool)) → AreBlank plan (boxes_of plan) sets →
    (box packet mask other : ℕ) → ¬ (HasMove plan sets box packet mask other)
blank_empty plan sets blank box packet mask other has =
    empty_has_none (cells_of plan box) (move_number (masks_at plan box) packet mask other)
    (subst (λ l. HasCell l (move_number (masks_at plan box) packet mask other)) (blank.blank box has.is_move.boxed)
    has.marked)

-- the set of a box that is kept has a cell for each of its moves
pub kept_cells : (plan : Plan) (box : ℕ) → IsKept plan box → cells_of plan box ≡ moves_of plan box
kept_cells plan box kept =
    ap (λ b. if b then (moves_of plan box) else 0) (le-leb (moves_over plan box) (2 ^ 31) kept)

-- and few of them
pub kept_few : (plan : Plan) (box : ℕ) → box < boxes_of plan → IsKept plan box → moves_of plan box ≤ 2 ^ 31
kept_few plan box less kept =
    let some : 1 ≤ boxes_of plan = omega (arith, less) in
    let all : moves_of plan box * 1 ≤ moves_of plan box * boxes_of plan =
    mul-le (moves_of plan box) 1 (moves_of plan box) (boxes_of plan) (omega arith) some in
    let few : moves_of plan box * boxes_of plan ≤ 2 ^ 31 = kept in
    omega (arith, all, few)

-- what a table has where the set of a box got the number of a move
pub noted_by : (plan : Plan) (sets : List (List Bool)) (box packet mask other number : ℕ) (old marks : List Bool) →
    IsSized plan sets → IsKept plan box → IsMove plan box packet mask other →
    number ≡ move_number (masks_at plan box) packet mask other → number < moves_of plan box →
    old ≡ get_or sets box old → marks ≡ set old number true → (b q w x : ℕ) →
    HasMove plan (set sets box marks) b q w x
    ↔ (HasMove plan sets b q w x ⊎ ((box ≡ b) × (packet ≡ q) × (mask ≡ w) × (other ≡ x)))
noted_by plan sets box packet mask other number old marks sized kept is number_is below was now b q w x =
    let within : box < length sets = subst (λ (n : ℕ). box < n) (sym sized.boxes) is.boxed in
    let stood : old ≡ marks_at sets box = get_or_read sets box old within was [] in
    let room : move_number (masks_at plan box) packet mask other < length (marks_at sets box) =
    subst (λ (n : ℕ). n < length (marks_at sets box)) number_is
    (subst (λ (n : ℕ). number < n) (sym (sized.cells box is.boxed ∙ kept_cells plan box kept)) below) in
    let same : marks ≡ set (marks_at sets box) (move_number (masks_at plan box) packet mask other) true =
    now ∙ ap (λ l. set l number true) stood ∙ ap (λ (n : ℕ). set (marks_at sets box) n true) number_is in
    subst (λ l. HasMove plan (set sets box l) b q w x
    ↔ (HasMove plan sets b q w x ⊎ ((box ≡ b) × (packet ≡ q) × (mask ≡ w) × (other ≡ x)))) (sym same)
    (noted_exactly plan sets box packet mask other is within room b q w x)

-- sets without marks
pub cleared_none : (old : List (List Bool)) → AreCleared 0 old old
cleared_none old = record {
  sets = refl;
  cells = λ box. refl;
  none = λ box cell less. absurd (omega (arith, less));
}

pub cleared_more : (at : ℕ) (old now : List (List Bool)) (was marks : List Bool) → at < length now →
    was ≡ get_or now at was → length marks ≡ length was → ((cell : ℕ) → ¬ (HasCell marks cell)) →
    AreCleared at old now → AreCleared (at + 1) old (set now at marks)
cleared_more at old now was marks within is same none so_far =
    let stood : was ≡ marks_at now at = get_or_read now at was within is [] in
    let there : marks_at (set now at marks) at ≡ marks = get_or-set_same now at marks [] within in
    let elsewhere = λ (b : ℕ) (apart : b ≢ at). get_or-set_other now at b marks [] apart in
    record {
      sets = length-set now at marks ∙ so_far.sets;
      cells = λ box. elim (cases_eq box at) [
        | inl here ↦ subst (λ (n : ℕ). length (marks_at (set now at marks) n) ≡ length (marks_at old n)) (sym here)
            (ap length there ∙ same ∙ ap length stood ∙ so_far.cells at)
        | inr apart ↦ ap length (elsewhere box apart) ∙ so_far.cells box
      ];
      none = λ box cell less has. elim (cases_eq box at) [
        | inl here ↦ none cell (subst (λ l. HasCell l cell) there
            (subst (λ (n : ℕ). HasCell (marks_at (set now at marks) n) cell) here has))
        | inr apart ↦ so_far.none box cell (omega (arith, less, apart))
            (subst (λ l. HasCell l cell) (elsewhere box apart) has)
      ];
    }

pub cleared_sized : (plan : Plan) (old new : List (List Bool)) → AreCleared (length old) old new → IsSized plan old →
    IsSized plan new
cleared_sized plan old new cleared sized = record {
  boxes = cleared.sets ∙ sized.boxes;
  cells = λ box less. cleared.cells box ∙ sized.cells box less;
}

pub cleared_empty : (plan : Plan) (old new : List (List Bool)) → AreCleared (length old) old new → IsSized plan old →
    (box packet mask other : ℕ) → ¬ (HasMove plan new box packet mask other)
cleared_empty plan old new cleared sized box packet mask other has =
    cleared.none box (move_number (masks_at plan box) packet mask other)
    (subst (λ (n : ℕ). box < n) (sym sized.boxes) has.is_move.boxed) has.marked

-- a mark that is taken out
pub marks_gone : (marks : List Bool) (cell : ℕ) → cell < length marks → (other : ℕ) → other < cell + 1 →
    ((below : ℕ) → below < cell → ¬ (HasCell marks below)) → ¬ (HasCell (set marks cell false) other)
marks_gone marks cell within other less none has =
    elim (cases_eq other cell) [
      | inl here ↦ absurd (let e : false ≡ true = sym (get_or-set_same marks cell false false within)
          ∙ subst (λ (n : ℕ). get_or (set marks cell false) n false ≡ true) here has.1 in cc)
      | inr apart ↦ none other (omega (arith, less, apart)) (
        subst (λ (n : ℕ). other < n) (length-set marks cell false) has.0,
        sym (get_or-set_other marks cell other false false apart) ∙ has.1,
      )
    ]

-- the row of moves from a mask at a packet lies in the set of a box that is kept
pub row_within : (plan : Plan) (sets : List (List Bool)) (box packet mask : ℕ) (marks : List Bool) →
    IsSized plan sets → IsKept plan box → box < boxes_of plan → packet < packets_of plan → mask < masks_at plan box →
    marks ≡ get_or sets box marks →
    move_number (masks_at plan box) packet mask 0 + masks_at plan box ≤ length marks
row_within plan sets box packet mask marks sized kept boxed packet_in mask_in is =
    let masks : ℕ = masks_at plan box in
    let row : packet * masks + mask < masks * packets_of plan =
    mul-add-lt packet masks mask (packets_of plan) packet_in mask_in in
    let rows : (packet * masks + mask + 1) * masks ≤ packets_of plan * masks * masks =
    mul-le (packet * masks + mask + 1) masks (packets_of plan * masks) masks (grind (arith, row)) (omega arith) in
    let stood : marks ≡ marks_at sets box =
    get_or_read sets box marks (subst (λ (n : ℕ). box < n) (sym sized.boxes) boxed) is [] in
    let cells : length marks ≡ moves_of plan box =
    ap length stood ∙ sized.cells box boxed ∙ kept_cells plan box kept in
    grind (arith, rows, cells)
