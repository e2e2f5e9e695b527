-- Marks kept in words: one of them, all of them after a write, and where none is.
use Rattle.std.proofs.Common.{◌≡◌, ◌≢◌, ℕ, ◌+◌, ◌-◌, ◌*◌, ◌/◌, ◌%◌, ◌<◌, ◌≤◌, ◌==◌, inl, inr, Bool, true, false, cond}
use Rattle.std.proofs.Common.{List, length, get_or, set, replicate, sym, ap, subst, ◌∙◌, arith}
use Rattle.std.specs.Int.{bit_at}
use Rattle.std.proofs.lemmas.List.{length-set, length-replicate, get_or-set_same, get_or-set_other, get_or-replicate}
use Rattle.std.proofs.lemmas.List.{get_or_past, ext_get_or}
use Rattle.std.proofs.lemmas.List.FromFn.{length-map-range_with_len, get_or-map-range_with_len}
use Rattle.std.proofs.lemmas.Bool.{cases_eq, cases_lt}
use Rattle.std.proofs.lemmas.Nat.Bits.{bit_at-zero}
use Rattle.cell_sets.specs.Words.{is_marked, marks_of, HasNoBit, HasNoMark}

pub length-marks_of : (words : List ℕ) (cells : ℕ) → length (marks_of words cells) ≡ cells
unfolding marks_of
length-marks_of words cells = length-map-range_with_len (is_marked words) 0 cells

pub get_or-marks_of : (words : List ℕ) (cells cell : ℕ) → cell < cells →
    get_or (marks_of words cells) cell false ≡ is_marked words cell
unfolding marks_of
get_or-marks_of words cells cell within =
    get_or-map-range_with_len (is_marked words) 0 cells cell cell false within (omega arith)

-- the word of a cell in range
pub word_of_cell : (cell cells words : ℕ) → cell < cells → words ≡ (cells + 63) / 64 → cell / 64 < words
word_of_cell cell cells words within size = omega arith

is_one : (mark : Bool) (bit : ℕ) → bit ≡ cond mark 1 0 → (bit == 1) ≡ mark
is_one true bit e = ap (λ b. b == 1) e
is_one false bit e = ap (λ b. b == 1) e

module _ (words : List ℕ) (word cell : ℕ) (mark : Bool) (within : cell / 64 < length words)
    (bit : bit_at word (cell % 64) ≡ cond mark 1 0)
    (others : (i : ℕ) → i < 64 → i ≢ cell % 64 → bit_at word i ≡ bit_at (get_or words (cell / 64) 0) i) where
  marked_here : is_marked (set words (cell / 64) word) cell ≡ mark
  unfolding is_marked
  marked_here =
      is_one mark (bit_at (get_or (set words (cell / 64) word) (cell / 64) 0) (cell % 64))
      (ap (λ w. bit_at w (cell % 64)) (get_or-set_same words (cell / 64) word 0 within) ∙ bit)

  bit_elsewhere : (other : ℕ) → other ≢ cell →
      bit_at (get_or (set words (cell / 64) word) (other / 64) 0) (other % 64)
      ≡ bit_at (get_or words (other / 64) 0) (other % 64)
  bit_elsewhere other apart =
      elim (cases_eq (other / 64) (cell / 64)) [
        | inl same ↦
            let place : other % 64 ≢ cell % 64 = λ e. apart (omega arith) in
            let below : other % 64 < 64 = omega arith in
            let now : get_or (set words (cell / 64) word) (other / 64) 0 ≡ word =
            ap (λ at. get_or (set words (cell / 64) word) at 0) same
            ∙ get_or-set_same words (cell / 64) word 0 within in
            let before : get_or words (cell / 64) 0 ≡ get_or words (other / 64) 0 =
            ap (λ at. get_or words at 0) (sym same) in
            ap (λ w. bit_at w (other % 64)) now ∙ others (other % 64) below place
            ∙ ap (λ w. bit_at w (other % 64)) before
        | inr differs ↦ ap (λ w. bit_at w (other % 64)) (get_or-set_other words (cell / 64) (other / 64) word 0 differs)
      ]

  marked_elsewhere : (other : ℕ) → other ≢ cell → is_marked (set words (cell / 64) word) other ≡ is_marked words other
  unfolding is_marked
  marked_elsewhere other apart = ap (λ b. b == 1) (bit_elsewhere other apart)

  pub marks_of-write : (cells : ℕ) → marks_of (set words (cell / 64) word) cells ≡ set (marks_of words cells) cell mark
  marks_of-write cells =
      let after = set words (cell / 64) word in
      let long : length (marks_of after cells) ≡ cells = length-marks_of after cells in
      let same_length : length (marks_of after cells) ≡ length (set (marks_of words cells) cell mark) =
      long ∙ sym (length-set (marks_of words cells) cell mark ∙ length-marks_of words cells) in
      ext_get_or false (marks_of after cells) (set (marks_of words cells) cell mark) same_length (λ i below.
      let inside : i < cells = subst (λ n. i < n) long below in
      let read = get_or-marks_of after cells i inside in
      elim (cases_eq i cell) [
        | inl here ↦
            let there : cell < length (marks_of words cells) =
            subst (λ n. cell < n) (sym (length-marks_of words cells)) (subst (λ n. n < cells) here inside) in
            read ∙ ap (is_marked after) here ∙ marked_here
            ∙ sym
            (ap (λ n. get_or (set (marks_of words cells) cell mark) n false) here
            ∙ get_or-set_same (marks_of words cells) cell mark false there)
        | inr apart ↦ read ∙ marked_elsewhere i apart
            ∙ sym
            (get_or-set_other (marks_of words cells) cell i mark false apart ∙ get_or-marks_of words cells i inside)
      ])

zeros : (n i : ℕ) → ◌≡◌ {A = ℕ} (get_or (replicate n 0) i 0) 0
zeros n i = elim (cases_lt i n) [
  | inl below ↦ get_or-replicate n i 0 0 below
  | inr past ↦ get_or_past (replicate n 0) i 0 (subst (λ k. k ≤ i) (sym (length-replicate n 0)) past)
]

no_mark : (n cell : ℕ) → is_marked (replicate n 0) cell ≡ false
unfolding is_marked
no_mark n cell = ap (λ w. bit_at w (cell % 64) == 1) (zeros n (cell / 64)) ∙ ap (λ b. b == 1) (bit_at-zero (cell % 64))

-- where no word has a bit, no cell is marked
pub marks_of-zeros : (n cells : ℕ) → marks_of (replicate n 0) cells ≡ replicate cells false
marks_of-zeros n cells =
    ext_get_or false (marks_of (replicate n 0) cells) (replicate cells false)
    (length-marks_of (replicate n 0) cells ∙ sym (length-replicate cells false)) (λ i below.
    let inside : i < cells = subst (λ k. i < k) (length-marks_of (replicate n 0) cells) below in
    get_or-marks_of (replicate n 0) cells i inside ∙ no_mark n i ∙ sym (get_or-replicate cells i false false inside))

-- the cells of one word more, looked at from the place `low` of it on
module _ (words : List ℕ) (from at low : ℕ) (first : low ≡ from - 64 * at)
    (behind : HasNoMark words from (64 * at)) where
  pub no_mark_within : (to : ℕ) → to ≤ 64 → HasNoBit (get_or words at 0) low to → HasNoMark words from (64 * at + to)
  unfolding is_marked
  no_mark_within to small bits cell beyond high = elim (cases_lt cell (64 * at)) [
    | inl before ↦ behind cell beyond before
    | inr here ↦
        let word : cell / 64 ≡ at = omega arith in
        let clear = bits (cell % 64) (omega arith) (omega arith) in
        ap (λ b. b == 1) (ap (λ n. bit_at (get_or words n 0) (cell % 64)) word ∙ clear)
  ]

pub marked_at : (words : List ℕ) (at place : ℕ) → place < 64 → bit_at (get_or words at 0) place ≡ 1 →
    is_marked words (64 * at + place) ≡ true
unfolding is_marked
marked_at words at place small bit =
    let word : (64 * at + place) / 64 ≡ at = omega arith in
    let spot : (64 * at + place) % 64 ≡ place = omega arith in
    ap (λ b. b == 1)
    (ap (λ n. bit_at (get_or words n 0) ((64 * at + place) % 64)) word ∙ ap (bit_at (get_or words at 0)) spot ∙ bit)
