-- What the fields of a bit set say of its marks.
use Rattle.std.proofs.Common.{◌≡◌, ℕ, ◌+◌, ◌-◌, ◌/◌, ◌<◌, ◌≤◌, Bool, true, false, cond, List, length, get_or, set}
use Rattle.std.proofs.Common.{replicate, sym, ap, subst, ◌∙◌, arith, Option, Some, None, MatchOption}
use Rattle.std.proofs.lemmas.List.Folds.{sum_by-replicate}
use Rattle.cell_sets.specs.Marks.{HasCell, HasNoneFrom, members_in}
use Rattle.cell_sets.specs.Words.{is_marked, marks_of, HasNoMark}
use Rattle.cell_sets.proofs.MarkLemmas.{members_in-add, members_in-take_out, members_in-room}
use Rattle.cell_sets.proofs.WordLemmas.{length-marks_of, get_or-marks_of, word_of_cell, marks_of-zeros}

module _ (words : List ℕ) (cells : ℕ) (marks : List Bool) (view : marks_of words cells ≡ marks) where
  pub cells_are : cells ≡ length marks
  cells_are = sym (length-marks_of words cells) ∙ ap length view

  pub reads : (cell : ℕ) → cell < length marks → is_marked words cell ≡ get_or marks cell false
  reads cell within =
      sym (get_or-marks_of words cells cell (omega (arith, cells_are))) ∙ ap (λ m. get_or m cell false) view

  pub none_marked : (from to : ℕ) → to ≤ length marks → HasNoMark words from to → HasNoneFrom marks from to
  none_marked from to small none cell low high member = cc (none cell low high, reads cell member.0, member.1)

  -- what is found in the words is found in the set
  pub next_in_set : (slice : List ℕ) → slice ≡ words → (from to : ℕ) → to ≤ length marks → (found : Option ℕ) →
      MatchOption found (HasNoMark slice from to)
      (λ cell. (from ≤ cell) × (cell < to) × (is_marked slice cell ≡ true) × HasNoMark slice from cell) →
      MatchOption found (HasNoneFrom marks from to)
      (λ cell. (from ≤ cell) × (cell < to) × HasCell marks cell × HasNoneFrom marks from cell)
  next_in_set slice same from to small None none =
      none_marked from to small (subst (λ s. HasNoMark s from to) same none)
  next_in_set slice same from to small (Some cell) found =
      let inside : cell < length marks = omega (arith, found.1, small) in
      let there : is_marked words cell ≡ true = ap (λ s. is_marked s cell) (sym same) ∙ found.2 in (
        found.0,
        found.1,
        (inside, sym (reads cell inside) ∙ there),
        none_marked from cell (omega (arith, inside)) (subst (λ s. HasNoMark s from cell) same found.3),
      )

  pub in_words : (cell : ℕ) → cell < length marks → length words ≡ (cells + 63) / 64 → cell / 64 < length words
  in_words cell within size = word_of_cell cell cells (length words) (omega (arith, cells_are)) size

  module _ (after : List ℕ) (cell : ℕ) (mark : Bool)
      (write : (n : ℕ) → marks_of after n ≡ set (marks_of words n) cell mark) where
    pub written : marks_of after cells ≡ set marks cell mark
    written = write cells ∙ ap (λ m. set m cell mark) view

  module _ (members cell : ℕ) (counted : members ≡ members_in (marks_of words cells))
      (within : cell < length marks) where
    pub members_are : members ≡ members_in marks
    members_are = counted ∙ ap members_in view

    pub room_for_one : get_or marks cell false ≡ false → members < cells
    room_for_one absent = omega (arith, members_are, cells_are, members_in-room marks cell within absent)

    pub one_more : (after : List ℕ) → get_or marks cell false ≡ false →
        ((n : ℕ) → marks_of after n ≡ set (marks_of words n) cell true) →
        members + 1 ≡ members_in (marks_of after cells)
    one_more after absent write =
        ap (λ n. n + 1) members_are ∙ sym (members_in-add marks cell within absent)
        ∙ sym (ap members_in (written after cell true write))

    pub has_one : get_or marks cell false ≡ true → 1 ≤ members
    has_one present = omega (arith, members_are, members_in-take_out marks cell within present)

    pub one_less : (after : List ℕ) → get_or marks cell false ≡ true →
        ((n : ℕ) → marks_of after n ≡ set (marks_of words n) cell false) →
        members - 1 ≡ members_in (marks_of after cells)
    one_less after present write =
        let fewer : members - 1 ≡ members_in (set marks cell false) =
        omega (arith, members_are, members_in-take_out marks cell within present) in
        fewer ∙ sym (ap members_in (written after cell false write))

-- the least member below the end of the cells is the least of all
pub next_of_all : (marks : List Bool) (from to : ℕ) (found : Option ℕ) → to ≡ length marks →
    MatchOption found (HasNoneFrom marks from to)
    (λ cell. (from ≤ cell) × (cell < to) × HasCell marks cell × HasNoneFrom marks from cell) →
    MatchOption found (HasNoneFrom marks from (length marks))
    (λ cell. (from ≤ cell) × HasCell marks cell × HasNoneFrom marks from cell)
next_of_all marks from to None same none = subst (HasNoneFrom marks from) same none
next_of_all marks from to (Some cell) same found = (found.0, found.2, found.3)

pub no_members : (cells : ℕ) → members_in (replicate cells false) ≡ 0
no_members cells = omega (arith, sum_by-replicate (λ mark. cond mark 1 0) cells false)

pub made : (words : List ℕ) (n cells : ℕ) → words ≡ replicate n 0 → marks_of words cells ≡ replicate cells false
made words n cells e = ap (λ w. marks_of w cells) e ∙ marks_of-zeros n cells
