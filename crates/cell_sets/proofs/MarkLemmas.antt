-- How many members there are after a cell was put in or taken out.
use Rattle.std.proofs.Common.{◌≡◌, ℕ, ◌+◌, ◌<◌, Bool, true, false, cond, List, length, get_or, set, ap, subst, arith}
use Rattle.std.proofs.Common.{◌⊎◌, ◌↔◌, inl, inr, sym, ◌∙◌}
use Rattle.std.proofs.lemmas.List.{length-set, set-get_or, get_or-set_same, get_or-set_other}
use Rattle.std.proofs.lemmas.Bool.{cases_eq}
use Rattle.std.proofs.lemmas.List.Sums.{sum_by-set, count_by-le-length}
use Rattle.cell_sets.specs.Marks.{HasCell, members_in}

pub members_in-add : (marks : List Bool) (cell : ℕ) → cell < length marks → get_or marks cell false ≡ false →
    members_in (set marks cell true) ≡ members_in marks + 1
members_in-add marks cell within absent =
    let counted = sum_by-set (λ mark. cond mark 1 0) marks cell true false within in
    let zero : cond (get_or marks cell false) 1 0 ≡ 0 = ap (λ mark. cond {A = ℕ} mark 1 0) absent in
    omega (arith, counted, zero)

pub members_in-take_out : (marks : List Bool) (cell : ℕ) → cell < length marks → get_or marks cell false ≡ true →
    members_in (set marks cell false) + 1 ≡ members_in marks
members_in-take_out marks cell within present =
    let counted = sum_by-set (λ mark. cond mark 1 0) marks cell false false within in
    let one : cond (get_or marks cell false) 1 0 ≡ 1 = ap (λ mark. cond {A = ℕ} mark 1 0) present in
    omega (arith, counted, one)

-- an absent cell leaves room for one member more
pub members_in-room : (marks : List Bool) (cell : ℕ) → cell < length marks → get_or marks cell false ≡ false →
    members_in marks < length marks
members_in-room marks cell within absent =
    omega (
      arith,
      members_in-add marks cell within absent,
      count_by-le-length (λ mark. mark) (set marks cell true),
      length-set marks cell true,
    )

-- a mark that is there already changes nothing
pub set_there : (marks : List Bool) (cell : ℕ) (mark : Bool) → get_or marks cell false ≡ mark →
    set marks cell mark ≡ marks
set_there marks cell mark there = subst (λ m. set marks cell m ≡ marks) there (set-get_or marks cell false)

-- the members after a cell was put in
pub HasCell-add : (marks : List Bool) (cell : ℕ) → cell < length marks → (other : ℕ) →
    HasCell (set marks cell true) other ↔ (HasCell marks other ⊎ (cell ≡ other))
HasCell-add marks cell within other = (
  λ has. elim (cases_eq other cell) [
    | inl same ↦ inr (sym same)
    | inr apart ↦ inl (
      subst (λ n. other < n) (length-set marks cell true) has.0,
      sym (get_or-set_other marks cell other true false apart) ∙ has.1,
    )
  ],
  λ cases. elim cases [
    | inl has ↦ (
      subst (λ n. other < n) (sym (length-set marks cell true)) has.0,
      elim (cases_eq other cell) [
        | inl same ↦ ap (λ n. get_or (set marks cell true) n false) same ∙ get_or-set_same marks cell true false within
        | inr apart ↦ get_or-set_other marks cell other true false apart ∙ has.1
      ],
    )
    | inr same ↦ subst (HasCell (set marks cell true)) same
        (subst (λ n. cell < n) (sym (length-set marks cell true)) within, get_or-set_same marks cell true false within)
  ],
)
