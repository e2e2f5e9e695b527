-- Facts and their cells are derivable together.
use Rattle.std.proofs.Common.{◌≡◌, ℕ, List, [], ◌∷◌, map, refl, sym, subst, ◌∙◌, ◌↔◌, Bool, Result, Ok, Err}
use Rattle.std.specs.Prelude.{IfOk}
use Rattle.std.specs.List.{All}
use Rattle.std.proofs.lemmas.List.Elements.{All-nil, All-cons, All-head, All-tail}
use Rattle.amdl_tree.specs.Derivation.{IsDerivable}
use Rattle.amdl_tree.proofs.DerivationLemmas.{derivable_step, derivable_kept}
use Rattle.net_plan.specs.declared.plan.Plan.{Plan}
use Rattle.net_plan.specs.declared.fact.Fact.{Fact}
use Rattle.net_plan.specs.Cells.{IsInRange, cell_of}
use Rattle.net_plan.specs.Laws.{AreNumbered}
use Rattle.packet_state.specs.Follows.{Follows}
use Rattle.packet_state.specs.Laws.{FollowsInRange}
use Rattle.cell_sets.specs.Marks.{HasCell}
use Rattle.fact_sets.specs.Summary.{AreFindings}
use Rattle.plan_text.specs.declared.findings.Findings.{Findings}
use Rattle.derived_facts.specs.Derived.{AreDerivable, AreDerived}
use Rattle.packet_domain.specs.Follows.{Follows as FollowsByCells}

module _ (plan : Plan) (in_range : FollowsInRange) where
  -- a fact whose cell can be derived
  abbrev ByCell : Fact → Type 0
  ByCell fact = IsInRange plan fact × IsDerivable (FollowsByCells plan) (cell_of plan fact)

  ranges : (facts : List Fact) → All ByCell facts → All (IsInRange plan) facts
  ranges [] all = All-nil (IsInRange plan)
  ranges (fact ∷ facts) all =
      All-cons (IsInRange plan) fact facts (All-head ByCell fact facts all).0 (ranges facts (All-tail ByCell fact facts all))

  cells : (facts : List Fact) → All ByCell facts →
      All (IsDerivable (FollowsByCells plan)) (map (cell_of plan) facts)
  cells [] all = All-nil (IsDerivable (FollowsByCells plan))
  cells (fact ∷ facts) all =
      All-cons (IsDerivable (FollowsByCells plan)) (cell_of plan fact) (map (cell_of plan) facts)
      (All-head ByCell fact facts all).1 (cells facts (All-tail ByCell fact facts all))

  cell_kept : (premises : List Fact) (fact : Fact) → All ByCell premises → Follows plan premises fact → ByCell fact
  cell_kept premises fact all follows =
      let within : IsInRange plan fact = in_range plan premises fact follows in (
        within,
        derivable_step (FollowsByCells plan) (map (cell_of plan) premises) (cell_of plan fact) (cells premises all)
            (record {
              facts = premises;
              fact = fact;
              facts_in_range = ranges premises all;
              in_range = within;
              premises_are = refl;
              cell_is = refl;
              follows = follows;
            }),
      )

  pub cell_derivable : (fact : Fact) → IsDerivable (Follows plan) fact →
      IsInRange plan fact × IsDerivable (FollowsByCells plan) (cell_of plan fact)
  cell_derivable fact derivable = derivable_kept (Follows plan) ByCell cell_kept fact derivable

  module _ (numbered : AreNumbered plan) where
    -- a cell each of whose facts can be derived
    abbrev ByFact : ℕ → Type 0
    ByFact cell = (fact : Fact) → IsInRange plan fact → cell_of plan fact ≡ cell → IsDerivable (Follows plan) fact

    facts_derivable : (facts : List Fact) → All (IsInRange plan) facts → All ByFact (map (cell_of plan) facts) →
        All (IsDerivable (Follows plan)) facts
    facts_derivable [] within all = All-nil (IsDerivable (Follows plan))
    facts_derivable (fact ∷ facts) within all =
        All-cons (IsDerivable (Follows plan)) fact facts
        (All-head ByFact (cell_of plan fact) (map (cell_of plan) facts) all fact
        (All-head (IsInRange plan) fact facts within) refl)
        (facts_derivable facts (All-tail (IsInRange plan) fact facts within)
        (All-tail ByFact (cell_of plan fact) (map (cell_of plan) facts) all))

    fact_kept : (premises : List ℕ) (cell : ℕ) → All ByFact premises → FollowsByCells plan premises cell → ByFact cell
    fact_kept premises cell all follows fact within is =
        let same : follows.fact ≡ fact =
        numbered.once follows.fact fact follows.in_range within (sym follows.cell_is ∙ sym is) in
        subst (IsDerivable (Follows plan)) same
        (derivable_step (Follows plan) follows.facts follows.fact
        (facts_derivable follows.facts follows.facts_in_range (subst (All ByFact) follows.premises_are all)) follows.follows)

    pub fact_derivable : (fact : Fact) → IsInRange plan fact →
        IsDerivable (FollowsByCells plan) (cell_of plan fact) → IsDerivable (Follows plan) fact
    fact_derivable fact within derivable =
        derivable_kept (FollowsByCells plan) ByFact fact_kept (cell_of plan fact) derivable fact within refl

    -- a set of exactly the derivable cells has exactly the derivable facts
    pub are_derivable : (marks : List Bool) →
        ((cell : ℕ) → HasCell marks cell ↔ IsDerivable (FollowsByCells plan) cell) → AreDerivable plan marks
    are_derivable marks exact fact = (
      λ held. fact_derivable fact held.in_range ((exact (cell_of plan fact)).0 held.has),
      λ derivable.
          let by_cell = cell_derivable fact derivable in
          record { in_range = by_cell.0; has = (exact (cell_of plan fact)).1 by_cell.1 },
    )

-- the findings of such a set are those of the derivable facts
pub are_derived : (plan : Plan) (marks : List Bool) (findings : Findings) → AreDerivable plan marks →
    AreFindings plan marks findings → AreDerived plan findings
are_derived plan marks findings derivable found = record {
  facts = found.facts;
  bad = found.bad;
  least = record {
    rising = found.all.rising;
    member = λ fact. (
      λ there. (derivable fact).0 ((found.all.member fact).0 there),
      λ derived. (found.all.member fact).1 ((derivable fact).1 derived),
    );
  };
  bad_ones = found.bad_ones;
  summarises = found.summarises;
  lines = found.lines;
}

pub if_ok : {T E : Type 0} (P Q : T → Type 0) (result : Result T E) → ((value : T) → P value → Q value) →
    IfOk result P → IfOk result Q
if_ok P Q (Ok value) weaker p = weaker value p
if_ok P Q (Err error) weaker p = tt
