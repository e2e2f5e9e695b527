-- What follows is bounded: at most three premises, and all of them cells of the plan.
use Rattle.std.proofs.Common.{ℕ, ◌<◌, ◌≤◌, List, [], ◌∷◌, length, sym, subst, arith}
use Rattle.std.proofs.lemmas.List.{length-map}
use Rattle.std.proofs.lemmas.List.Elements.{All-map, All-weaker}
use Rattle.fix_engine.specs.Closed.{AreBelow}
use Rattle.net_plan.specs.declared.plan.Plan.{Plan}
use Rattle.net_plan.specs.declared.fact.Fact.{Fact}
use Rattle.net_plan.specs.declared.fact.Fact.TheVariants.{Out, State}
use Rattle.net_plan.specs.Cells.{IsInRange, cell_of, cells_of}
use Rattle.net_plan.proofs.CellLemmas.{cell_below}
use Rattle.packet_state.specs.Follows as packet_state
use Rattle.packet_domain.specs.Follows.{Follows}

pub few_premises : (plan : Plan) (facts : List Fact) (fact : Fact) → packet_state.Follows plan facts fact →
    length facts ≤ 3
few_premises plan [] fact follows = omega arith
few_premises plan (Out end packet ∷ State box at mask ∷ []) fact follows = omega arith
few_premises plan (Out end packet ∷ State box at mask ∷ State same second before ∷ []) fact follows = omega arith
few_premises plan _ fact follows = absurd follows

pub follows_bounded : (plan : Plan) (premises : List ℕ) (cell : ℕ) → Follows plan premises cell →
    (length premises ≤ 3) × AreBelow (cells_of plan) premises × (cell < cells_of plan)
follows_bounded plan premises cell follows =
    let few = few_premises plan follows.facts follows.fact follows.follows in (
      subst (λ (l : List ℕ). length l ≤ 3) (sym follows.premises_are)
          (subst (λ (n : ℕ). n ≤ 3) (sym (length-map follows.facts (cell_of plan))) few),
      subst (AreBelow (cells_of plan)) (sym follows.premises_are)
          (All-map (λ (x : ℕ). x < cells_of plan) (cell_of plan) follows.facts
          (All-weaker (IsInRange plan) (λ fact. cell_of plan fact < cells_of plan) (cell_below plan) follows.facts
          follows.facts_in_range)),
      subst (λ (x : ℕ). x < cells_of plan) (sym follows.cell_is) (cell_below plan follows.fact follows.in_range),
    )
