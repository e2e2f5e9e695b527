use Rattle.std.proofs.Common.{ℕ, ◌↔◌, subst}
use Rattle.amdl_tree.specs.Derivation.{IsDerivable}
use Rattle.cell_sets.specs.Marks.{HasCell}
use Rattle.net_plan.specs.declared.plan.Plan.{Plan}
use Rattle.packet_domain.specs.Follows.{Follows}
use Rattle.derived_facts.proofs.CellDerivations.{are_derivable, if_ok}
use Rattle.derived_facts.proofs.derived.found.Goals as goal

pub returns-clause-derivable : goal.returns-clause-derivable
returns-clause-derivable g c =
    let plan = c.args.network.now in
    if_ok _ _ c.least_set.result
    (λ set exact. are_derivable plan c.follows_in_range.ensures (c.cells_are_facts.ensures plan) (g.S.CellSet.marks set)
    (subst (λ (p : Plan). (cell : ℕ) → HasCell (g.S.CellSet.marks set) cell ↔ IsDerivable (Follows p) cell)
    c.in_ok-domain.ensures exact))
    c.least_set.ensures.exact
