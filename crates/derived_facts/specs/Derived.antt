-- What an analysis of a network finds.
use Rattle.std.specs.Prelude.{List, Bool, ◌↔◌}
use Rattle.std.specs.List.{All}
use Rattle.amdl_tree.specs.Derivation.{IsDerivable}
use Rattle.net_plan.specs.declared.plan.Plan.{Plan}
use Rattle.net_plan.specs.declared.fact.Fact.{Fact}
use Rattle.net_plan.specs.Fact.{ListsExactly}
use Rattle.packet_state.specs.Follows.{Follows, IsLeast}
use Rattle.plan_text.specs.declared.findings.Findings.{Findings}
use Rattle.plan_text.specs.Found.{Summarises}
use Rattle.plan_text.specs.Text.{HasLine}
use Rattle.fact_sets.specs.Summary.{IsFactOf, IsBadAmong}

-- the facts of the set are exactly those that end a derivation
abbrev pub AreDerivable : Plan → List Bool → Type 0
AreDerivable plan marks = (fact : Fact) → IsFactOf plan marks fact ↔ IsDerivable (Follows plan) fact

-- the findings are those of the list, in file order, of the facts that end a derivation
pub record AreDerived (plan : Plan) (findings : Findings) : Type 0 where
  pub facts : List Fact
  pub bad : List Fact
  pub least : IsLeast plan facts
  pub bad_ones : ListsExactly (IsBadAmong plan facts) bad
  pub summarises : Summarises findings facts bad
  pub lines : All (HasLine plan) findings.listed
