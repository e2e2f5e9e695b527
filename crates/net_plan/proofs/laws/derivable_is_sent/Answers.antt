use Rattle.std.proofs.Common.{◌≡◌, List, [], ◌∷◌, refl}
use Rattle.amdl_tree.proofs.DerivationLemmas.{derivable_from_none}
use Rattle.net_plan.specs.declared.plan.Plan.{Plan}
use Rattle.net_plan.specs.declared.fact.Fact.{Fact}
use Rattle.net_plan.specs.Follows.{Follows}
use Rattle.net_plan.proofs.laws.derivable_is_sent.Goals as goal

no_premises : (plan : Plan) (premises : List Fact) (conclusion : Fact) → Follows plan premises conclusion →
    premises ≡ []
no_premises plan [] conclusion gives = refl
no_premises plan (premise ∷ premises) conclusion gives = absurd gives

pub returns : goal.returns
returns c = λ plan fact boxless. derivable_from_none (Follows plan) (no_premises plan) fact
