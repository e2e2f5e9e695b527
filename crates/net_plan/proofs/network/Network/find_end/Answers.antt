use Rattle.std.proofs.Common.{ℕ, List, Option, MatchOption, sym, subst}
use Rattle.net_plan.specs.declared.plan.Plan.{Plan}
use Rattle.net_plan.specs.Ends.{IsEndNamed}
use Rattle.net_plan.proofs.network.Network.find_end.Goals as goal

abbrev Tells : Plan → List ℕ → Option ℕ → Option (List ℕ) → Type 0
Tells plan name found port_name =
    MatchOption found ((end : ℕ) → IsEndNamed plan name port_name end → ⊥) (IsEndNamed plan name port_name)

pub returns-in-None : goal.returns-in-None
returns-in-None c =
    subst (Tells c.args.self.now c.args.host_or_box c.find_host_end.result) (sym c.in-None.is) c.find_host_end.ensures

pub returns-in-Some : goal.returns-in-Some
returns-in-Some c =
    subst (Tells c.args.self.now c.args.host_or_box c.find_port_end.result) (sym c.in-Some.is) c.find_port_end.ensures
