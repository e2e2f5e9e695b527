-- What paths are once the reference to the results is gone.
use Rattle.std.specs.Prelude.{◌≡◌, ⊤, []}
use Rattle.std.specs.Borrow.{follows_so, MutBor, Fml}
use mathlib.Core.Option.{none}
use mir.Syntax.{named}
use Rattle.net_plan.specs.declared.plan.Plan.{Plan}
use Rattle.abstract_step.specs.contracts.paths.Paths.{the_row}

-- They are of the same plan. `named 1` is the place of the network's lifetime in the signature.
abbrev pub LeavesPlan : MutBor Plan → Fml
LeavesPlan paths =
    let row = the_row (record { mir = named 1; lft = [] }) in
    follows_so row row paths.ghost_name none (λ _ _. ⊤) (λ last. last ≡ paths.now)
