-- Without a box nothing follows from facts.
use Rattle.std.proofs.Common.{◌≡◌, ℕ, ◌<◌, List, [], ◌∷◌, length, refl, ap, ◌↔◌, arith}
use Rattle.amdl_tree.specs.Derivation.{IsDerivable}
use Rattle.amdl_tree.proofs.DerivationLemmas.{derivable_from_none}
use Rattle.box_contents.specs.declared.entry.Entry.{Entry}
use Rattle.box_executions.specs.Execution.{Outcome}
use Rattle.net_plan.specs.declared.plan.Plan.{Plan}
use Rattle.net_plan.specs.declared.fact.Fact.{Fact}
use Rattle.net_plan.specs.declared.fact.Fact.TheVariants.{Out, State, Abort}
use Rattle.net_plan.specs.Plan.{boxes_of, HasNoBox}
use Rattle.packet_state.specs.Follows.{Starts, Meets, Follows}
use Rattle.packet_state.proofs.RangeLemmas.{box_below}

no_meeting : {plan : Plan} {end packet box mask : ℕ} {contents : List Entry} {outcome : Outcome} → HasNoBox plan →
    Meets plan end packet box mask contents outcome → ⊥
no_meeting {plan = plan} {box = box} boxless meets =
    let less : box < boxes_of plan = box_below meets in
    let none : boxes_of plan ≡ 0 = ap length boxless in
    omega (arith, less, none)

no_premises : (plan : Plan) → HasNoBox plan → (premises : List Fact) (fact : Fact) → Follows plan premises fact →
    premises ≡ []
no_premises plan boxless [] fact follows = refl
no_premises plan boxless (Out end packet ∷ State box at mask ∷ []) (Out to sent) (same, fires) =
    absurd (no_meeting boxless fires.meets)
no_premises plan boxless (Out end packet ∷ State box at mask ∷ []) (State other second after) (same, never) =
    absurd never
no_premises plan boxless (Out end packet ∷ State box at mask ∷ []) (Abort other also) (same, (here, twice, aborts)) =
    absurd (no_meeting boxless aborts.meets)
no_premises plan boxless (Out end packet ∷ State box at mask ∷ State too second before ∷ []) (State other also after)
    (same, alike, here, twice, changes) =
    absurd
    (no_meeting boxless changes.meets)
no_premises plan boxless _ fact never = absurd never

pub derivable_is_sent : (plan : Plan) (fact : Fact) → HasNoBox plan →
    IsDerivable (Follows plan) fact ↔ Starts plan fact
derivable_is_sent plan fact boxless = derivable_from_none (Follows plan) (no_premises plan boxless) fact
