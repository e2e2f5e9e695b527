use Rattle.std.proofs.Common.{◌≡◌, ℕ, ◌+◌, ◌*◌, ◌<◌, List, ap, subst, ◌∙◌, arith}
use Rattle.header_set.specs.Headers.{product}
use Rattle.net_plan.specs.declared.plan.Plan.{Plan}
use Rattle.net_plan.specs.declared.fact.Fact.{Fact}
use Rattle.net_plan.specs.declared.fact.Fact.TheVariants.{State, Abort}
use Rattle.net_plan.specs.Plan.{sizes_of, packets_of, boxes_of, box_at, masks_of}
use Rattle.net_plan.specs.Ends.{ends_of}
use Rattle.net_plan.specs.Cells.{IsInRange, all_masks, cell_of, cells_of}
use Rattle.net_plan.specs.Kept.{first_state}
use Rattle.net_plan.proofs.CellLemmas.{cell_below}
use Rattle.net_plan.proofs.TableLemmas.{first_abort}
use Rattle.net_plan.proofs.network.Network.cell_of.Goals as goal

state_is : (plan : Plan) (box packet mask first masks : ℕ) → first ≡ first_state plan box →
    masks ≡ masks_of plan (box_at plan box) →
    first + (packet * masks + mask) ≡ cell_of plan (State box packet mask)
state_is plan box packet mask first masks is_first is_masks =
    ap (λ (n : ℕ). n + (packet * masks + mask)) is_first
    ∙ ap (λ (n : ℕ). first_state plan box + (packet * n + mask)) is_masks

abort_is : (plan : Plan) (box packet boxes first packets : ℕ) (headers : List ℕ) → boxes ≡ boxes_of plan →
    first ≡ first_state plan boxes → headers ≡ sizes_of plan → packets ≡ product headers →
    first + (box * packets + packet) ≡ cell_of plan (Abort box packet)
abort_is plan box packet boxes first packets headers is_boxes is_first are is_packets =
    ap (λ (n : ℕ). n + (box * packets + packet)) (is_first ∙ ap (first_state plan) is_boxes ∙ first_abort plan)
    ∙ ap (λ (n : ℕ). packets_of plan * (ends_of plan + all_masks plan) + (box * n + packet))
    (is_packets ∙ ap product are)

below : (plan : Plan) (fact other : Fact) (cell : ℕ) → IsInRange plan fact → fact ≡ other → cell ≡ cell_of plan other →
    cell < cells_of plan
below plan fact other cell in' is e =
    let less : cell_of plan other < cells_of plan =
    subst (λ (f : Fact). cell_of plan f < cells_of plan) is (cell_below plan fact in') in omega (arith, e, less)

pub overflow_add-result-in-State-2 : goal.overflow_add-result-in-State-2
overflow_add-result-in-State-2 c =
    let less : c.first_state.result +
    (c.in-State.packet * c.masks.result + c.in-State.mask) < cells_of c.args.self.now =
    below c.args.self.now c.args.fact (State c.in-State.b c.in-State.packet c.in-State.mask)
    (c.first_state.result + (c.in-State.packet * c.masks.result + c.in-State.mask)) c.requires c.in-State.is
    (state_is c.args.self.now c.in-State.b c.in-State.packet c.in-State.mask c.first_state.result c.masks.result
    c.first_state.ensures c.masks.ensures.masks) in
    omega (arith, less, c.sound.ensures.limits.cells)

pub overflow_add-result-in-Abort-2 : goal.overflow_add-result-in-Abort-2
overflow_add-result-in-Abort-2 c =
    let less : c.first_state-in-Abort.result +
    (c.in-Abort.b * c.count-in-Abort.result + c.in-Abort.packet) < cells_of c.args.self.now =
    below c.args.self.now c.args.fact (Abort c.in-Abort.b c.in-Abort.packet)
    (c.first_state-in-Abort.result +
    (c.in-Abort.b * c.count-in-Abort.result + c.in-Abort.packet)) c.requires c.in-Abort.is
    (abort_is c.args.self.now c.in-Abort.b c.in-Abort.packet c.boxes.result c.first_state-in-Abort.result
    c.count-in-Abort.result c.headers-in-Abort.result.now
    c.boxes.ensures c.first_state-in-Abort.ensures c.headers-in-Abort.ensures c.count-in-Abort.ensures.product) in
    omega (arith, less, c.sound.ensures.limits.cells)

pub returns-in-State-clause-below : goal.returns-in-State-clause-below
returns-in-State-clause-below c =
    below c.args.self.now c.args.fact (State c.in-State.b c.in-State.packet c.in-State.mask)
    (c.first_state.result + (c.in-State.packet * c.masks.result + c.in-State.mask)) c.requires c.in-State.is
    (state_is c.args.self.now c.in-State.b c.in-State.packet c.in-State.mask c.first_state.result c.masks.result
    c.first_state.ensures c.masks.ensures.masks)

pub returns-in-Abort-clause-below : goal.returns-in-Abort-clause-below
returns-in-Abort-clause-below c =
    below c.args.self.now c.args.fact (Abort c.in-Abort.b c.in-Abort.packet)
    (c.first_state-in-Abort.result +
    (c.in-Abort.b * c.count-in-Abort.result + c.in-Abort.packet)) c.requires c.in-Abort.is
    (abort_is c.args.self.now c.in-Abort.b c.in-Abort.packet c.boxes.result c.first_state-in-Abort.result
    c.count-in-Abort.result c.headers-in-Abort.result.now
    c.boxes.ensures c.first_state-in-Abort.ensures c.headers-in-Abort.ensures c.count-in-Abort.ensures.product)
