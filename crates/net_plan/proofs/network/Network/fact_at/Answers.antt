use Rattle.std.proofs.Common.{◌≡◌, ℕ, ◌+◌, ◌-◌, ◌*◌, ◌/◌, ◌%◌, ◌<◌, ◌≤◌, List, sym, ap, subst, ◌∙◌, arith}
use Rattle.header_set.specs.Headers.{product}
use Rattle.net_plan.specs.declared.plan.Plan.{Plan}
use Rattle.net_plan.specs.declared.fact.Fact.TheVariants.{Abort}
use Rattle.net_plan.specs.Plan.{sizes_of, packets_of, boxes_of}
use Rattle.net_plan.specs.Ends.{ends_of}
use Rattle.net_plan.specs.Cells.{IsInRange, all_masks, cell_of, cells_of}
use Rattle.net_plan.specs.Kept.{first_state}
use Rattle.net_plan.proofs.CellLemmas.{abort_fact}
use Rattle.net_plan.proofs.TableLemmas as tables
use Rattle.net_plan.proofs.network.Network.fact_at.Goals as goal

abbrev IsIts : Plan → ℕ → ℕ → ℕ → Type 0
IsIts plan cell first packets =
    IsInRange plan (Abort ((cell - first) / packets) ((cell - first) % packets))
    × (cell_of plan (Abort ((cell - first) / packets) ((cell - first) % packets)) ≡ cell)

its : (plan : Plan) (cell boxes first packets : ℕ) (headers : List ℕ) → cell < cells_of plan → boxes ≡ boxes_of plan →
    first ≡ first_state plan boxes → headers ≡ sizes_of plan →
    packets ≡ product headers → first ≤ cell → IsIts plan cell first packets
its plan cell boxes first packets headers below is_boxes is_first are is_packets from =
    let start : first ≡ packets_of plan * (ends_of plan + all_masks plan) =
    is_first ∙ ap (first_state plan) is_boxes ∙ tables.first_abort plan in
    let count : packets ≡ packets_of plan = is_packets ∙ ap product are in
    subst (λ (n : ℕ). IsIts plan cell n packets) (sym start)
    (subst (λ (n : ℕ). IsIts plan cell (packets_of plan * (ends_of plan + all_masks plan)) n) (sym count)
    (abort_fact plan cell (omega (arith, start, from)) below))

pub returns-else-cell-first_abort-clause-in_range : goal.returns-else-cell-first_abort-clause-in_range
returns-else-cell-first_abort-clause-in_range c =
    (its c.args.self.now c.args.cell c.boxes.result c.first_state-first_abort.result c.count-packets.result
    c.headers.result.now c.requires
    c.boxes.ensures c.first_state-first_abort.ensures c.headers.ensures c.count-packets.ensures.product
    c.if-cell-first_abort.false).0

pub returns-else-cell-first_abort-clause-cell : goal.returns-else-cell-first_abort-clause-cell
returns-else-cell-first_abort-clause-cell c =
    (its c.args.self.now c.args.cell c.boxes.result c.first_state-first_abort.result c.count-packets.result
    c.headers.result.now c.requires
    c.boxes.ensures c.first_state-first_abort.ensures c.headers.ensures c.count-packets.ensures.product
    c.if-cell-first_abort.false).1
