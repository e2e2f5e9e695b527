use Rattle.std.proofs.Common.{◌≡◌, ℕ, List, ◌+◌, ◌*◌, ap, ◌∙◌, mul_comm, arith}
use Rattle.net_plan.specs.declared.plan.Plan.{Plan}
use Rattle.net_plan.specs.Plan.{sizes_of, packets_of, boxes_of}
use Rattle.net_plan.specs.Ends.{ends_of}
use Rattle.header_set.specs.Headers.{product}
use Rattle.net_plan.specs.Cells.{cells_of, all_masks}
use Rattle.net_plan.specs.Kept.{first_state}
use Rattle.net_plan.proofs.CellLemmas.{cells_counted}
use Rattle.net_plan.proofs.TableLemmas.{first_abort}
use Rattle.net_plan.proofs.network.Network.cells.Goals as goal

counted : (plan : Plan) (one two packets first : ℕ) (headers : List ℕ) → one ≡ boxes_of plan →
    first ≡ first_state plan one → two ≡ boxes_of plan →
    headers ≡ sizes_of plan → packets ≡ product headers → first + two * packets ≡ cells_of plan
counted plan one two packets first headers is_one is_first is_two are is_packets =
    let start : first ≡ packets_of plan * (ends_of plan + all_masks plan) =
    is_first ∙ ap (first_state plan) is_one ∙ first_abort plan in
    let rows : two * packets ≡ packets_of plan * boxes_of plan =
    ap (λ (n : ℕ). n * packets) is_two ∙ ap (λ (n : ℕ). boxes_of plan * n) (is_packets ∙ ap product are)
    ∙ mul_comm (boxes_of plan) (packets_of plan) in
    omega (arith, cells_counted plan, start, rows)

pub overflow_add-result : goal.overflow_add-result
overflow_add-result c =
    let is : c.first_state.result + c.boxes-2.result * c.count.result ≡ cells_of c.args.self.now =
    counted c.args.self.now c.boxes.result c.boxes-2.result c.count.result c.first_state.result c.headers.result.now
    c.boxes.ensures c.first_state.ensures c.boxes-2.ensures c.headers.ensures c.count.ensures.product in
    omega (arith, is, c.sound.ensures.limits.cells)

pub returns-clause-cells : goal.returns-clause-cells
returns-clause-cells c =
    counted c.args.self.now c.boxes.result c.boxes-2.result c.count.result c.first_state.result c.headers.result.now
    c.boxes.ensures c.first_state.ensures c.boxes-2.ensures c.headers.ensures c.count.ensures.product

pub returns-clause-few : goal.returns-clause-few
returns-clause-few c =
    let is : c.first_state.result + c.boxes-2.result * c.count.result ≡ cells_of c.args.self.now =
    counted c.args.self.now c.boxes.result c.boxes-2.result c.count.result c.first_state.result c.headers.result.now
    c.boxes.ensures c.first_state.ensures c.boxes-2.ensures c.headers.ensures c.count.ensures.product in
    omega (arith, is, c.sound.ensures.limits.cells)
