use Rattle.std.proofs.Common.{ℕ, ◌<◌, ◌≤◌, length, ap, subst, ◌∙◌}
use Rattle.std.proofs.lemmas.Nat.{pow_pos}
use Rattle.header_set.specs.Headers.{product}
use Rattle.net_plan.specs.Plan.{boxes_of, box_at, class_of, packets_of}
use Rattle.fact_sets.proofs.SummaryLemmas.{states_between}
use Rattle.fact_sets.proofs.summary.states_of.Goals as goal

pub returns-then-boxes-gt0 : goal.returns-then-boxes-gt0
returns-then-boxes-gt0 c cell least less =
    let plan = c.args.network.now in
    let boxes : 0 < boxes_of plan = subst (λ (n : ℕ). 0 < n) c.boxes.ensures c.if-boxes-gt0.true in
    let packets : 0 < packets_of plan =
    subst (λ (n : ℕ). 0 < n) (c.count-packets.ensures.product ∙ ap product c.headers.ensures) c.count-packets.ensures.positive in
    states_between plan (c.cells_are_facts.ensures plan)
    (boxes, packets, pow_pos (length (class_of plan (box_at plan 0)).queries)) (boxes, packets) cell
    (subst (λ (n : ℕ). n ≤ cell) c.cell_of.ensures.cell least)
    (subst (λ (n : ℕ). cell < n) c.cell_of-then-boxes-gt0.ensures.cell less)
