use Rattle.std.proofs.Common.{ℕ, ◌<◌, ◌≤◌, List, ap, subst, ◌∙◌}
use Rattle.header_set.specs.Headers.{product}
use Rattle.net_plan.specs.Plan.{packets_of}
use Rattle.packet_domain.specs.Reasons.{ChangesAt}
use Rattle.move_table.proofs.OfferedLemmas.{below_turn, below_all}
use Rattle.packet_domain.proofs.changes.change_all.Goals as goal

pub loop-q-preserved : goal.loop-q-preserved
loop-q-preserved g c =
    let plan = c.args.net.now in
    below_turn plan (packets_of plan)
    (λ (done : List ℕ) (q : ℕ). ChangesAt plan done c.args.b c.args.p c.args.v c.args.fired.now q) c.loop-q.q
    c.args.work.now c.loop-q.work c.change_at.new.work
    (subst (λ (n : ℕ). c.loop-q.q < n) (c.count-q-end.ensures.product ∙ ap product c.headers.ensures) c.loop-q-test.true)
    c.loop-q.invariant c.change_at.ensures

pub returns : goal.returns
returns g c =
    let plan = c.args.net.now in
    below_all plan (packets_of plan)
    (λ (done : List ℕ) (q : ℕ). ChangesAt plan done c.args.b c.args.p c.args.v c.args.fired.now q) c.loop-q.q
    c.args.work.now c.loop-q.work
    (subst (λ (n : ℕ). n ≤ c.loop-q.q) (c.count-q-end.ensures.product ∙ ap product c.headers.ensures)
    c.loop-q-test.false) c.loop-q.invariant
