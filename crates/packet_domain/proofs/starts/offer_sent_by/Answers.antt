use Rattle.std.proofs.Common.{ℕ, ◌<◌, ◌≤◌, List, ap, subst, ◌∙◌}
use Rattle.header_set.specs.Headers.{product}
use Rattle.net_plan.specs.Plan.{packets_of}
use Rattle.packet_domain.specs.Reasons.{IsSentBy}
use Rattle.move_table.proofs.OfferedLemmas.{below_turn, below_all}
use Rattle.packet_domain.proofs.starts.offer_sent_by.Goals as goal

pub loop-p-preserved : goal.loop-p-preserved
loop-p-preserved g c =
    let plan = c.args.net.now in
    below_turn plan (packets_of plan) (λ (done : List ℕ) (k : ℕ). IsSentBy plan c.args.host k) c.loop-p.p
    c.args.work.now c.loop-p.work c.offer_sent.new.work
    (subst (λ (n : ℕ). c.loop-p.p < n) (c.count-p-end.ensures.product ∙ ap product c.headers.ensures) c.loop-p-test.true)
    c.loop-p.invariant c.offer_sent.ensures

pub returns : goal.returns
returns g c =
    let plan = c.args.net.now in
    below_all plan (packets_of plan) (λ (done : List ℕ) (k : ℕ). IsSentBy plan c.args.host k) c.loop-p.p
    c.args.work.now c.loop-p.work
    (subst (λ (n : ℕ). n ≤ c.loop-p.p) (c.count-p-end.ensures.product ∙ ap product c.headers.ensures) c.loop-p-test.false) c.loop-p.invariant
