use Rattle.std.proofs.Common.{ℕ, ◌<◌, ◌≤◌, List, length, subst}
use Rattle.packet_domain.specs.Reasons.{SendsAny}
use Rattle.move_table.proofs.OfferedLemmas.{below_turn, below_all}
use Rattle.packet_domain.proofs.starts.offer_all_sent.Goals as goal

pub loop-host-preserved : goal.loop-host-preserved
loop-host-preserved g c =
    let plan = c.args.net.now in
    below_turn plan (length plan.hosts) (λ (done : List ℕ) (k : ℕ). SendsAny plan k) c.loop-host.host
    c.args.work.now c.loop-host.work c.offer_sent_by.new.work
    (subst (λ (n : ℕ). c.loop-host.host < n) (c.hosts-host-end.ensures) c.loop-host-test.true)
    c.loop-host.invariant c.offer_sent_by.ensures

pub returns : goal.returns
returns g c =
    let plan = c.args.net.now in
    below_all plan (length plan.hosts) (λ (done : List ℕ) (k : ℕ). SendsAny plan k) c.loop-host.host
    c.args.work.now c.loop-host.work
    (subst (λ (n : ℕ). n ≤ c.loop-host.host) (c.hosts-host-end.ensures) c.loop-host-test.false) c.loop-host.invariant
