use Rattle.std.proofs.Common.{ℕ, ◌<◌, ◌≤◌, List, subst}
use Rattle.net_plan.specs.Plan.{boxes_of}
use Rattle.packet_domain.specs.Reasons.{FirstAny}
use Rattle.move_table.proofs.OfferedLemmas.{below_turn, below_all}
use Rattle.packet_domain.proofs.starts.offer_all_first.Goals as goal

pub loop-b-preserved : goal.loop-b-preserved
loop-b-preserved g c =
    let plan = c.args.net.now in
    below_turn plan (boxes_of plan) (λ (done : List ℕ) (k : ℕ). FirstAny plan k) c.loop-b.b
    c.args.work.now c.loop-b.work c.offer_first_of.new.work
    (subst (λ (n : ℕ). c.loop-b.b < n) (c.boxes-b-end.ensures) c.loop-b-test.true)
    c.loop-b.invariant c.offer_first_of.ensures

pub returns : goal.returns
returns g c =
    let plan = c.args.net.now in
    below_all plan (boxes_of plan) (λ (done : List ℕ) (k : ℕ). FirstAny plan k) c.loop-b.b
    c.args.work.now c.loop-b.work
    (subst (λ (n : ℕ). n ≤ c.loop-b.b) (c.boxes-b-end.ensures) c.loop-b-test.false) c.loop-b.invariant
