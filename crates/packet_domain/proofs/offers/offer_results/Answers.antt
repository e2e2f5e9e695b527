use Rattle.std.proofs.Common.{ℕ, ◌≤◌, ◌<◌, subst}
use Rattle.packet_domain.specs.Reasons.{Gives}
use Rattle.move_table.proofs.OfferedLemmas.{Member, offered_more, place_turn, members_all}
use Rattle.packet_domain.proofs.offers.offer_results.Goals as goal

pub loop-i-preserved : goal.loop-i-preserved
loop-i-preserved g c =
    let plan = c.args.net.now in
    let now = c.loop-i.work in
    let new = c.offer_result.new.work in
    offered_more plan (Member plan (Gives plan c.args.b c.args.p) c.args.fired.now) c.loop-i.i c.args.work.now now
    new c.loop-i.invariant
    (place_turn plan (Gives plan c.args.b c.args.p) c.args.fired.now c.loop-i.i _ now new
    (subst (λ (n : ℕ). c.loop-i.i < n) c.len-i-end.ensures c.loop-i-test.true) c.offer_result.ensures)

pub returns : goal.returns
returns g c =
    members_all c.args.net.now (Gives c.args.net.now c.args.b c.args.p) c.args.fired.now c.loop-i.i
    c.args.work.now c.loop-i.work (subst (λ (n : ℕ). n ≤ c.loop-i.i) c.len-i-end.ensures c.loop-i-test.false)
    c.loop-i.invariant
