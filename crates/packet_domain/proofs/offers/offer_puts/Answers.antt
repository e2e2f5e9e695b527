use Rattle.packet_domain.specs.Reasons.{IsPutOut}
use Rattle.move_table.proofs.OfferedLemmas.{Member, offered_more, place_turn, members_all}
use Rattle.packet_domain.proofs.offers.offer_puts.Goals as goal

pub loop-put-preserved : goal.loop-put-preserved
loop-put-preserved g c =
    let plan = c.args.net.now in
    let now = c.loop-put.work in
    let new = c.offer_put.new.work in
    offered_more plan (Member plan (IsPutOut plan c.args.b) c.args.puts.now) c.loop-put.put-index c.args.work.now now new
    c.loop-put.invariant
    (place_turn plan (IsPutOut plan c.args.b) c.args.puts.now c.loop-put.put-index _ now new c.loop-put-test.true
    c.offer_put.ensures)

pub returns : goal.returns
returns g c =
    members_all c.args.net.now (IsPutOut c.args.net.now c.args.b) c.args.puts.now c.loop-put.put-index c.args.work.now
    c.loop-put.work c.loop-put-test.false c.loop-put.invariant
