use Rattle.packet_domain.proofs.RoleLemmas.{delivered}
use Rattle.move_table.proofs.WithinLemmas.{followed_stays}
use Rattle.packet_domain.proofs.MoveLemmas.{moves_by}
use Rattle.packet_domain.proofs.delivered.deliver.Goals as goal

pub returns-clause-offered : goal.returns-clause-offered
returns-clause-offered g c =
    let plan = c.args.net.now in
    let inlet = c.args.inlet in
    let exact = c.step_is_exact.ensures plan inlet.end c.args.p inlet.b inlet.port c.args.v c.fire-fired.result.now
    (record {
      sound = c.sound.ensures;
      leads = c.requires.inlet.leads;
      packet_in_range = c.requires.packet;
      fired = c.fire-fired.ensures.fired;
    }) in
    delivered plan inlet.end c.args.p inlet.b c.args.v c.fire-fired.result.now exact c.args.work.now
    c.offer_results.new.work c.change_by_results.new.work c.offer_results.ensures c.change_by_results.ensures.offered

pub returns-clause-adds : goal.returns-clause-adds
returns-clause-adds g c =
    let plan = c.args.net.now in
    let inlet = c.args.inlet in
    let exact = c.step_is_exact.ensures plan inlet.end c.args.p inlet.b inlet.port c.args.v c.fire-fired.result.now
    (record {
      sound = c.sound.ensures;
      leads = c.requires.inlet.leads;
      packet_in_range = c.requires.packet;
      fired = c.fire-fired.ensures.fired;
    }) in
    moves_by plan inlet.end c.args.p inlet.b c.args.v c.fire-fired.result.now exact c.args.table.now.moves
    c.change_by_results.new.table.moves c.change_by_results.ensures.adds

pub change_by_results-requires-clause-followed : goal.change_by_results-requires-clause-followed
change_by_results-requires-clause-followed g c =
    followed_stays c.args.net.now c.args.table.now.moves c.args.work.now c.offer_results.new.work
    c.offer_results.ensures.grows c.requires.followed
