use Rattle.packet_domain.proofs.RoleLemmas.{changed}
use Rattle.packet_domain.proofs.changed.change_by.Goals as goal

pub returns-clause-offered : goal.returns-clause-offered
returns-clause-offered g c =
    let plan = c.args.net.now in
    let inlet = c.args.inlet in
    let exact = c.step_is_exact.ensures plan inlet.end c.args.p inlet.b inlet.port c.args.v c.fire-fired.result.now
    (record {
      sound = c.sound.ensures;
      leads = c.requires.inlet.leads;
      packet_in_range = c.requires.packet;
      fired = c.fire-fired.ensures.fired;
    }) in
    changed plan inlet.end c.args.p inlet.b c.args.v c.fire-fired.result.now exact c.args.q c.args.w c.args.work.now
    c.change.new.work c.requires.other c.change.ensures
