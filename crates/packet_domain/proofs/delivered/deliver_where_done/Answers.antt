use Rattle.std.proofs.Common.{subst}
use Rattle.std.specs.List.{Contains}
use Rattle.packet_domain.proofs.RoleLemmas.{where_done}
use Rattle.packet_domain.proofs.MoveLemmas.{moves_where_done}
use Rattle.packet_domain.proofs.delivered.deliver_where_done.Goals as goal

pub returns-then-is_done-clause-offered : goal.returns-then-is_done-clause-offered
returns-then-is_done-clause-offered g c =
    where_done c.args.net.now c.args.work.now.done c.args.work.now c.deliver.new.work c.args.inlet.b c.args.inlet.end
    c.args.p c.args.v (
      (c.requires.inlet.end, c.requires.packet),
      subst (Contains c.args.work.now.done) c.cell_of.ensures.cell (c.is_done.ensures.0 c.if-is_done.true),
    )
    c.deliver.ensures.offered

pub returns-then-is_done-clause-adds : goal.returns-then-is_done-clause-adds
returns-then-is_done-clause-adds g c =
    moves_where_done c.args.net.now c.args.work.now.done c.args.table.now.moves c.deliver.new.table.moves c.args.inlet.b
    c.args.inlet.end c.args.p c.args.v (
      (c.requires.inlet.end, c.requires.packet),
      subst (Contains c.args.work.now.done) c.cell_of.ensures.cell (c.is_done.ensures.0 c.if-is_done.true),
    )
    c.deliver.ensures.adds
