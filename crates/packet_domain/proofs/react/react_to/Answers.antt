use Rattle.std.proofs.Common.{sym, subst}
use Rattle.move_table.specs.Offered.{Offered}
use Rattle.packet_domain.specs.Reasons.{Reacts}
use Rattle.move_table.specs.Moves.{Adds}
use Rattle.packet_domain.specs.Table.{MovesAs}
use Rattle.fix_engine.specs.Progress.{Takes}
use Rattle.net_plan.specs.Cells.{IsInRange, cell_of}
use Rattle.packet_domain.proofs.MoveLemmas.{followed_out}
use Rattle.packet_domain.proofs.react.react_to.Goals as goal

pub returns-in-Out-clause-offered : goal.returns-in-Out-clause-offered
returns-in-Out-clause-offered g c =
    subst
    (λ fact. Offered c.args.net.now (Reacts c.args.net.now c.args.work.now.done fact) c.args.work.now
    c.deliver_out.new.work) (sym c.in-Out.is) c.deliver_out.ensures.offered

pub returns-in-Out-clause-adds : goal.returns-in-Out-clause-adds
returns-in-Out-clause-adds g c =
    subst
    (λ fact. Adds c.args.net.now (MovesAs c.args.net.now c.args.work.now.done fact) c.args.table.now.moves
    c.deliver_out.new.table.moves) (sym c.in-Out.is) c.deliver_out.ensures.adds

pub returns-in-State-clause-offered : goal.returns-in-State-clause-offered
returns-in-State-clause-offered g c =
    subst
    (λ fact. Offered c.args.net.now (Reacts c.args.net.now c.args.work.now.done fact) c.args.work.now
    c.react_to_state.new.work) (sym c.in-State.is) c.react_to_state.ensures.offered

pub returns-in-State-clause-adds : goal.returns-in-State-clause-adds
returns-in-State-clause-adds g c =
    subst
    (λ fact. Adds c.args.net.now (MovesAs c.args.net.now c.args.work.now.done fact) c.args.table.now.moves
    c.react_to_state.new.table.moves) (sym c.in-State.is) c.react_to_state.ensures.adds

pub deliver_out-requires-clause-followed : goal.deliver_out-requires-clause-followed
deliver_out-requires-clause-followed g c =
    followed_out c.args.net.now c.requires.tracks.0 c.args.work.now c.in-Out.end c.in-Out.p
    (subst (IsInRange c.args.net.now) c.in-Out.is c.requires.in_range)
    (subst (λ fact. Takes c.requires.tracks.0 (cell_of c.args.net.now fact) c.args.work.now) c.in-Out.is
    c.requires.tracks.1) c.args.table.now.moves c.requires.tracks.2
