use Rattle.std.proofs.Common.{ℕ, List, subst}
use Rattle.move_table.specs.Moves.{Adds}
use Rattle.packet_domain.specs.Table.{MovesAsState}
use Rattle.packet_domain.proofs.MoveLemmas.{both_roles_moved, followed_state}
use Rattle.packet_domain.proofs.react.react_to_state.Goals as goal

pub returns-clause-offered : goal.returns-clause-offered
returns-clause-offered g c =
    both_roles_moved c.args.net.now c.requires.tracks.0 c.args.work.now c.change_answers.new.work
    c.deliver_state.new.work c.args.b c.args.p c.args.v c.args.table.now.moves c.requires.in_range c.requires.tracks.1
    c.requires.tracks.2 c.change_answers.ensures.offered c.deliver_state.ensures.offered

pub returns-clause-adds : goal.returns-clause-adds
returns-clause-adds g c =
    subst (λ (d : List ℕ). Adds c.args.net.now (MovesAsState c.args.net.now d c.args.b c.args.p c.args.v) c.args.table.now.moves
    c.deliver_state.new.table.moves) c.change_answers.ensures.offered.grows.done c.deliver_state.ensures.adds

pub deliver_state-requires-clause-followed : goal.deliver_state-requires-clause-followed
deliver_state-requires-clause-followed g c =
    followed_state c.args.net.now c.requires.tracks.0 c.args.work.now c.change_answers.new.work
    c.change_answers.new.work c.args.b c.args.p c.args.v c.args.table.now.moves c.requires.in_range
    c.requires.tracks.1 c.requires.tracks.2 c.change_answers.ensures.offered
