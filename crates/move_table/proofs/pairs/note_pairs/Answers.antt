use Rattle.std.proofs.Common.{arith}
use Rattle.move_table.specs.Moves.{Patches}
use Rattle.move_table.specs.Within.{IsSharedBy, SharedBefore}
use Rattle.move_table.proofs.WithinLemmas.{Turns, turns_none, turns_next, within_less}
use Rattle.move_table.proofs.pairs.note_pairs.Goals as goal

pub loop-j-init : goal.loop-j-init
loop-j-init g c =
    let plan = c.args.net.now in
    turns_none plan (IsSharedBy plan c.args.tables.now c.args.b c.args.p c.args.v c.args.update.now c.args.i)
    (Patches plan c.args.b c.args.p c.args.v c.args.update.now) c.args.moves.now c.args.work.now c.requires.sized
    c.requires.followed

pub loop-j-preserved : goal.loop-j-preserved
loop-j-preserved g c =
    let plan = c.args.net.now in
    turns_next plan (IsSharedBy plan c.args.tables.now c.args.b c.args.p c.args.v c.args.update.now c.args.i)
    (Patches plan c.args.b c.args.p c.args.v c.args.update.now) c.loop-j.j c.args.moves.now c.loop-j.moves
    c.note_pair.new.moves c.args.work.now c.loop-j.work c.note_pair.new.work c.loop-j.invariant c.note_pair.ensures

pub returns : goal.returns
returns g c =
    let plan = c.args.net.now in
    let M = Patches plan c.args.b c.args.p c.args.v c.args.update.now in
    let R = IsSharedBy plan c.args.tables.now c.args.b c.args.p c.args.v c.args.update.now c.args.i in
    within_less plan (SharedBefore plan c.args.tables.now c.args.b c.args.p c.args.v c.args.update.now c.args.i) M
    (Turns plan R M c.loop-j.j) c.args.moves.now c.loop-j.moves c.args.work.now c.loop-j.work
    (λ move is holds. (holds.0, omega (arith, holds.1, c.loop-j-test.false), holds.2)) c.loop-j.invariant
