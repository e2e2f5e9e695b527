use Rattle.std.proofs.Common.{arith}
use Rattle.move_table.specs.Moves.{Patches}
use Rattle.move_table.specs.Within.{IsShared, SharedWith}
use Rattle.move_table.proofs.WithinLemmas.{TurnsFrom, from_none, from_next, within_less}
use Rattle.move_table.proofs.pairs.note_against.Goals as goal

pub loop-other-init : goal.loop-other-init
loop-other-init g c =
    let plan = c.args.net.now in
    from_none plan (IsShared plan c.args.tables.now c.args.b c.args.p c.args.v c.args.update.now c.args.one)
    (Patches plan c.args.b c.args.p c.args.v c.args.update.now) c.sites-numbers.result.from c.args.moves.now
    c.args.work.now c.requires.sized c.requires.followed

pub loop-other-preserved : goal.loop-other-preserved
loop-other-preserved g c =
    let plan = c.args.net.now in
    from_next plan (IsShared plan c.args.tables.now c.args.b c.args.p c.args.v c.args.update.now c.args.one)
    (Patches plan c.args.b c.args.p c.args.v c.args.update.now) c.sites-numbers.result.from c.loop-other.other
    c.args.moves.now c.loop-other.moves c.note_common.new.moves c.args.work.now c.loop-other.work
    c.note_common.new.work c.loop-other.invariant c.note_common.ensures

pub returns : goal.returns
returns g c =
    let plan = c.args.net.now in
    let M = Patches plan c.args.b c.args.p c.args.v c.args.update.now in
    let R = IsShared plan c.args.tables.now c.args.b c.args.p c.args.v c.args.update.now c.args.one in
    within_less plan
    (SharedWith plan c.args.tables.now c.args.b c.args.p c.args.v c.args.update.now c.args.one c.args.entry) M
    (TurnsFrom plan R M c.sites-numbers.result.from c.loop-other.other) c.args.moves.now c.loop-other.moves
    c.args.work.now c.loop-other.work
    (λ move is holds.
    let there = c.sites-numbers.ensures.all holds.two holds.shared.common.of_other.site holds.shared.common.of_other.at
    holds.entry_is in
    (holds.two, omega (arith, there.1, c.loop-other-test.false), (there.0, holds.shared)))
    c.loop-other.invariant
