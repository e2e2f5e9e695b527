use Rattle.std.proofs.Common.{sym, arith}
use Rattle.move_table.specs.Moves.{Patches}
use Rattle.move_table.specs.Within.{IsCovered, IsCoveredBy}
use Rattle.move_table.proofs.CoverLemmas.{change_at, change_stays}
use Rattle.move_table.proofs.WithinLemmas.{TurnsFrom, from_none, from_next, within_known, within_less}
use Rattle.move_table.proofs.update.note_write.Goals as goal

pub returns-then-keeps-clause-noted : goal.returns-then-keeps-clause-noted
returns-then-keeps-clause-noted g c =
    let plan = c.args.net.now in
    within_known plan (IsCoveredBy plan c.args.tables.now c.args.b c.args.p c.args.v c.args.update.now c.args.i)
    (Patches plan c.args.b c.args.p c.args.v c.args.update.now) c.args.moves.now c.args.work.now c.requires.sized
    c.requires.followed
    (λ move _ covered. absurd (change_stays c.args.tables.now.plan plan c.args.b c.args.p c.args.v c.args.update.now
    c.args.i covered.covered.site.entry _ c.tuples.result.now c.keeps.result covered.change c.requires.tables
    c.tuples.ensures c.keeps.ensures c.if-keeps.true))

pub loop-number-init : goal.loop-number-init
loop-number-init g c =
    let plan = c.args.net.now in
    record {
      within = from_none plan (IsCovered plan c.args.tables.now c.args.b c.args.p c.args.v c.args.update.now)
          (Patches plan c.args.b c.args.p c.args.v c.args.update.now) c.sites-numbers.result.from c.args.moves.now
          c.args.work.now c.requires.sized c.requires.followed;
      marks = c.requires.marks;
    }

pub loop-number-preserved : goal.loop-number-preserved
loop-number-preserved g c =
    let plan = c.args.net.now in
    record {
      within = from_next plan (IsCovered plan c.args.tables.now c.args.b c.args.p c.args.v c.args.update.now)
          (Patches plan c.args.b c.args.p c.args.v c.args.update.now) c.sites-numbers.result.from c.loop-number.number
          c.args.moves.now c.loop-number.moves c.note_site.new.moves c.args.work.now c.loop-number.work
          c.note_site.new.work c.loop-number.invariant.within c.note_site.ensures.noted;
      marks = c.note_site.ensures.marks;
    }

pub returns-clause-noted : goal.returns-clause-noted
returns-clause-noted g c =
    let plan = c.args.net.now in
    let M = Patches plan c.args.b c.args.p c.args.v c.args.update.now in
    let R = IsCovered plan c.args.tables.now c.args.b c.args.p c.args.v c.args.update.now in
    within_less plan (IsCoveredBy plan c.args.tables.now c.args.b c.args.p c.args.v c.args.update.now c.args.i) M
    (TurnsFrom plan R M c.sites-numbers.result.from c.loop-number.number) c.args.moves.now c.loop-number.moves
    c.args.work.now c.loop-number.work
    (λ move _ holds.
    let there = c.sites-numbers.ensures.all holds.number holds.covered.site holds.covered.at
    (sym (change_at plan c.args.b c.args.p c.args.v c.args.update.now c.args.i holds.covered.site.entry _ holds.change)) in
    (holds.number, omega (arith, there.1, c.loop-number-test.false), (there.0, holds.covered)))
    c.loop-number.invariant.within
