use Rattle.std.proofs.Common.{◌⊎◌, inl, inr, arith}
use Rattle.move_table.specs.Moves.{Move, Patches}
use Rattle.move_table.specs.Within.{IsCoveredBy, SharedBefore}
use Rattle.move_table.proofs.CoverLemmas.{noted_or_same}
use Rattle.move_table.proofs.MarkLemmas.{marks_stay}
use Rattle.move_table.proofs.WithinLemmas.{Turns, turns_none, turns_next, within_both, within_all}
use Rattle.move_table.proofs.update.note_update.Goals as goal

pub loop-i-init : goal.loop-i-init
loop-i-init g c =
    let plan = c.args.net.now in
    record {
      within = turns_none plan (IsCoveredBy plan c.args.tables.now c.args.b c.args.p c.args.v c.args.update.now)
          (Patches plan c.args.b c.args.p c.args.v c.args.update.now) c.args.moves.now c.args.work.now c.requires.sized
          c.requires.followed;
      marks = c.requires.marks;
    }

pub loop-i-preserved : goal.loop-i-preserved
loop-i-preserved g c =
    let plan = c.args.net.now in
    record {
      within = turns_next plan (IsCoveredBy plan c.args.tables.now c.args.b c.args.p c.args.v c.args.update.now)
          (Patches plan c.args.b c.args.p c.args.v c.args.update.now) c.loop-i.i c.args.moves.now c.loop-i.moves
          c.note_write.new.moves c.args.work.now c.loop-i.work c.note_write.new.work c.loop-i.invariant.within
          c.note_write.ensures.noted;
      marks = c.note_write.ensures.marks;
    }

pub loop-i-2-init : goal.loop-i-2-init
loop-i-2-init g c =
    let plan = c.args.net.now in
    record {
      within = turns_none plan (SharedBefore plan c.args.tables.now c.args.b c.args.p c.args.v c.args.update.now)
          (Patches plan c.args.b c.args.p c.args.v c.args.update.now) c.loop-i.moves c.loop-i.work
          c.loop-i.invariant.within.sized (c.loop-i.invariant.within.followed c.requires.followed);
      marks = c.loop-i.invariant.marks;
    }

pub loop-i-2-preserved : goal.loop-i-2-preserved
loop-i-2-preserved g c =
    let plan = c.args.net.now in
    record {
      within = turns_next plan (SharedBefore plan c.args.tables.now c.args.b c.args.p c.args.v c.args.update.now)
          (Patches plan c.args.b c.args.p c.args.v c.args.update.now) c.loop-i-2.i c.loop-i.moves c.loop-i-2.moves
          c.note_pairs.new.moves c.loop-i.work c.loop-i-2.work c.note_pairs.new.work c.loop-i-2.invariant.within
          c.note_pairs.ensures;
      marks = marks_stay plan c.args.tables.now c.loop-i-2.moves c.note_pairs.new.moves c.loop-i.marks
          c.note_pairs.ensures.stays c.loop-i-2.invariant.marks;
    }

pub returns-clause-noted : goal.returns-clause-noted
returns-clause-noted g c =
    let plan = c.args.net.now in
    let writes = c.args.update.now in
    let M = Patches plan c.args.b c.args.p c.args.v writes in
    let L = Turns plan (IsCoveredBy plan c.args.tables.now c.args.b c.args.p c.args.v writes) M c.loop-i.i in
    let R = Turns plan (SharedBefore plan c.args.tables.now c.args.b c.args.p c.args.v writes) M c.loop-i-2.i in
    within_all plan (λ (move : Move). L move ⊎ R move) M c.args.moves.now c.loop-i-2.moves c.args.work.now c.loop-i-2.work
    (λ move is patches. elim (noted_or_same c.laws.ensures plan c.args.tables.now c.requires.tables c.args.b c.args.p
    c.args.v writes move patches c.requires.boxed is.packet_is c.sound.ensures.sites c.sound.ensures.are) [
      | inl same ↦ inr (inr same)
      | inr (inl covered) ↦ inl (inl (covered.0, omega (arith, covered.1, c.loop-i-test.false), covered.2))
      | inr (inr shared) ↦ inl (inr (shared.0, omega (arith, shared.1, c.loop-i-2-test.false), shared.2))
    ]) c.requires.followed
    (within_both plan L M R c.args.moves.now c.loop-i.moves c.loop-i-2.moves c.args.work.now c.loop-i.work c.loop-i-2.work
    c.loop-i.invariant.within c.loop-i-2.invariant.within)

pub note_pairs-requires-clause-followed : goal.note_pairs-requires-clause-followed
note_pairs-requires-clause-followed g c =
    c.loop-i-2.invariant.within.followed (c.loop-i.invariant.within.followed c.requires.followed)
