use Rattle.std.proofs.Common.{ℕ, false, get_or, sym, arith}
use Rattle.box_masks.specs.declared.write.Write.{Write}
use Rattle.move_table.specs.Moves.{Patches}
use Rattle.move_table.specs.Within.{IsSharedBy, SharedWith}
use Rattle.move_table.proofs.CoverLemmas.{change_at}
use Rattle.move_table.proofs.WithinLemmas.{TurnsFrom, from_next, within_less}
use Rattle.move_table.proofs.pairs.note_pair.Goals as goal

abbrev no_write : Write
no_write = record { entry = record { relation = 0; tuple = 0 }; add = false }

pub loop-number-preserved : goal.loop-number-preserved
loop-number-preserved g c =
    let plan = c.args.net.now in
    from_next plan
    (λ k. SharedWith plan c.args.tables.now c.args.b c.args.p c.args.v c.args.update.now k
    (get_or c.args.update.now c.args.j no_write).entry)
    (Patches plan c.args.b c.args.p c.args.v c.args.update.now) c.sites-numbers.result.from c.loop-number.number
    c.args.moves.now c.loop-number.moves c.note_against.new.moves c.args.work.now c.loop-number.work
    c.note_against.new.work c.loop-number.invariant c.note_against.ensures

pub returns : goal.returns
returns g c =
    let plan = c.args.net.now in
    let update = c.args.update.now in
    let M = Patches plan c.args.b c.args.p c.args.v update in
    let R = λ (k : ℕ). SharedWith plan c.args.tables.now c.args.b c.args.p c.args.v update k
    (get_or update c.args.j no_write).entry in
    within_less plan (IsSharedBy plan c.args.tables.now c.args.b c.args.p c.args.v update c.args.i c.args.j) M
    (TurnsFrom plan R M c.sites-numbers.result.from c.loop-number.number) c.args.moves.now c.loop-number.moves
    c.args.work.now c.loop-number.work
    (λ move _ holds.
    let first = holds.shared.common.of_one.site in
    let second = holds.shared.common.of_other.site in
    let there = c.sites-numbers.ensures.all holds.one first holds.shared.common.of_one.at
    (sym (change_at plan c.args.b c.args.p c.args.v update c.args.i first.entry _ holds.first_change)) in (
      holds.one,
      omega (arith, there.1, c.loop-number-test.false),
      (
        there.0,
        record {
          two = holds.two;
          shared = holds.shared;
          entry_is =
              sym (change_at plan c.args.b c.args.p c.args.v update c.args.j second.entry no_write holds.second_change);
        },
      ),
    )) c.loop-number.invariant
