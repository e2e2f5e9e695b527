use Rattle.std.proofs.Common.{arith}
use Rattle.cell_sets.proofs.WordLemmas.{no_mark_within, marked_at}
use Rattle.cell_sets.proofs.words.next_mark.Goals as goal

pub returns-then-cell-to : goal.returns-then-cell-to
returns-then-cell-to c =
    let found = c.in-Some.ensures in (
      omega arith,
      c.if-cell-to.true,
      marked_at c.args.words.now c.loop-at.at c.in-Some.bit found.1 found.2,
      no_mark_within c.args.words.now c.args.from c.loop-at.at c.saturating_sub-low.result c.saturating_sub-low.ensures
          c.loop-at.invariant c.in-Some.bit (omega arith) found.3,
    )

pub returns-else-cell-to : goal.returns-else-cell-to
returns-else-cell-to c =
    let found = c.in-Some.ensures in
    let none =
    no_mark_within c.args.words.now c.args.from c.loop-at.at c.saturating_sub-low.result
    c.saturating_sub-low.ensures c.loop-at.invariant c.in-Some.bit (omega (arith, found.1)) found.3 in
    λ cell low high. none cell low (omega (arith, c.if-cell-to.false))

pub loop-at-preserved : goal.loop-at-preserved
loop-at-preserved c =
    let none =
    no_mark_within c.args.words.now c.args.from c.loop-at.at c.saturating_sub-low.result
    c.saturating_sub-low.ensures c.loop-at.invariant 64 (omega arith) c.in_default.ensures in
    λ cell low high. none cell low (omega arith)
