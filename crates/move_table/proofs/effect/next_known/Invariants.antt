use Rattle.move_table.specs.Effect.{HasNoKnown}
use Rattle.move_table.proofs.effect.next_known.Given as goal

abbrev pub invariant-loop-w : goal.invariant-loop-w
invariant-loop-w l = HasNoKnown l.known l.bits l.fn.from l.w
