use Rattle.move_table.specs.Offered.{HasNone, IsDoneIn}
use Rattle.packet_domain.proofs.done.next_in_few.Given as goal

abbrev pub invariant-loop-k : goal.invariant-loop-k
invariant-loop-k g l = HasNone (IsDoneIn l.work.done l.first) l.from l.k
