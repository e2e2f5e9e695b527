use Rattle.std.proofs.Common.{◌-◌, ◌≤◌}
use Rattle.net_plan.specs.Plan.{packets_of}
use Rattle.move_table.specs.Moves.{Patches}
use Rattle.move_table.specs.Within.{NotedWithin, IsShared}
use Rattle.move_table.proofs.WithinLemmas.{Below}
use Rattle.move_table.proofs.pairs.note_common.Given as goal

abbrev pub invariant-loop-q : goal.invariant-loop-q
invariant-loop-q g l =
    record {
      within : NotedWithin l.net
          (Below l.net (IsShared l.net l.tables l.b l.p l.v l.update l.one l.other) (Patches l.net l.b l.p l.v l.update)
          l.from)
          (Patches l.net l.b l.p l.v l.update) l.initial.moves l.moves l.initial.work l.work;
      small : l.from ≤ packets_of l.net;
    }

abbrev pub decreases-loop-q : goal.decreases-loop-q
decreases-loop-q g l = packets_of l.net - l.from
