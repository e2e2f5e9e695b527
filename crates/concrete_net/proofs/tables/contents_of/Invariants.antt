use Rattle.concrete_net.proofs.TableLemmas.{HoldAlike}
use Rattle.std.proofs.Common.{take}
use Rattle.concrete_net.proofs.tables.contents_of.Given as goal

-- what is held so far is what the entries before this one hold
abbrev pub invariant-loop-entry : goal.invariant-loop-entry
invariant-loop-entry l = HoldAlike l.contents (take l.entry-index l.entries)
