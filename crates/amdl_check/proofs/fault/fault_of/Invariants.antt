use Rattle.std.proofs.Common.{take}
use Rattle.tree_rules.specs.Checked.{KeepsEach}
use Rattle.amdl_check.specs.Seeing.{HasSeen}
use Rattle.amdl_check.proofs.fault.fault_of.Given as goal

-- no rule holds of any item so far, and what is known is known of these
abbrev pub invariant-loop-place : goal.invariant-loop-place
invariant-loop-place l = record {
  seen : HasSeen (take l.place l.items) l.seen;
  keeps : KeepsEach (take l.place l.items);
}
