use Rattle.std.proofs.Common.{◌≡◌, take}
use Rattle.tree_network.proofs.boxes.listed.Given as goal

abbrev pub invariant-loop-entry : goal.invariant-loop-entry
invariant-loop-entry l = l.listed ≡ take l.entry-index l.entries
