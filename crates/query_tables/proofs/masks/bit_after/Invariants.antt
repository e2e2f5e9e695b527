use Rattle.std.proofs.Common.{◌≡◌, drop}
use Rattle.box_masks.specs.Bits.{bit_after}
use Rattle.query_tables.proofs.masks.bit_after.Given as goal

abbrev pub invariant-loop-write : goal.invariant-loop-write
invariant-loop-write l = bit_after l.now l.entry (drop l.write-index l.update) ≡ bit_after l.bit l.entry l.update
