use Rattle.std.proofs.Common.{◌≡◌, drop}
use Rattle.box_contents.specs.Contents.{holds_entry}
use Rattle.abstract_step.specs.Masks.{marked}
use Rattle.abstract_step.proofs.masks.has.Given as goal

-- no tuple so far is the entry with bit 1
abbrev pub invariant-loop-tuple : goal.invariant-loop-tuple
invariant-loop-tuple l =
    holds_entry (marked l.tuples l.mask) l.entry
    ≡ holds_entry (marked (drop l.tuple-index l.tuples) l.rest) l.entry
