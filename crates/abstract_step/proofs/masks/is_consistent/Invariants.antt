use Rattle.std.proofs.Common.{◌≡◌, ◌↔◌, ◌<◌, ◌-◌, ◌^◌, true, drop, length, map}
use Rattle.box_contents.specs.declared.entry.Entry.{Entry}
use Rattle.box_contents.specs.Contents.{holds_entry}
use Rattle.packet_state.specs.Answers.{mask_of}
use Rattle.abstract_step.specs.Masks.{marked}
use Rattle.abstract_step.proofs.masks.is_consistent.Given as goal

-- the bits so far are right, and the tuples with bit 1 that are left are among all of them
abbrev pub invariant-loop-tuple : goal.invariant-loop-tuple
invariant-loop-tuple l =
    (l.rest < 2 ^ (length l.tuples - l.tuple-index))
    × ((mask_of (map (holds_entry (marked l.tuples l.mask)) l.tuples) ≡ l.mask)
    ↔ (mask_of (map (holds_entry (marked l.tuples l.mask)) (drop l.tuple-index l.tuples)) ≡ l.rest))
    × ((entry : Entry) → holds_entry (marked (drop l.tuple-index l.tuples) l.rest) entry ≡ true →
    holds_entry (marked l.tuples l.mask) entry ≡ true)
