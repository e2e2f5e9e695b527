use Rattle.std.proofs.Common.{◌≡◌, take}
use Rattle.box_handlers.specs.Tuple.{fields_after}
use Rattle.handler_runs.proofs.terms.packet_of.Given as goal

-- the values after the changes so far
abbrev pub invariant-loop-change : goal.invariant-loop-change
invariant-loop-change l = l.values ≡ fields_after l.setting.fields.now l.picked (take l.change-index l.changes)
