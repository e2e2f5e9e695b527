use Rattle.std.proofs.Common.{◌≡◌, take}
use Rattle.class_rules.proofs.first.copied.Given as goal

-- the names so far
abbrev pub invariant-loop-name : goal.invariant-loop-name
invariant-loop-name l = l.copied ≡ take l.name-index l.names
