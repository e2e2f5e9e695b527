use Rattle.std.proofs.Common.{◌≡◌, take, map}
use Rattle.item_rules.proofs.names.field_names.Given as goal

-- the names so far
abbrev pub invariant-loop-equal : goal.invariant-loop-equal
invariant-loop-equal l = l.names ≡ map (λ equal. equal.field) (take l.equal-index l.equals)
