use Rattle.std.proofs.Common.{◌≡◌, drop}
use Rattle.tree_plan.specs.Net.{class_named}
use Rattle.item_rules.specs.Found.{first_told, class_if}
use Rattle.item_rules.proofs.lookups.class_named.Given as goal

-- no item so far is the class
abbrev pub invariant-loop-item : goal.invariant-loop-item
invariant-loop-item l = class_named l.before l.name ≡ first_told (class_if l.name) (drop l.item-index l.before)
