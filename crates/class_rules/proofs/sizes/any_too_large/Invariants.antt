use Rattle.std.proofs.Common.{◌≡◌, drop}
use Rattle.std.specs.List.{list_any}
use Rattle.tree_plan.specs.Tables.{kinds_back}
use Rattle.class_rules.specs.ByTables.{too_large}
use Rattle.class_rules.proofs.sizes.any_too_large.Given as goal

-- no relation so far is too large
abbrev pub invariant-loop-relation : goal.invariant-loop-relation
invariant-loop-relation l =
    list_any (too_large (kinds_back l.kinds)) l.relations
    ≡ list_any (too_large (kinds_back l.kinds)) (drop l.relation-index l.relations)
