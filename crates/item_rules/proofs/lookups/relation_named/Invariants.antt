use Rattle.std.proofs.Common.{◌≡◌, drop}
use Rattle.std.specs.List.{find}
use Rattle.tree_plan.specs.Names.{same_name}
use Rattle.tree_rules.specs.Kinds.{relation_named}
use Rattle.item_rules.proofs.lookups.relation_named.Given as goal

-- no relation so far has the name
abbrev pub invariant-loop-relation : goal.invariant-loop-relation
invariant-loop-relation l =
    relation_named l.relations l.name
    ≡ find (λ relation. same_name l.name relation.name) (drop l.relation-index l.relations)
