use Rattle.std.proofs.Common.{◌≡◌, take, map}
use Rattle.class_rules.proofs.class_names.relation_names.Given as goal

-- the names so far
abbrev pub invariant-loop-relation : goal.invariant-loop-relation
invariant-loop-relation l = l.names ≡ map (λ relation. relation.name) (take l.relation-index l.relations)
