use Rattle.std.proofs.Common.{◌≡◌, take, map}
use Rattle.tree_network.proofs.classes.relation_names.Given as goal

abbrev pub invariant-loop-relation : goal.invariant-loop-relation
invariant-loop-relation l = l.names ≡ map (λ relation. relation.name) (take l.relation-index l.class.relations)
