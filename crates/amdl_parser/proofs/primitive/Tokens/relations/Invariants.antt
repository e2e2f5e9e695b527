use Rattle.std.proofs.Common.{◌≤◌, length}
use Rattle.amdl_tree.specs.GoesOn.{starts_relation}
use Rattle.amdl_parser.specs.Grammar.{relation_at, relations_at}
use Rattle.amdl_parser.proofs.Loops.{Gathering}
use Rattle.amdl_parser.proofs.primitive.Tokens.relations.Given as goal

abbrev pub invariant-loop-alloc : goal.invariant-loop-alloc
invariant-loop-alloc l = record {
  gathering : Gathering relations_at starts_relation relation_at l.fn.self.left.now l.self.left.now l.relations;
  shorter : length l.self.left.now ≤ length l.fn.self.left.now;
}

abbrev pub decreases-loop-alloc : goal.decreases-loop-alloc
decreases-loop-alloc l = length l.self.left.now
