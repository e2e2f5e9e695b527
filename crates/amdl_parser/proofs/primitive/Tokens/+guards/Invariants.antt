use Rattle.std.proofs.Common.{◌<◌, ◌+◌, ◌*◌, length}
use Rattle.amdl_tree.specs.declared.token.Token.TheVariants.{Key}
use Rattle.amdl_tree.specs.declared.reserved.Reserved.TheVariants.{And, Or}
use Rattle.amdl_parser.specs.Grammar.{lit_at, conj_at, any_at}
use Rattle.amdl_parser.proofs.Loops.{Listing}
use Rattle.amdl_parser.proofs.primitive.Tokens.+guards.Given as goal

abbrev pub decreases-guard : goal.decreases-guard
decreases-guard l = 8 * l.levels + 7

abbrev pub decreases-any : goal.decreases-any
decreases-any l = 8 * l.levels + 6

abbrev pub decreases-conj : goal.decreases-conj
decreases-conj l = 8 * l.levels + 5

abbrev pub decreases-lit : goal.decreases-lit
decreases-lit l = 8 * l.levels + 4

abbrev pub decreases-not_lit : goal.decreases-not_lit
decreases-not_lit l = 8 * l.levels + 3

abbrev pub decreases-group_lit : goal.decreases-group_lit
decreases-group_lit l = 8 * l.levels + 3

abbrev pub decreases-denied : goal.decreases-denied
decreases-denied l = 8 * l.levels + 5

abbrev pub decreases-grouped : goal.decreases-grouped
decreases-grouped l = 8 * l.levels + 8

abbrev pub invariant-any-loop-alloc : goal.invariant-any-loop-alloc
invariant-any-loop-alloc l = record {
  listing : Listing (any_at l.fn.levels) (Key Or) (conj_at l.fn.levels) l.fn.self.left.now l.self.left.now l.any;
  shorter : length l.self.left.now < length l.fn.self.left.now;
}

abbrev pub decreases-any-loop-alloc : goal.decreases-any-loop-alloc
decreases-any-loop-alloc l = length l.self.left.now

abbrev pub invariant-conj-loop-alloc : goal.invariant-conj-loop-alloc
invariant-conj-loop-alloc l = record {
  listing : Listing (conj_at l.fn.levels) (Key And) (lit_at l.fn.levels) l.fn.self.left.now l.self.left.now l.lits;
  shorter : length l.self.left.now < length l.fn.self.left.now;
}

abbrev pub decreases-conj-loop-alloc : goal.decreases-conj-loop-alloc
decreases-conj-loop-alloc l = length l.self.left.now
