use Rattle.std.proofs.Common.{◌<◌, ◌≤◌, ◌+◌, ◌*◌, length}
use Rattle.amdl_tree.specs.declared.token.Token.TheVariants.{Sign as Signed}
use Rattle.amdl_tree.specs.declared.token.Sign.TheVariants.{Bar}
use Rattle.amdl_tree.specs.GoesOn.{starts_statement}
use Rattle.amdl_parser.specs.Grammar.{stmt_at, statements_at, branch_at, branches_at}
use Rattle.amdl_parser.proofs.Loops.{Listing, Gathering}
use Rattle.amdl_parser.proofs.primitive.Tokens.+statements.Given as goal

abbrev pub decreases-branches : goal.decreases-branches
decreases-branches l = 8 * l.levels + 8

abbrev pub decreases-branch : goal.decreases-branch
decreases-branch l = 8 * l.levels + 7

abbrev pub decreases-block : goal.decreases-block
decreases-block l = 8 * l.levels + 6

abbrev pub decreases-statements : goal.decreases-statements
decreases-statements l = 8 * l.levels + 5

abbrev pub decreases-stmt : goal.decreases-stmt
decreases-stmt l = 8 * l.levels + 4

abbrev pub decreases-choose : goal.decreases-choose
decreases-choose l = 8 * l.levels + 3

abbrev pub decreases-pick : goal.decreases-pick
decreases-pick l = 8 * l.levels + 3

abbrev pub decreases-chosen : goal.decreases-chosen
decreases-chosen l = 8 * l.levels + 9

abbrev pub decreases-picked : goal.decreases-picked
decreases-picked l = 8 * l.levels + 7

abbrev pub invariant-branches-loop-alloc : goal.invariant-branches-loop-alloc
invariant-branches-loop-alloc l = record {
  listing : Listing (branches_at l.fn.levels) (Signed Bar)
      (branch_at l.fn.levels) l.fn.self.left.now l.self.left.now l.branches;
  shorter : length l.self.left.now < length l.fn.self.left.now;
}

abbrev pub decreases-branches-loop-alloc : goal.decreases-branches-loop-alloc
decreases-branches-loop-alloc l = length l.self.left.now

abbrev pub invariant-statements-loop-alloc : goal.invariant-statements-loop-alloc
invariant-statements-loop-alloc l = record {
  gathering : Gathering (statements_at l.fn.levels) starts_statement
      (stmt_at l.fn.levels) l.fn.self.left.now l.self.left.now l.statements;
  shorter : length l.self.left.now ≤ length l.fn.self.left.now;
}

abbrev pub decreases-statements-loop-alloc : goal.decreases-statements-loop-alloc
decreases-statements-loop-alloc l = length l.self.left.now
