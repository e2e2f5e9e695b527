use Rattle.std.proofs.Common.{◌≤◌, length}
use Rattle.amdl_tree.specs.GoesOn.{starts_item}
use Rattle.amdl_parser.specs.Grammar.{item_at, items_at}
use Rattle.amdl_parser.proofs.Loops.{Gathering}
use Rattle.amdl_parser.proofs.primitive.Tokens.items.Given as goal

abbrev pub invariant-loop-alloc : goal.invariant-loop-alloc
invariant-loop-alloc l = record {
  gathering : Gathering (items_at l.fn.levels) starts_item
      (item_at l.fn.levels) l.fn.self.left.now l.self.left.now l.items;
  shorter : length l.self.left.now ≤ length l.fn.self.left.now;
}

abbrev pub decreases-loop-alloc : goal.decreases-loop-alloc
decreases-loop-alloc l = length l.self.left.now
