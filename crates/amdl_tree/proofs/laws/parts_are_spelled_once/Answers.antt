use Rattle.amdl_tree.specs.WellBuilt.{IsBuiltStmt}
use Rattle.amdl_tree.proofs.SpellingOnce.{statements_once_by}
use Rattle.amdl_tree.proofs.BuiltLemmas.{built_lit_once, built_guard_once, built_stmt_once}
use Rattle.amdl_tree.proofs.TreeOnce.{built_class_once, pattern_once, end_once, item_once, tree_once}
use Rattle.amdl_tree.proofs.laws.parts_are_spelled_once.Goals as goal

pub returns : goal.returns
returns c = record {
  lit = built_lit_once;
  guard = built_guard_once;
  stmt = built_stmt_once;
  statements = statements_once_by IsBuiltStmt built_stmt_once;
  class = built_class_once;
  pattern = pattern_once;
  end = end_once;
  item = item_once;
  tree = tree_once;
}
