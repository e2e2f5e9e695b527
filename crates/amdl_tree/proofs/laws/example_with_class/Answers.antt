use Rattle.amdl_tree.proofs.SpellingLemmas.{lit_spelling, guard_spelling, statement_spelling, alternative_spelling}
use Rattle.amdl_tree.proofs.LineLemmas.{lit_layout, guard_layout, statement_lines, alternative_lines}
use Rattle.amdl_tree.proofs.DepthLemmas.{lit_depth_is, guard_depth_is, statement_depth_is, alternative_depth_is}
use Rattle.amdl_tree.specs.declared.guard.Lit.TheViews.{outs-True, outs-Has, outs-Same, outs-Differ, outs-Not}
use Rattle.amdl_tree.specs.declared.guard.Lit.TheViews.{outs-Group}
use Rattle.amdl_tree.specs.declared.statement.Stmt.TheViews.{outs-Insert, outs-Remove, outs-Abort, outs-Output}
use Rattle.amdl_tree.specs.declared.statement.Stmt.TheViews.{outs-Choose, outs-Pick}
use Rattle.amdl_tree.proofs.laws.example_with_class.Goals as goal

pub returns-clause-spelled : goal.returns-clause-spelled
returns-clause-spelled c =
    simp (
      statement_spelling,
      alternative_spelling,
      guard_spelling,
      lit_spelling,
      outs-True,
      outs-Has,
      outs-Same,
      outs-Differ,
      outs-Not,
      outs-Group,
      outs-Insert,
      outs-Remove,
      outs-Abort,
      outs-Output,
      outs-Choose,
      outs-Pick,
    )

pub returns-clause-laid : goal.returns-clause-laid
returns-clause-laid c =
    simp (
      statement_lines,
      alternative_lines,
      guard_layout,
      lit_layout,
      outs-True,
      outs-Has,
      outs-Same,
      outs-Differ,
      outs-Not,
      outs-Group,
      outs-Insert,
      outs-Remove,
      outs-Abort,
      outs-Output,
      outs-Choose,
      outs-Pick,
    )

pub returns-clause-deep : goal.returns-clause-deep
returns-clause-deep c =
    simp (
      statement_depth_is,
      alternative_depth_is,
      guard_depth_is,
      lit_depth_is,
      outs-True,
      outs-Has,
      outs-Same,
      outs-Differ,
      outs-Not,
      outs-Group,
      outs-Insert,
      outs-Remove,
      outs-Abort,
      outs-Output,
      outs-Choose,
      outs-Pick,
    )
