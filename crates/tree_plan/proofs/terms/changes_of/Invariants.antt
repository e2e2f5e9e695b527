use Rattle.std.proofs.Common.{◌≡◌, drop}
use Rattle.tree_plan.specs.Names.{all_some}
use Rattle.tree_plan.specs.Handlers.{change_of}
use Rattle.tree_plan.specs.Tables.{known_by}
use Rattle.tree_plan.proofs.StepLemmas.{with_front}
use Rattle.tree_plan.proofs.terms.changes_of.Given as goal

-- the changes so far stand in front of the others
abbrev pub invariant-loop-equal : goal.invariant-loop-equal
invariant-loop-equal l =
    all_some (change_of (known_by l.tables) l.picks) l.equals
    ≡ with_front l.changes (all_some (change_of (known_by l.tables) l.picks) (drop l.equal-index l.equals))
