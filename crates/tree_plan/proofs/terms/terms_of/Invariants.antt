use Rattle.std.proofs.Common.{◌≡◌, drop}
use Rattle.tree_plan.specs.Names.{all_some}
use Rattle.tree_plan.specs.Handlers.{term_of}
use Rattle.tree_plan.specs.Tables.{known_by}
use Rattle.tree_plan.proofs.StepLemmas.{with_front}
use Rattle.tree_plan.proofs.terms.terms_of.Given as goal

-- the terms so far stand in front of the others
abbrev pub invariant-loop-name : goal.invariant-loop-name
invariant-loop-name l =
    all_some (term_of (known_by l.tables) l.picks) l.names
    ≡ with_front l.terms (all_some (term_of (known_by l.tables) l.picks) (drop l.name-index l.names))
