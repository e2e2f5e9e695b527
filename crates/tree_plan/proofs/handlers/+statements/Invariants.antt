use Rattle.std.proofs.Common.{◌≡◌, drop}
use Rattle.tree_plan.specs.Names.{all_some}
use Rattle.tree_plan.specs.Handlers.{act_of, branch_of}
use Rattle.tree_plan.specs.Tables.{known_by}
use Rattle.tree_plan.proofs.StepLemmas.{with_front}
use Rattle.tree_plan.proofs.handlers.+statements.Given as goal

-- the statements so far stand in front of the others
abbrev pub invariant-acts_of-loop-stmt : goal.invariant-acts_of-loop-stmt
invariant-acts_of-loop-stmt l =
    all_some (λ stmt. act_of (known_by l.tables) stmt l.picks) l.body
    ≡ with_front l.acts (all_some (λ stmt. act_of (known_by l.tables) stmt l.picks) (drop l.stmt-index l.body))

-- the branches so far stand in front of the others
abbrev pub invariant-branches_of-loop-alternative : goal.invariant-branches_of-loop-alternative
invariant-branches_of-loop-alternative l =
    all_some (λ stmt. branch_of (known_by l.tables) stmt l.picks) l.alternatives
    ≡ with_front l.branches
    (all_some (λ stmt. branch_of (known_by l.tables) stmt l.picks) (drop l.alternative-index l.alternatives))
