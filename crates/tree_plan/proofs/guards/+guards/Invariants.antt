use Rattle.std.proofs.Common.{◌≡◌, drop}
use Rattle.tree_plan.specs.Names.{all_some}
use Rattle.tree_plan.specs.Handlers.{probe_of}
use Rattle.tree_plan.specs.Tables.{known_by}
use Rattle.tree_plan.proofs.StepLemmas.{with_front}
use Rattle.tree_plan.proofs.guards.+guards.Given as goal

-- the lists so far stand in front of the others
abbrev pub invariant-test_of-loop-lits : goal.invariant-test_of-loop-lits
invariant-test_of-loop-lits l =
    all_some (all_some (probe_of (known_by l.tables) l.picks)) l.guard.any
    ≡ with_front l.any (all_some (all_some (probe_of (known_by l.tables) l.picks)) (drop l.lits-index l.guard.any))

-- the probes so far stand in front of the others
abbrev pub invariant-probes_of-loop-lit : goal.invariant-probes_of-loop-lit
invariant-probes_of-loop-lit l =
    all_some (probe_of (known_by l.tables) l.picks) l.lits
    ≡ with_front l.probes (all_some (probe_of (known_by l.tables) l.picks) (drop l.lit-index l.lits))
