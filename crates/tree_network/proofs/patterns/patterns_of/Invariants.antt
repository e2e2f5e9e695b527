use Rattle.std.proofs.Common.{◌≡◌, drop}
use Rattle.tree_plan.specs.Net.{patterns_of}
use Rattle.tree_plan.specs.Tables.{kinds_back}
use Rattle.tree_network.specs.Reads.{fields_back, patterns_back}
use Rattle.tree_plan.proofs.StepLemmas.{with_front}
use Rattle.tree_network.proofs.patterns.patterns_of.Given as goal

-- the patterns so far stand in front of the others
abbrev pub invariant-loop-item : goal.invariant-loop-item
invariant-loop-item l =
    patterns_of (kinds_back l.kinds) (fields_back l.fields) (patterns_back l.items) l.host
    ≡ with_front l.patterns
    (patterns_of (kinds_back l.kinds) (fields_back l.fields) (patterns_back (drop l.item-index l.items)) l.host)
