use Rattle.std.proofs.Common.{◌≡◌, drop}
use Rattle.tree_plan.specs.Names.{all_some}
use Rattle.tree_plan.specs.Net.{host_of}
use Rattle.tree_plan.specs.Tables.{kinds_back}
use Rattle.tree_network.specs.Reads.{fields_back, patterns_back}
use Rattle.tree_plan.proofs.StepLemmas.{with_front}
use Rattle.tree_network.proofs.patterns.hosts_of.Given as goal

-- the hosts so far stand in front of the others
abbrev pub invariant-loop-name : goal.invariant-loop-name
invariant-loop-name l =
    all_some (host_of (kinds_back l.kinds) (fields_back l.fields) (patterns_back l.sends) (patterns_back l.forbids))
    l.names
    ≡ with_front l.hosts
    (all_some (host_of (kinds_back l.kinds) (fields_back l.fields) (patterns_back l.sends) (patterns_back l.forbids))
    (drop l.name-index l.names))
