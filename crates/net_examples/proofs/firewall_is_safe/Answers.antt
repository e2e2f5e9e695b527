use Rattle.net_examples.proofs.FirewallLemmas as lemmas
use Rattle.net_examples.proofs.firewall_is_safe.Goals as goal

pub returns : goal.returns
returns c =
    lemmas.firewall_is_safe c.bodies_are_read.ensures c.formulas_are_read.ensures c.held_is_member.ensures
    c.held_with.ensures c.closed_set_runs_safely.ensures
