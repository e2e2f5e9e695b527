use Rattle.net_examples.proofs.FirewallDerived as lemmas
use Rattle.net_examples.proofs.firewall_facts_are_least.Goals as goal

pub returns : goal.returns
returns c =
    lemmas.facts_are_least c.bodies_are_read.ensures c.formulas_are_read.ensures c.held_is_member.ensures
    c.held_with.ensures
