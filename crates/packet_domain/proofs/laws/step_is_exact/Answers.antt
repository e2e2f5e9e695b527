use Rattle.packet_domain.proofs.StepLemmas as lemmas
use Rattle.packet_domain.proofs.laws.step_is_exact.Goals as goal

pub returns : goal.returns
returns c =
    lemmas.step_is_exact c.partner_is_unique.ensures c.held_with.ensures c.held_without.ensures
