use Rattle.packet_domain.proofs.laws.transitions_are_steps.Goals as goal

pub returns : goal.returns
returns c plan mode step old new = record { leads = (λ l. l, λ l. l); bad = (λ b. b, λ b. b) }
