use Rattle.packet_domain.proofs.inlet.inlet_of_end.Goals as goal

pub returns-in-None : goal.returns-in-None
returns-in-None c box port leads = c.in-None.ensures.linked leads.0 leads.1
