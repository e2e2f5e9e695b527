use Rattle.net_examples.proofs.LoopDerived as lemmas
use Rattle.net_examples.proofs.aborted_fact_is_derivable.Goals as goal

pub returns : goal.returns
returns c = lemmas.aborted_fact c.guard_meanings.ensures c.statement_meanings.ensures
