use Rattle.net_examples.proofs.LoopLemmas as lemmas
use Rattle.net_examples.proofs.loop_steps_by_hand.Goals as goal

pub returns : goal.returns
returns c = lemmas.loop_steps c.guard_meanings.ensures c.statement_meanings.ensures
