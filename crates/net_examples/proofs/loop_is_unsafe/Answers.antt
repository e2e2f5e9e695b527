use Rattle.net_examples.proofs.LoopLemmas as lemmas
use Rattle.net_examples.proofs.loop_is_unsafe.Goals as goal

pub returns : goal.returns
returns c = lemmas.loop_is_unsafe c.guard_meanings.ensures c.statement_meanings.ensures
