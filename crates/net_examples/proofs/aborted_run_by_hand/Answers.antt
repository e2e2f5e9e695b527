use Rattle.net_examples.proofs.LoopLemmas as lemmas
use Rattle.net_examples.proofs.aborted_run_by_hand.Goals as goal

pub returns : goal.returns
returns c = lemmas.aborted_run c.guard_meanings.ensures c.statement_meanings.ensures
