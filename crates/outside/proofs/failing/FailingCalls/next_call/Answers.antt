use Rattle.outside.proofs.NamingLemmas.{get-named_calls}
use Rattle.outside.proofs.failing.FailingCalls.next_call.Goals as goal

pub returns-clause-kept : goal.returns-clause-kept
returns-clause-kept c = rw (← c.self.view_is, get-named_calls, c.kept_by-kept.ensures, c.deref.ensures.value)
