use Rattle.plan_text.proofs.LawLemmas.{counts_tell}
use Rattle.plan_text.proofs.laws.counts_are_not_safe.Goals as goal

pub returns : goal.returns
returns c = counts_tell
