use Rattle.schedule.proofs.SafeLemmas.{text_is_not_safe}
use Rattle.schedule.proofs.laws.text_is_not_safe.Goals as goal

pub returns : goal.returns
returns c = text_is_not_safe
