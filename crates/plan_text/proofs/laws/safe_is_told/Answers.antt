use Rattle.plan_text.proofs.LawLemmas.{safe_tells}
use Rattle.plan_text.proofs.laws.safe_is_told.Goals as goal

pub returns : goal.returns
returns c = safe_tells
