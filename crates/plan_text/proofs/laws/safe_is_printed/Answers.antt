use Rattle.plan_text.proofs.LawLemmas.{says_safe}
use Rattle.plan_text.proofs.laws.safe_is_printed.Goals as goal

pub returns : goal.returns
returns c = says_safe
