use Rattle.box_contents.proofs.Entries.{entries_total, exact}
use Rattle.box_contents.proofs.Held.{settled}
use Rattle.box_contents.proofs.laws.rising_is_settled.Goals as goal

pub returns : goal.returns
returns c = λ one two first second alike. settled entries_total exact one two first second alike
