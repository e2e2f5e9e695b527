use Rattle.box_contents.proofs.Entries.{entries_total}
use Rattle.box_contents.proofs.Held as held
use Rattle.box_contents.proofs.laws.held_with.Goals as goal

pub returns : goal.returns
returns c = λ entries entry other. held.held_with entries_total entry other entries
