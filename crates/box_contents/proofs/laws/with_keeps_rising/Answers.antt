use Rattle.box_contents.proofs.Entries.{entries_total}
use Rattle.box_contents.proofs.Held.{with_rises}
use Rattle.box_contents.proofs.laws.with_keeps_rising.Goals as goal

pub returns : goal.returns
returns c = λ entries entry rising. with_rises entries_total entry entries rising
