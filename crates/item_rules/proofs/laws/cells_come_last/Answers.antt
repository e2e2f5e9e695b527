use Rattle.item_rules.proofs.CellsLemmas as lemmas
use Rattle.item_rules.proofs.laws.cells_come_last.Goals as goal

pub returns : goal.returns
returns c = lemmas.cells_come_last
