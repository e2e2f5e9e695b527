use Rattle.net_plan.proofs.CellLemmas.{cell_below, cell_once, each_cell, cell_order}
use Rattle.net_plan.proofs.laws.cells_are_facts.Goals as goal

pub returns : goal.returns
returns c =
    λ plan. record { below = cell_below plan; once = cell_once plan; each = each_cell plan; order = cell_order plan }
