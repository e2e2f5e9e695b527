use Rattle.std.proofs.Common.{◌∙◌}
use Rattle.amdl_tree.proofs.ReservedWords.{of_four}
use Rattle.amdl_tree.proofs.reserved.of_length.Goals as goal

pub returns-in-4 : goal.returns-in-4
returns-in-4 c = λ word e. of_four word (e ∙ c.in-4.is)
