use Rattle.cell_sets.proofs.MemberLemmas.{members_listed}
use Rattle.cell_sets.proofs.laws.members_are_listed.Goals as goal

pub returns : goal.returns
returns c = members_listed
