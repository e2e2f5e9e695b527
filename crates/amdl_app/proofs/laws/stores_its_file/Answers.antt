use Rattle.amdl_app.proofs.AnswerLemmas.{stores_own_file}
use Rattle.amdl_app.proofs.laws.stores_its_file.Goals as goal

pub returns : goal.returns
returns c = stores_own_file
