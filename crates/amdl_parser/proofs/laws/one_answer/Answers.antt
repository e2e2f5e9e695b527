use Rattle.amdl_parser.proofs.TreeAnswers.{tree_answer, is_full, one}
use Rattle.amdl_parser.proofs.laws.one_answer.Goals as goal

pub returns-clause-some : goal.returns-clause-some
returns-clause-some c = λ tokens named. (tree_answer tokens, is_full tokens named)

pub returns-clause-one : goal.returns-clause-one
returns-clause-one c = one
