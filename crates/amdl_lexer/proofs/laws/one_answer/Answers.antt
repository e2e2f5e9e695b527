use Rattle.amdl_lexer.proofs.Answers.{answers_alike}
use Rattle.amdl_lexer.proofs.Exists.{answer_stands}
use Rattle.amdl_lexer.proofs.laws.one_answer.Goals as goal

pub returns : goal.returns
returns c = record { some = answer_stands; one = answers_alike }
