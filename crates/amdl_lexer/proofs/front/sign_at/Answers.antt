use Rattle.amdl_lexer.proofs.Signs.{two_front, one_front}
use Rattle.amdl_lexer.proofs.front.sign_at.Goals as goal

pub returns-in-Some : goal.returns-in-Some
returns-in-Some c = two_front c.args.bytes.now c.in-Some.sign c.in-len2-up.len_at_least c.in-Some.ensures

pub returns-in-None : goal.returns-in-None
returns-in-None c =
    one_front c.args.bytes.now c.sign_of_one-in-None.result c.in-len2-up.len_at_least c.in-None.ensures
    c.sign_of_one-in-None.ensures
