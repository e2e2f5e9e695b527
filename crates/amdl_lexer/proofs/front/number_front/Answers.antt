use Rattle.amdl_lexer.proofs.Fronts.{number_begun, number_good, overlong_front}
use Rattle.amdl_lexer.proofs.front.number_front.Goals as goal

pub number_token-requires : goal.number_token-requires
number_token-requires c =
    number_begun c.args.bytes.now c.digits_len-size.result c.requires.some c.requires.starts c.digits_len-size.ensures

pub returns-in-Some : goal.returns-in-Some
returns-in-Some c =
    number_good c.args.bytes.now c.digits_len-size.result c.in-Some.token c.requires.some c.requires.starts
    c.digits_len-size.ensures c.in-Some.ensures

pub returns-in-None : goal.returns-in-None
returns-in-None c = overlong_front c.args.bytes.now c.digits_len-size.result c.in-None.ensures
