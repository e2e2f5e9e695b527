use Rattle.amdl_lexer.proofs.Fronts.{word_begun, word_good, overlong_front}
use Rattle.amdl_lexer.proofs.front.word_front.Goals as goal

pub word_token-requires : goal.word_token-requires
word_token-requires c =
    word_begun c.args.bytes.now c.word_len-size.result c.requires.some c.requires.starts c.word_len-size.ensures

pub returns-in-Some : goal.returns-in-Some
returns-in-Some c =
    word_good c.args.bytes.now c.word_len-size.result c.in-Some.token c.requires.some c.requires.starts
    c.word_len-size.ensures c.in-Some.ensures

pub returns-in-None : goal.returns-in-None
returns-in-None c = overlong_front c.args.bytes.now c.word_len-size.result c.in-None.ensures
