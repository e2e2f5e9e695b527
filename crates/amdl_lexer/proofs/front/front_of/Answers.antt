use Rattle.amdl_lexer.proofs.Fronts.{comment_front}
use Rattle.amdl_lexer.proofs.front.front_of.Goals as goal

pub returns-then-first-eq35 : goal.returns-then-first-eq35
returns-then-first-eq35 c =
    comment_front c.args.bytes.now c.line_len.result c.requires c.if-first-eq35.true c.line_len.ensures
