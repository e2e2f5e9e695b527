use Rattle.std.proofs.Common.{IfOk, List, subst}
use Rattle.std.proofs.lemmas.Result.{IfOk-weaker}
use Rattle.amdl_tree.specs.declared.token.Lexed.{Lexed}
use Rattle.amdl_parser.specs.Answer.{tokens_of}
use Rattle.network_file.specs.Reading.{IsParsedAs, IsReadAs}
use Rattle.network_file.proofs.ReadingLemmas.{has_tokens, read_as}
use Rattle.network_file.proofs.reading.read_text.Goals as goal

pub returns-in-Ok : goal.returns-in-Ok
returns-in-Ok c =
    let parsed =
    subst
    (λ (lexeds : List Lexed). IfOk c.read_tokens.result
    (IsParsedAs (tokens_of lexeds))) c.as_slice.ensures c.read_tokens.ensures in
    IfOk-weaker c.read_tokens.result (IsParsedAs (tokens_of c.in-Ok.tokens)) (IsReadAs c.args.text.now)
    (λ reading. read_as c.args.text.now (tokens_of c.in-Ok.tokens) reading
    (has_tokens c.args.text.now c.in-Ok.tokens c.in-Ok.ensures.answer))
    parsed
