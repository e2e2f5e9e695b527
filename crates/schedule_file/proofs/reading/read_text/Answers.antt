use Rattle.std.proofs.Common.{IfOk, List, subst}
use Rattle.std.proofs.lemmas.Result.{IfOk-weaker}
use Rattle.amdl_tree.specs.declared.token.Lexed.{Lexed}
use Rattle.amdl_parser.specs.Answer.{tokens_of}
use Rattle.schedule_file.specs.Reading.{AreReadAs, IsReadAs}
use Rattle.schedule_file.proofs.ReadLemmas.{read_as}
use Rattle.schedule_file.proofs.reading.read_text.Goals as goal

pub returns-in-Ok-clause-read : goal.returns-in-Ok-clause-read
returns-in-Ok-clause-read c =
    let read =
    subst
    (λ (lexeds : List Lexed). IfOk c.read_tokens.result
    (AreReadAs c.args.net.now (tokens_of lexeds))) c.as_slice.ensures c.read_tokens.ensures.read in
    IfOk-weaker c.read_tokens.result (AreReadAs c.args.net.now (tokens_of c.in-Ok.tokens))
    (IsReadAs c.args.net.now c.args.text.now)
    (λ found. read_as c.args.net.now c.args.text.now c.in-Ok.tokens found c.in-Ok.ensures.answer)
    read
