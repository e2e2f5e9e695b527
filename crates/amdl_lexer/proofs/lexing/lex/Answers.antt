use Rattle.std.proofs.Common.{Ok, Err}
use Rattle.std.proofs.lemmas.Result.{err_from_is_err_and}
use Rattle.amdl_lexer.specs.declared.lexing.LexRefusal.TheVariants.{BadByte, WordTooLong, TooManyTokens}
use Rattle.amdl_lexer.proofs.Answers.{forced_ok, forced_err}
use Rattle.amdl_lexer.proofs.lexing.lex.Goals as goal

pub returns-in_err-read-clause-lexed : goal.returns-in_err-read-clause-lexed
returns-in_err-read-clause-lexed c =
    let p = err_from_is_err_and c.from_residual.result c.from_residual.ensures.1 in
    rw (p.1, p.2)
    (λ tokens that. forced_err c.args.bytes.now c.in_err-read.field-0.0 (Ok tokens) c.in_err-read.ensures that)

pub returns-in_err-read-clause-bad_byte : goal.returns-in_err-read-clause-bad_byte
returns-in_err-read-clause-bad_byte c =
    let p = err_from_is_err_and c.from_residual.result c.from_residual.ensures.1 in
    rw (p.1, p.2)
    (λ at that. forced_err c.args.bytes.now c.in_err-read.field-0.0 (Err (BadByte at)) c.in_err-read.ensures
    (λ e. cc, that))

pub returns-in_err-read-clause-too_long : goal.returns-in_err-read-clause-too_long
returns-in_err-read-clause-too_long c =
    let p = err_from_is_err_and c.from_residual.result c.from_residual.ensures.1 in
    rw (p.1, p.2)
    (λ at that. forced_err c.args.bytes.now c.in_err-read.field-0.0 (Err (WordTooLong at)) c.in_err-read.ensures
    (λ e. cc, that))

pub returns-in_err-read-clause-too_many : goal.returns-in_err-read-clause-too_many
returns-in_err-read-clause-too_many c =
    let p = err_from_is_err_and c.from_residual.result c.from_residual.ensures.1 in
    rw (p.1, p.2)
    (λ that. forced_err c.args.bytes.now c.in_err-read.field-0.0 (Err TooManyTokens) c.in_err-read.ensures
    (λ e. cc, that))

pub returns-clause-lexed : goal.returns-clause-lexed
returns-clause-lexed c =
    λ tokens that. forced_ok c.args.bytes.now c.read.new.tokens (Ok tokens) c.in_ok-read.ensures that

pub returns-clause-bad_byte : goal.returns-clause-bad_byte
returns-clause-bad_byte c =
    λ at that. forced_ok c.args.bytes.now c.read.new.tokens (Err (BadByte at)) c.in_ok-read.ensures (λ e. cc, that)

pub returns-clause-too_long : goal.returns-clause-too_long
returns-clause-too_long c =
    λ at that. forced_ok c.args.bytes.now c.read.new.tokens (Err (WordTooLong at)) c.in_ok-read.ensures (λ e. cc, that)

pub returns-clause-too_many : goal.returns-clause-too_many
returns-clause-too_many c =
    λ that. forced_ok c.args.bytes.now c.read.new.tokens (Err TooManyTokens) c.in_ok-read.ensures (λ e. cc, that)
