use Rattle.std.proofs.Common.{length, Ok, Err, sym, subst}
use Rattle.schedule_text.specs.Answering.{tokens_of}
use Rattle.schedule_text.specs.Resolved.{IsResolution}
use Rattle.schedule.specs.Read.{IsReading}
use Rattle.schedule.proofs.ReadLemmas.{few_found, not_found}
use Rattle.schedule.proofs.reading.read_named.Goals as goal

pub returns-in-Ok-resolve-clause-few : goal.returns-in-Ok-resolve-clause-few
returns-in-Ok-resolve-clause-few c =
    few_found c.args.net.now c.in-Ok.named c.in-Ok-resolve.steps (length c.args.tokens.now) c.in-Ok.ensures.few
    (subst (λ l. IsResolution c.args.net.now l (Ok c.in-Ok-resolve.steps)) c.as_slice.ensures
    c.in-Ok-resolve.ensures.answer)

pub returns-in-Ok-clause-answer : goal.returns-in-Ok-clause-answer
returns-in-Ok-clause-answer c =
    subst (λ r. IsReading c.args.net.now (tokens_of c.args.tokens.now) (Err r)) (sym c.refused_names.ensures)
    (not_found c.args.net.now (tokens_of c.args.tokens.now) c.in-Ok.named c.in-Err-resolve.refusal
    c.in-Ok.ensures.answer
    (subst (λ l. IsResolution c.args.net.now l (Err c.in-Err-resolve.refusal)) c.as_slice.ensures
    c.in-Err-resolve.ensures.answer))
