use Rattle.std.proofs.Common.{sym, ◌∙◌}
use Rattle.std.proofs.lemmas.Result.{err_from_is_err_and}
use Rattle.amdl_tree.specs.declared.token.Token.TheVariants.{Sign as Signed}
use Rattle.amdl_tree.specs.declared.token.Sign.TheVariants.{Comma}
use Rattle.amdl_parser.proofs.Loops.{listing_end}
use Rattle.schedule_text.specs.Readings.{number_at, numbers_at}
use Rattle.schedule_text.proofs.LoopFaults.{error_of, listing_faulted, listing_wronged}
use Rattle.schedule_text.proofs.primitive.Tokens.numbers.Goals as goal

pub returns-in_err-sign-clause-read : goal.returns-in_err-sign-clause-read
returns-in_err-sign-clause-read c =
    let p = err_from_is_err_and c.from_residual-in_err-sign.result c.from_residual-in_err-sign.ensures.1 in
    listing_wronged (Signed Comma) number_at numbers_at _ _ _ _ _ _ c.loop-self.invariant.listing
    (sym c.next_is_sign.ensures ∙ c.loop-self-test.true) c.in_err-sign.ensures.read (error_of _ _ p)

pub returns-in_err-number-2-clause-read : goal.returns-in_err-number-2-clause-read
returns-in_err-number-2-clause-read c =
    let p = err_from_is_err_and c.from_residual-in_err-number-2.result c.from_residual-in_err-number-2.ensures.1 in
    listing_faulted (Signed Comma) number_at numbers_at _ _ _ _ _ _ _ c.loop-self.invariant.listing
    (sym c.next_is_sign.ensures ∙ c.loop-self-test.true) c.in_ok-sign.ensures.read c.in_err-number-2.ensures.read
    (error_of _ _ p)

pub returns-clause-read : goal.returns-clause-read
returns-clause-read c =
    listing_end (Signed Comma) number_at numbers_at _ _ _ c.loop-self.invariant.listing
    (sym c.next_is_sign.ensures ∙ c.loop-self-test.false)
