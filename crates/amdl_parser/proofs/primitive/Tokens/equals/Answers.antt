use Rattle.std.proofs.Common.{sym, ◌∙◌}
use Rattle.std.proofs.lemmas.Result.{err_from_is_err_and}
use Rattle.amdl_tree.specs.declared.token.Token.TheVariants.{Sign as Signed}
use Rattle.amdl_tree.specs.declared.token.Sign.TheVariants.{Comma}
use Rattle.amdl_parser.specs.Grammar.{equals_at, equal_at}
use Rattle.amdl_parser.proofs.Loops.{error_of, listing_end, listing_faulted, listing_wronged}
use Rattle.amdl_parser.proofs.primitive.Tokens.equals.Goals as goal

pub returns-in_err-sign-clause-read : goal.returns-in_err-sign-clause-read
returns-in_err-sign-clause-read c =
    let p = err_from_is_err_and c.from_residual-in_err-sign.result c.from_residual-in_err-sign.ensures.1 in
    listing_wronged (Signed Comma) equal_at equals_at _ _ _ _ _ _ c.loop-self.invariant.listing
    (sym c.next_is_sign.ensures ∙ c.loop-self-test.true) c.in_err-sign.ensures.read (error_of _ _ p)

pub returns-in_err-equal-2-clause-read : goal.returns-in_err-equal-2-clause-read
returns-in_err-equal-2-clause-read c =
    let p = err_from_is_err_and c.from_residual-in_err-equal-2.result c.from_residual-in_err-equal-2.ensures.1 in
    listing_faulted (Signed Comma) equal_at equals_at _ _ _ _ _ _ _ c.loop-self.invariant.listing
    (sym c.next_is_sign.ensures ∙ c.loop-self-test.true) c.in_ok-sign.ensures.read c.in_err-equal-2.ensures.read
    (error_of _ _ p)

pub returns-clause-read : goal.returns-clause-read
returns-clause-read c =
    listing_end (Signed Comma) equal_at equals_at _ _ _ c.loop-self.invariant.listing
    (sym c.next_is_sign.ensures ∙ c.loop-self-test.false)
