use Rattle.std.proofs.Common.{sym, ◌∙◌}
use Rattle.std.proofs.lemmas.Result.{err_from_is_err_and}
use Rattle.amdl_tree.specs.GoesOn.{starts_handler}
use Rattle.amdl_parser.specs.Grammar.{handler_at, handlers_at}
use Rattle.amdl_parser.proofs.Loops.{error_of, gather_faulted, gather_end}
use Rattle.amdl_parser.proofs.primitive.Tokens.handlers.Goals as goal

pub returns-in_err-handler-clause-read : goal.returns-in_err-handler-clause-read
returns-in_err-handler-clause-read c =
    let p = err_from_is_err_and c.from_residual.result c.from_residual.ensures.1 in
    gather_faulted starts_handler (handler_at c.args.levels)
    (handlers_at c.args.levels) _ _ _ _ _ _ c.loop-alloc.invariant.gathering
    (sym c.begin_with_a_handler.ensures ∙ c.loop-alloc-test.true) c.in_err-handler.ensures.read (error_of _ _ p)

pub returns-clause-read : goal.returns-clause-read
returns-clause-read c =
    gather_end starts_handler (handler_at c.args.levels)
    (handlers_at c.args.levels) _ _ _ c.loop-alloc.invariant.gathering
    (sym c.begin_with_a_handler.ensures ∙ c.loop-alloc-test.false)
