use Rattle.std.proofs.Common.{sym, ◌∙◌}
use Rattle.std.proofs.lemmas.Result.{err_from_is_err_and}
use Rattle.amdl_tree.specs.GoesOn.{starts_item}
use Rattle.amdl_parser.specs.Grammar.{item_at, items_at}
use Rattle.amdl_parser.proofs.Loops.{error_of, gather_faulted, gather_end}
use Rattle.amdl_parser.proofs.primitive.Tokens.items.Goals as goal

pub returns-in_err-item-clause-read : goal.returns-in_err-item-clause-read
returns-in_err-item-clause-read c =
    let p = err_from_is_err_and c.from_residual.result c.from_residual.ensures.1 in
    gather_faulted starts_item (item_at c.args.levels)
    (items_at c.args.levels) _ _ _ _ _ _ c.loop-alloc.invariant.gathering
    (sym c.begin_with_an_item.ensures ∙ c.loop-alloc-test.true) c.in_err-item.ensures.read (error_of _ _ p)

pub returns-clause-read : goal.returns-clause-read
returns-clause-read c =
    gather_end starts_item (item_at c.args.levels) (items_at c.args.levels) _ _ _ c.loop-alloc.invariant.gathering
    (sym c.begin_with_an_item.ensures ∙ c.loop-alloc-test.false)
