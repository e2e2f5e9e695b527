use Rattle.std.proofs.Common.{sym, ◌∙◌}
use Rattle.std.proofs.lemmas.Result.{err_from_is_err_and}
use Rattle.amdl_tree.specs.GoesOn.{starts_relation}
use Rattle.amdl_parser.specs.Grammar.{relation_at, relations_at}
use Rattle.amdl_parser.proofs.Loops.{error_of, gather_faulted, gather_end}
use Rattle.amdl_parser.proofs.primitive.Tokens.relations.Goals as goal

pub returns-in_err-relation-clause-read : goal.returns-in_err-relation-clause-read
returns-in_err-relation-clause-read c =
    let p = err_from_is_err_and c.from_residual.result c.from_residual.ensures.1 in
    gather_faulted starts_relation relation_at relations_at _ _ _ _ _ _ c.loop-alloc.invariant.gathering
    (sym c.begin_with_a_relation.ensures ∙ c.loop-alloc-test.true) c.in_err-relation.ensures.read (error_of _ _ p)

pub returns-clause-read : goal.returns-clause-read
returns-clause-read c =
    gather_end starts_relation relation_at relations_at _ _ _ c.loop-alloc.invariant.gathering
    (sym c.begin_with_a_relation.ensures ∙ c.loop-alloc-test.false)
