use Rattle.std.proofs.Common.{sym, ◌∙◌, ap, Err, arith}
use Rattle.std.proofs.lemmas.Result.{err_from_is_err_and}
use Rattle.amdl_tree.specs.declared.token.Token.TheVariants.{Sign as Signed}
use Rattle.amdl_tree.specs.declared.token.Sign.TheVariants.{Bar}
use Rattle.amdl_tree.specs.GoesOn.{starts_statement}
use Rattle.amdl_parser.specs.declared.fault.Fault.TheVariants.{Deep}
use Rattle.amdl_parser.specs.Reading.{tokens_of}
use Rattle.amdl_parser.specs.Grammar.{stmt_at, statements_at, branch_at, branches_at, choose_at, chosen_at, pick_at}
use Rattle.amdl_parser.specs.Grammar.{picked_at}
use Rattle.amdl_parser.proofs.Loops.{count_of, error_of, listing_end, listing_faulted, listing_wronged, gather_faulted}
use Rattle.amdl_parser.proofs.Loops.{gather_end}
use Rattle.amdl_parser.proofs.Levels.{reads_as, choose_lowest, choose_lower, pick_lowest, pick_lower}
use Rattle.amdl_parser.proofs.primitive.Tokens.+statements.Goals as goal

pub branches-returns-in_err-sign-clause-read : goal.branches-returns-in_err-sign-clause-read
branches-returns-in_err-sign-clause-read t c =
    let p = err_from_is_err_and c.from_residual-in_err-sign.result c.from_residual-in_err-sign.ensures.1 in
    listing_wronged (Signed Bar) (branch_at c.args.levels)
    (branches_at c.args.levels) _ _ _ _ _ _ c.loop-alloc.invariant.listing
    (sym c.next_is_sign.ensures ∙ c.loop-alloc-test.true) c.in_err-sign.ensures.read (error_of _ _ p)

pub branches-returns-in_err-branch-2-clause-read : goal.branches-returns-in_err-branch-2-clause-read
branches-returns-in_err-branch-2-clause-read t c =
    let p = err_from_is_err_and c.from_residual-in_err-branch-2.result c.from_residual-in_err-branch-2.ensures.1 in
    listing_faulted (Signed Bar) (branch_at c.args.levels)
    (branches_at c.args.levels) _ _ _ _ _ _ _ c.loop-alloc.invariant.listing
    (sym c.next_is_sign.ensures ∙ c.loop-alloc-test.true) c.in_ok-sign.ensures.read c.in_err-branch-2.ensures.read
    (error_of _ _ p)

pub branches-returns-clause-read : goal.branches-returns-clause-read
branches-returns-clause-read t c =
    listing_end (Signed Bar) (branch_at c.args.levels) (branches_at c.args.levels) _ _ _ c.loop-alloc.invariant.listing
    (sym c.next_is_sign.ensures ∙ c.loop-alloc-test.false)

pub statements-returns-in_err-stmt-clause-read : goal.statements-returns-in_err-stmt-clause-read
statements-returns-in_err-stmt-clause-read t c =
    let p = err_from_is_err_and c.from_residual.result c.from_residual.ensures.1 in
    gather_faulted starts_statement (stmt_at c.args.levels)
    (statements_at c.args.levels) _ _ _ _ _ _ c.loop-alloc.invariant.gathering
    (sym c.begin_with_a_statement.ensures ∙ c.loop-alloc-test.true) c.in_err-stmt.ensures.read (error_of _ _ p)

pub statements-returns-clause-read : goal.statements-returns-clause-read
statements-returns-clause-read t c =
    gather_end starts_statement (stmt_at c.args.levels)
    (statements_at c.args.levels) _ _ _ c.loop-alloc.invariant.gathering
    (sym c.begin_with_a_statement.ensures ∙ c.loop-alloc-test.false)

pub choose-returns-then-levels-eq0-clause-read : goal.choose-returns-then-levels-eq0-clause-read
choose-returns-then-levels-eq0-clause-read t c =
    choose_lowest c.args.levels (tokens_of c.args.self.now.left.now) c.if-levels-eq0.true
    ∙ ap (λ n. Err (Deep n)) (count_of c.args.self.now.left.now)

pub choose-returns-clause-read : goal.choose-returns-clause-read
choose-returns-clause-read t c =
    reads_as (chosen_at _) (choose_at c.args.levels) _ _ _
    (λ ts. choose_lower c.args.levels ts (omega (arith, c.if-levels-eq0.false))) c.chosen.ensures.read

pub pick-returns-then-levels-eq0-clause-read : goal.pick-returns-then-levels-eq0-clause-read
pick-returns-then-levels-eq0-clause-read t c =
    pick_lowest c.args.levels (tokens_of c.args.self.now.left.now) c.if-levels-eq0.true
    ∙ ap (λ n. Err (Deep n)) (count_of c.args.self.now.left.now)

pub pick-returns-clause-read : goal.pick-returns-clause-read
pick-returns-clause-read t c =
    reads_as (picked_at _) (pick_at c.args.levels) _ _ _
    (λ ts. pick_lower c.args.levels ts (omega (arith, c.if-levels-eq0.false))) c.picked.ensures.read
