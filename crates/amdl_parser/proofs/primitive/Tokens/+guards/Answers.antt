use Rattle.std.proofs.Common.{sym, ◌∙◌, ap, Err, arith}
use Rattle.std.proofs.lemmas.Result.{err_from_is_err_and}
use Rattle.amdl_tree.specs.declared.token.Token.TheVariants.{Key}
use Rattle.amdl_tree.specs.declared.reserved.Reserved.TheVariants.{And, Or}
use Rattle.amdl_parser.specs.declared.fault.Fault.TheVariants.{Deep}
use Rattle.amdl_parser.specs.Reading.{tokens_of}
use Rattle.amdl_parser.specs.Grammar.{lit_at, conj_at, any_at, not_at, denied_at, group_at, grouped_at}
use Rattle.amdl_parser.proofs.Loops.{count_of, error_of, listing_end, listing_faulted, listing_wronged}
use Rattle.amdl_parser.proofs.Levels.{reads_as, not_lowest, not_lower, group_lowest, group_lower}
use Rattle.amdl_parser.proofs.primitive.Tokens.+guards.Goals as goal

pub any-returns-in_err-key-clause-read : goal.any-returns-in_err-key-clause-read
any-returns-in_err-key-clause-read t c =
    let p = err_from_is_err_and c.from_residual-in_err-key.result c.from_residual-in_err-key.ensures.1 in
    listing_wronged (Key Or) (conj_at c.args.levels) (any_at c.args.levels) _ _ _ _ _ _ c.loop-alloc.invariant.listing
    (sym c.next_is_key.ensures ∙ c.loop-alloc-test.true) c.in_err-key.ensures.read (error_of _ _ p)

pub any-returns-in_err-conj-2-clause-read : goal.any-returns-in_err-conj-2-clause-read
any-returns-in_err-conj-2-clause-read t c =
    let p = err_from_is_err_and c.from_residual-in_err-conj-2.result c.from_residual-in_err-conj-2.ensures.1 in
    listing_faulted (Key Or) (conj_at c.args.levels) (any_at c.args.levels) _ _ _ _ _ _ _ c.loop-alloc.invariant.listing
    (sym c.next_is_key.ensures ∙ c.loop-alloc-test.true) c.in_ok-key.ensures.read c.in_err-conj-2.ensures.read
    (error_of _ _ p)

pub any-returns-clause-read : goal.any-returns-clause-read
any-returns-clause-read t c =
    listing_end (Key Or) (conj_at c.args.levels) (any_at c.args.levels) _ _ _ c.loop-alloc.invariant.listing
    (sym c.next_is_key.ensures ∙ c.loop-alloc-test.false)

pub conj-returns-in_err-key-clause-read : goal.conj-returns-in_err-key-clause-read
conj-returns-in_err-key-clause-read t c =
    let p = err_from_is_err_and c.from_residual-in_err-key.result c.from_residual-in_err-key.ensures.1 in
    listing_wronged (Key And) (lit_at c.args.levels) (conj_at c.args.levels) _ _ _ _ _ _ c.loop-alloc.invariant.listing
    (sym c.next_is_key.ensures ∙ c.loop-alloc-test.true) c.in_err-key.ensures.read (error_of _ _ p)

pub conj-returns-in_err-lit-2-clause-read : goal.conj-returns-in_err-lit-2-clause-read
conj-returns-in_err-lit-2-clause-read t c =
    let p = err_from_is_err_and c.from_residual-in_err-lit-2.result c.from_residual-in_err-lit-2.ensures.1 in
    listing_faulted (Key And) (lit_at c.args.levels)
    (conj_at c.args.levels) _ _ _ _ _ _ _ c.loop-alloc.invariant.listing
    (sym c.next_is_key.ensures ∙ c.loop-alloc-test.true) c.in_ok-key.ensures.read c.in_err-lit-2.ensures.read
    (error_of _ _ p)

pub conj-returns-clause-read : goal.conj-returns-clause-read
conj-returns-clause-read t c =
    listing_end (Key And) (lit_at c.args.levels) (conj_at c.args.levels) _ _ _ c.loop-alloc.invariant.listing
    (sym c.next_is_key.ensures ∙ c.loop-alloc-test.false)

pub not_lit-returns-then-levels-eq0-clause-read : goal.not_lit-returns-then-levels-eq0-clause-read
not_lit-returns-then-levels-eq0-clause-read t c =
    not_lowest c.args.levels (tokens_of c.args.self.now.left.now) c.if-levels-eq0.true
    ∙ ap (λ n. Err (Deep n)) (count_of c.args.self.now.left.now)

pub not_lit-returns-clause-read : goal.not_lit-returns-clause-read
not_lit-returns-clause-read t c =
    reads_as (denied_at _) (not_at c.args.levels) _ _ _
    (λ ts. not_lower c.args.levels ts (omega (arith, c.if-levels-eq0.false))) c.denied.ensures.read

pub group_lit-returns-then-levels-eq0-clause-read : goal.group_lit-returns-then-levels-eq0-clause-read
group_lit-returns-then-levels-eq0-clause-read t c =
    group_lowest c.args.levels (tokens_of c.args.self.now.left.now) c.if-levels-eq0.true
    ∙ ap (λ n. Err (Deep n)) (count_of c.args.self.now.left.now)

pub group_lit-returns-clause-read : goal.group_lit-returns-clause-read
group_lit-returns-clause-read t c =
    reads_as (grouped_at _) (group_at c.args.levels) _ _ _
    (λ ts. group_lower c.args.levels ts (omega (arith, c.if-levels-eq0.false))) c.grouped.ensures.read
