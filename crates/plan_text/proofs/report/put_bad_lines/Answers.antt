use Rattle.std.proofs.Common.{◌+◌, ◌++◌, ℕ, List, [], ◌∷◌, take, drop, get_or, sym, ap, ◌∙◌, append_assoc}
use Rattle.std.specs.List.{flat_map}
use Rattle.amdl_tree.specs.Layout.{line}
use Rattle.net_plan.specs.declared.plan.Plan.{Plan}
use Rattle.net_plan.specs.declared.fact.Fact.{Fact}
use Rattle.net_plan.specs.declared.fact.Fact.TheVariants.{Out}
use Rattle.plan_text.specs.Text.{bad_line}
use Rattle.amdl_tree.proofs.AppendLemmas.{on_err, part_after, pieces_at}
use Rattle.plan_text.proofs.report.put_bad_lines.Goals as goal

abbrev line_of : Plan → Fact → List ℕ
line_of plan fact = line (bad_line plan fact)

pub returns-in_err-put_bad_line-clause-err : goal.returns-in_err-put_bad_line-clause-err
returns-in_err-put_bad_line-clause-err c =
    let f = line_of c.args.network.now in
    let bad = c.args.bad.now in
    let i = c.loop-fact.fact-index in
    let text = bad_line c.args.network.now (get_or bad i (Out 0 0)) in
    let behind = flat_map f (drop (i + 1) bad) in
    on_err _ (part_after c.args.out.now.items c.loop-fact.out.items c.put_bad_line.new.out.items
    (flat_map f (take i bad)) text (10 ∷ behind) (flat_map f bad) c.loop-fact.invariant
    (pieces_at f bad i (Out 0 0) c.loop-fact-test.true
    ∙ ap (λ t. flat_map f (take i bad) ++ t) (append_assoc text (10 ∷ []) behind))
    c.in_err-put_bad_line.ensures.err)

pub returns-in_err-put_all-clause-err : goal.returns-in_err-put_all-clause-err
returns-in_err-put_all-clause-err c =
    let f = line_of c.args.network.now in
    let bad = c.args.bad.now in
    let i = c.loop-fact.fact-index in
    let text = bad_line c.args.network.now (get_or bad i (Out 0 0)) in
    let behind = flat_map f (drop (i + 1) bad) in
    on_err _ (part_after c.args.out.now.items c.put_bad_line.new.out.items c.put_all.new.out.items
    (flat_map f (take i bad) ++ text) (10 ∷ []) behind (flat_map f bad)
    (c.in_ok-put_bad_line.ensures.ok ∙ ap (λ t. t ++ text) c.loop-fact.invariant
    ∙ append_assoc c.args.out.now.items (flat_map f (take i bad)) text)
    (pieces_at f bad i (Out 0 0) c.loop-fact-test.true
    ∙ ap (λ t. flat_map f (take i bad) ++ t) (append_assoc text (10 ∷ []) behind)
    ∙ sym (append_assoc (flat_map f (take i bad)) text (10 ∷ behind)))
    c.in_err-put_all.ensures.err)
