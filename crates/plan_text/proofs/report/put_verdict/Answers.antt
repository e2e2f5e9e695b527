use Rattle.std.proofs.Common.{◌≡◌, ℕ, zero, suc, refl, List, [], ◌∷◌, ◌++◌, sym, ap, ◌∙◌}
use Rattle.std.proofs.Common.{append_assoc, append-nil}
use Rattle.std.specs.Prelude.{codes}
use Rattle.std.specs.Fmt.{decimal}
use Rattle.std.specs.List.{flat_map}
use Rattle.std.proofs.lemmas.Result.{on_err_weaker, on_ok_weaker}
use Rattle.amdl_tree.specs.Layout.{line}
use Rattle.net_plan.specs.declared.plan.Plan.{Plan}
use Rattle.net_plan.specs.declared.fact.Fact.{Fact}
use Rattle.plan_text.specs.Text.{bad_line, more_text}
use Rattle.plan_text.specs.Found.{verdict_by}
use Rattle.amdl_tree.proofs.AppendLemmas.{on_err, part_first, part_after, appended_after}
use Rattle.plan_text.proofs.report.put_verdict.Goals as goal

-- the first line, as it is put
abbrev alarm : List ℕ → List ℕ
alarm count = codes "ALARM " ++ (count ++ 10 ∷ [])

abbrev lines_of : Plan → List Fact → List ℕ
lines_of plan facts = flat_map (λ fact. line (bad_line plan fact)) facts

parts_grouped : (word digits lines more count : List ℕ) → count ≡ digits →
    line (word ++ digits) ++ lines ++ more ≡ (word ++ (count ++ 10 ∷ [])) ++ (lines ++ more)
parts_grouped word digits lines more count e = rw e (simp append_assoc)

-- where facts are bad, the verdict is the first line, the listed lines, and the number of the others
verdict_parts : (plan : Plan) (bad : ℕ) (listed shown : List Fact) (count : List ℕ) → (bad ≡ 0 → ⊥) →
    count ≡ decimal bad → shown ≡ listed →
    verdict_by plan bad listed ≡ alarm count ++ (lines_of plan shown ++ more_text bad)
verdict_parts plan zero listed shown count some p q = absurd (some refl)
verdict_parts plan (suc others) listed shown count some p q =
    parts_grouped (codes "ALARM ") (decimal (suc others)) (lines_of plan listed) (more_text (suc others)) count p
    ∙ ap (λ t. alarm count ++ (lines_of plan t ++ more_text (suc others))) (sym q)

pub returns-in_err-put_all-clause-err : goal.returns-in_err-put_all-clause-err
returns-in_err-put_all-clause-err c =
    let plan = c.args.network.now in
    let bad = c.args.findings.now.bad in
    let listed = c.args.findings.now.listed in
    let whole =
    verdict_parts plan bad listed listed c.bytes.result.now c.if-findings-eq0.false (c.bytes.ensures ∙ c.of-count.ensures)
    refl in
    on_err _ (part_first c.args.out.now.items c.put_all-2.new.out.items (alarm c.bytes.result.now)
    (lines_of plan listed ++ more_text bad)
    (verdict_by plan bad listed) whole c.in_err-put_all.ensures.err)

pub returns-in_err-put_bad_lines-clause-err : goal.returns-in_err-put_bad_lines-clause-err
returns-in_err-put_bad_lines-clause-err c =
    let plan = c.args.network.now in
    let bad = c.args.findings.now.bad in
    let listed = c.args.findings.now.listed in
    let whole =
    verdict_parts plan bad listed c.as_slice.result.now c.bytes.result.now c.if-findings-eq0.false
    (c.bytes.ensures ∙ c.of-count.ensures) c.as_slice.ensures in
    on_err _ (part_after c.args.out.now.items c.put_all-2.new.out.items c.put_bad_lines.new.out.items
    (alarm c.bytes.result.now)
    (lines_of plan c.as_slice.result.now) (more_text bad) (verdict_by plan bad listed)
    c.in_ok-put_all.ensures.ok whole c.in_err-put_bad_lines.ensures.err)

pub returns-clause-err : goal.returns-clause-err
returns-clause-err c =
    let plan = c.args.network.now in
    let bad = c.args.findings.now.bad in
    let listed = c.args.findings.now.listed in
    let head = alarm c.bytes.result.now in
    let lines = lines_of plan c.as_slice.result.now in
    let more = more_text bad in
    let whole =
    verdict_parts plan bad listed c.as_slice.result.now c.bytes.result.now c.if-findings-eq0.false
    (c.bytes.ensures ∙ c.of-count.ensures) c.as_slice.ensures in
    on_err_weaker _
    (part_after c.args.out.now.items c.put_bad_lines.new.out.items c.put_more.new.out.items (head ++ lines) more []
    (verdict_by plan bad listed)
    (appended_after c.args.out.now.items c.put_all-2.new.out.items c.put_bad_lines.new.out.items head lines
    c.in_ok-put_all.ensures.ok c.in_ok-put_bad_lines.ensures.ok)
    (whole ∙ sym (append_assoc head lines more) ∙ ap (λ t. (head ++ lines) ++ t) (sym (append-nil more))))
    c.put_more.ensures.err

pub returns-clause-ok : goal.returns-clause-ok
returns-clause-ok c =
    let plan = c.args.network.now in
    let bad = c.args.findings.now.bad in
    let listed = c.args.findings.now.listed in
    let head = alarm c.bytes.result.now in
    let lines = lines_of plan c.as_slice.result.now in
    let more = more_text bad in
    let whole =
    verdict_parts plan bad listed c.as_slice.result.now c.bytes.result.now c.if-findings-eq0.false
    (c.bytes.ensures ∙ c.of-count.ensures) c.as_slice.ensures in
    let before =
    appended_after c.args.out.now.items c.put_all-2.new.out.items c.put_bad_lines.new.out.items head lines
    c.in_ok-put_all.ensures.ok c.in_ok-put_bad_lines.ensures.ok in
    on_ok_weaker _
    (λ (put : c.put_more.new.out.items ≡ c.put_bad_lines.new.out.items ++ more).
    appended_after c.args.out.now.items c.put_bad_lines.new.out.items c.put_more.new.out.items (head ++ lines) more
    before put
    ∙ ap (λ t. c.args.out.now.items ++ t) (append_assoc head lines more ∙ sym whole))
    c.put_more.ensures.ok
