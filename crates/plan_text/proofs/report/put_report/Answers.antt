use Rattle.std.proofs.Common.{◌≡◌, ℕ, List, [], ◌∷◌, ◌++◌, sym, ap, append_assoc, append-nil}
use Rattle.std.proofs.lemmas.Result.{on_ok_weaker, on_err_weaker}
use Rattle.amdl_tree.specs.Layout.{line}
use Rattle.plan_text.specs.Text.{network_line, numbers_line}
use Rattle.plan_text.specs.Found.{verdict_by, report_by}
use Rattle.amdl_tree.proofs.AppendLemmas.{on_err, part_first, part_after, appended_after}
use Rattle.plan_text.proofs.report.put_report.Goals as goal
use Rattle.plan_text.proofs.report.put_report.Goals.{After-put_verdict}

-- two lines and a verdict, from the end of the first line on, from the second line on, and from its end on
from_first_end : (network facts verdict : List ℕ) →
    line network ++ line facts ++ verdict ≡ network ++ (10 ∷ [] ++ (line facts ++ verdict))
from_first_end network facts verdict = simp append_assoc

from_second : (network facts verdict : List ℕ) →
    line network ++ line facts ++ verdict ≡ line network ++ (facts ++ (10 ∷ [] ++ verdict))
from_second network facts verdict = simp append_assoc

from_second_end : (network facts verdict : List ℕ) →
    line network ++ line facts ++ verdict ≡ line network ++ facts ++ (10 ∷ [] ++ verdict)
from_second_end network facts verdict = simp append_assoc

pub returns-in_err-put_network_line-clause-err : goal.returns-in_err-put_network_line-clause-err
returns-in_err-put_network_line-clause-err c =
    let network = network_line c.args.network.now in
    let facts = numbers_line c.args.findings.now.outs c.args.findings.now.states c.args.findings.now.aborts in
    let verdict = verdict_by c.args.network.now c.args.findings.now.bad c.args.findings.now.listed in
    on_err _ (part_first c.args.out.now.items c.put_network_line.new.out.items network
    (10 ∷ [] ++ (line facts ++ verdict))
    (report_by c.args.network.now c.args.findings.now)
    (from_first_end network facts verdict) c.in_err-put_network_line.ensures.err)

pub returns-in_err-put_all-clause-err : goal.returns-in_err-put_all-clause-err
returns-in_err-put_all-clause-err c =
    let network = network_line c.args.network.now in
    let facts = numbers_line c.args.findings.now.outs c.args.findings.now.states c.args.findings.now.aborts in
    let verdict = verdict_by c.args.network.now c.args.findings.now.bad c.args.findings.now.listed in
    on_err _ (part_after c.args.out.now.items c.put_network_line.new.out.items c.put_all.new.out.items network (10 ∷ [])
    (line facts ++ verdict)
    (report_by c.args.network.now c.args.findings.now)
    c.in_ok-put_network_line.ensures.ok (from_first_end network facts verdict) c.in_err-put_all.ensures.err)

pub returns-in_err-put_facts_line-clause-err : goal.returns-in_err-put_facts_line-clause-err
returns-in_err-put_facts_line-clause-err c =
    let network = network_line c.args.network.now in
    let facts = numbers_line c.args.findings.now.outs c.args.findings.now.states c.args.findings.now.aborts in
    let verdict = verdict_by c.args.network.now c.args.findings.now.bad c.args.findings.now.listed in
    on_err _ (part_after c.args.out.now.items c.put_all.new.out.items c.put_facts_line.new.out.items
    (line network) facts (10 ∷ [] ++ verdict)
    (report_by c.args.network.now c.args.findings.now)
    (appended_after c.args.out.now.items c.put_network_line.new.out.items c.put_all.new.out.items network
    (10 ∷ []) c.in_ok-put_network_line.ensures.ok c.in_ok-put_all.ensures.ok)
    (from_second network facts verdict) c.in_err-put_facts_line.ensures.err)

pub returns-in_err-put_all-2-clause-err : goal.returns-in_err-put_all-2-clause-err
returns-in_err-put_all-2-clause-err c =
    let network = network_line c.args.network.now in
    let facts = numbers_line c.args.findings.now.outs c.args.findings.now.states c.args.findings.now.aborts in
    let verdict = verdict_by c.args.network.now c.args.findings.now.bad c.args.findings.now.listed in
    let first =
    appended_after c.args.out.now.items c.put_network_line.new.out.items c.put_all.new.out.items network
    (10 ∷ []) c.in_ok-put_network_line.ensures.ok c.in_ok-put_all.ensures.ok in
    on_err _ (part_after c.args.out.now.items c.put_facts_line.new.out.items c.put_all-2.new.out.items
    (line network ++ facts) (10 ∷ []) verdict
    (report_by c.args.network.now c.args.findings.now)
    (appended_after c.args.out.now.items c.put_all.new.out.items c.put_facts_line.new.out.items
    (line network) facts first c.in_ok-put_facts_line.ensures.ok)
    (from_second_end network facts verdict) c.in_err-put_all-2.ensures.err)

-- both lines stand there before the verdict is put
both_lines : (c : After-put_verdict) →
    c.put_all-2.new.out.items ≡ c.args.out.now.items
    ++ (line (network_line c.args.network.now) ++ line (numbers_line c.args.findings.now.outs c.args.findings.now.states c.args.findings.now.aborts))
both_lines c =
    let network = network_line c.args.network.now in
    let facts = numbers_line c.args.findings.now.outs c.args.findings.now.states c.args.findings.now.aborts in
    let first =
    appended_after c.args.out.now.items c.put_network_line.new.out.items c.put_all.new.out.items network
    (10 ∷ []) c.in_ok-put_network_line.ensures.ok c.in_ok-put_all.ensures.ok in
    let second =
    appended_after c.put_all.new.out.items c.put_facts_line.new.out.items c.put_all-2.new.out.items facts
    (10 ∷ []) c.in_ok-put_facts_line.ensures.ok c.in_ok-put_all-2.ensures.ok in
    appended_after c.args.out.now.items c.put_all.new.out.items c.put_all-2.new.out.items (line network)
    (line facts) first second

pub returns-clause-ok : goal.returns-clause-ok
returns-clause-ok c =
    let lines = line (network_line c.args.network.now) ++ line (numbers_line c.args.findings.now.outs c.args.findings.now.states c.args.findings.now.aborts) in
    let verdict = verdict_by c.args.network.now c.args.findings.now.bad c.args.findings.now.listed in
    on_ok_weaker _
    (appended_after c.args.out.now.items c.put_all-2.new.out.items c.put_verdict.new.out.items lines verdict
    (both_lines c)) c.put_verdict.ensures.ok

pub returns-clause-err : goal.returns-clause-err
returns-clause-err c =
    let lines = line (network_line c.args.network.now) ++ line (numbers_line c.args.findings.now.outs c.args.findings.now.states c.args.findings.now.aborts) in
    let verdict = verdict_by c.args.network.now c.args.findings.now.bad c.args.findings.now.listed in
    on_err_weaker _
    (part_after c.args.out.now.items c.put_all-2.new.out.items c.put_verdict.new.out.items lines verdict []
    (report_by c.args.network.now c.args.findings.now) (both_lines c)
    (ap (λ t. lines ++ t) (sym (append-nil verdict))))
    c.put_verdict.ensures.err
