use Rattle.std.proofs.Common.{◌+◌, ◌≤◌, List, subst, sym, ap, ◌∙◌, arith}
use Rattle.std.specs.List.{All}
use Rattle.std.proofs.lemmas.List.Elements.{All-push}
use Rattle.net_plan.specs.declared.fact.Fact.{Fact}
use Rattle.plan_text.specs.declared.findings.Findings.{Findings}
use Rattle.plan_text.specs.Text.{HasLine}
use Rattle.fact_sets.proofs.SummaryLemmas.{list_more_full, list_more_listed}
use Rattle.fact_sets.proofs.summary.list.Goals as goal
use Rattle.fact_sets.proofs.summary.list.Goals.{then-findings-lt-MOST_LISTED+in_ok-push, else-findings-lt-MOST_LISTED}

pub returns-clause-summarises : goal.returns-clause-summarises
returns-clause-summarises c = λ facts bad told. elim c.if-findings-lt-MOST_LISTED.branch [
  | then-findings-lt-MOST_LISTED+in_ok-push w ↦
      list_more_listed c.args.findings.now _ facts bad c.args.fact told w.if-findings-lt-MOST_LISTED.true
      (ap (λ (f : Findings). record f { bad = f.bad + 1 }) w.findings-is
      ∙ ap (λ (l : List Fact). record c.args.findings.now { bad = c.args.findings.now.bad + 1; listed = l })
      w.in_ok-push.ensures.ok)
  | else-findings-lt-MOST_LISTED w ↦
      list_more_full c.args.findings.now _ facts bad c.args.fact told
      (let many : 1000 ≤ c.args.findings.now.bad = omega (arith, w.if-findings-lt-MOST_LISTED.false) in many)
      (ap (λ (f : Findings). record f { bad = f.bad + 1 }) w.findings-is)
]

pub returns-clause-lines : goal.returns-clause-lines
returns-clause-lines c = elim c.if-findings-lt-MOST_LISTED.branch [
  | then-findings-lt-MOST_LISTED+in_ok-push w ↦
      subst (All (HasLine c.args.network.now))
      (sym (ap (λ (f : Findings). f.listed) w.findings-is ∙ w.in_ok-push.ensures.ok))
      (All-push (HasLine c.args.network.now) c.args.findings.now.listed c.args.fact c.requires.lines c.requires.line)
  | else-findings-lt-MOST_LISTED w ↦
      subst (All (HasLine c.args.network.now)) (sym (ap (λ (f : Findings). f.listed) w.findings-is)) c.requires.lines
]
