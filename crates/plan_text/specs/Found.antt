-- What is kept of the facts of a network for its report.
use Rattle.std.specs.Prelude.{◌≡◌, ℕ, zero, suc, List, ◌++◌, length, take, codes}
use Rattle.amdl_tree.specs.Layout.{line}
use Rattle.net_plan.specs.declared.plan.Plan.{Plan}
use Rattle.net_plan.specs.declared.fact.Fact.{Fact}
use Rattle.plan_text.specs.declared.findings.Findings.{Findings}
use Rattle.plan_text.specs.Text.{network_line, numbers_line, count_of_outs, count_of_states, count_of_aborts}
use Rattle.plan_text.specs.Text.{alarm_text, report_of}

-- these are the numbers of all facts by kind, the number of the bad ones, and the first 1,000 of those
pub record Summarises (findings : Findings) (facts bad : List Fact) : Type 0 where
  pub outs : findings.outs ≡ count_of_outs facts
  pub states : findings.states ≡ count_of_states facts
  pub aborts : findings.aborts ≡ count_of_aborts facts
  pub count : findings.bad ≡ length bad
  pub listed : findings.listed ≡ take 1000 bad

-- the verdict and the report that findings give
abbrev pub verdict_by : Plan → ℕ → List Fact → List ℕ
verdict_by plan zero listed = line (codes "SAFE")
verdict_by plan (suc others) listed = alarm_text plan (suc others) listed

abbrev pub report_by : Plan → Findings → List ℕ
report_by plan findings =
    line (network_line plan) ++ line (numbers_line findings.outs findings.states findings.aborts)
    ++ verdict_by plan findings.bad findings.listed

-- the report that findings give is that of the facts which they summarise
abbrev pub FindingsAreReported : Type 0
FindingsAreReported =
    (plan : Plan) (findings : Findings) (facts bad : List Fact) → Summarises findings facts bad →
    report_by plan findings ≡ report_of plan facts bad
