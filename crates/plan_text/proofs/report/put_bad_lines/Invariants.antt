use Rattle.std.proofs.Common.{◌≡◌, ◌++◌, take}
use Rattle.std.specs.List.{flat_map}
use Rattle.amdl_tree.specs.Layout.{line}
use Rattle.plan_text.specs.Text.{bad_line}
use Rattle.plan_text.proofs.report.put_bad_lines.Given as goal

abbrev pub invariant-loop-fact : goal.invariant-loop-fact
invariant-loop-fact l =
    l.out.items ≡ l.fn.out.items ++ flat_map (λ fact. line (bad_line l.network fact)) (take l.fact-index l.bad)
