use Rattle.std.proofs.Common.{refl, drop}
use Rattle.plan_text.specs.Text.{report_of}
use Rattle.plan_text.proofs.laws.report_begins.Goals as goal

pub returns : goal.returns
returns c = λ plan facts bad. (drop 7 (report_of plan facts bad), refl)
