use Rattle.std.proofs.Common.{◌≡◌, ℕ, ◌++◌, List, sym, ap, ◌∙◌}
use Rattle.plan_text.specs.Found.{report_by}
use Rattle.plan_text.specs.Text.{report_of}
use Rattle.amdl_app.specs.Reply.{says}
use Rattle.amdl_app.specs.Report.{status_of, verdict_of}
use Rattle.amdl_app.proofs.analyse.analyse_network.Goals as goal
