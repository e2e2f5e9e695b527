-- The reply of `check` to a text.
use Rattle.std.specs.Prelude.{◌≡◌, ℕ, List, Result, Ok, Err}
use Rattle.net_plan.specs.declared.plan.Plan.{Plan}
use Rattle.plan_text.specs.Text.{counts_of}
use Rattle.plan_text.specs.declared.refusal.NetworkRefusal.{NetworkRefusal}
use Rattle.amdl_app.specs.Reply.{Reply, says, refuses}
use Rattle.amdl_app.specs.Spelled.{ComesTo}

-- the counts of the network, or the refusal
abbrev pub counted : Result Plan NetworkRefusal → Reply
counted (Ok plan) = says 0 (counts_of plan)
counted (Err refusal) = refuses refusal

-- the reply to the text of a network within the limit
pub record IsCheck (bytes : List ℕ) (reply : Reply) : Type 0 where
  pub found : Result Plan NetworkRefusal
  pub comes : ComesTo bytes found
  pub told : reply ≡ counted found
