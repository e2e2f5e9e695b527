-- The report of a network, and the reply of `analyse` to a text.
use Rattle.std.specs.Prelude.{◌≡◌, ℕ, zero, suc, List, length, Result, Ok, Err}
use Rattle.amdl_tree.specs.Derivation.{IsDerivable}
use Rattle.net_plan.specs.declared.plan.Plan.{Plan}
use Rattle.net_plan.specs.declared.fact.Fact.{Fact}
use Rattle.net_plan.specs.Fact.{ListsExactly}
use Rattle.net_plan.specs.Follows.{IsBad}
use Rattle.packet_state.specs.Follows.{Follows, IsLeast}
use Rattle.fact_sets.specs.Summary.{IsBadAmong}
use Rattle.plan_text.specs.Text.{report_of}
use Rattle.plan_text.specs.declared.refusal.NetworkRefusal.{NetworkRefusal}
use Rattle.amdl_app.specs.Reply.{Reply, says, refuses}
use Rattle.amdl_app.specs.Spelled.{ComesTo}

-- SAFE is status 0, and ALARM is status 1, where so many facts are bad
abbrev pub verdict_of : ℕ → ℕ
verdict_of zero = 0
verdict_of (suc others) = 1

abbrev pub status_of : List Fact → ℕ
status_of bad = verdict_of (length bad)

-- the report of the derivable facts, and of the bad ones among them
pub record IsReport (plan : Plan) (reply : Reply) : Type 0 where
  pub facts : List Fact
  pub bad : List Fact
  pub least : IsLeast plan facts
  pub bad_ones : ListsExactly (IsBadAmong plan facts) bad
  pub told : reply ≡ says (status_of bad) (report_of plan facts bad)

-- no derivation ends in a bad fact
abbrev pub HasNoBad : Plan → Type 0
HasNoBad plan = (fact : Fact) → IsDerivable (Follows plan) fact → IsBad plan fact → ⊥

-- some derivation ends in a bad fact
abbrev pub HasBad : Plan → Type 0
HasBad plan = (fact : Fact) × IsDerivable (Follows plan) fact × IsBad plan fact

-- the reply to what the text of a network comes to: its refusal, or the report
pub data IsAnalysisOf (found : Result Plan NetworkRefusal) (reply : Reply) : Type 0 where
  refused : (refusal : NetworkRefusal) → found ≡ Err refusal → reply ≡ refuses refusal → IsAnalysisOf found reply
  reported : (plan : Plan) → found ≡ Ok plan → IsReport plan reply → IsAnalysisOf found reply

-- the reply to the text of a network within the limit
pub record IsAnalysis (bytes : List ℕ) (reply : Reply) : Type 0 where
  pub found : Result Plan NetworkRefusal
  pub comes : ComesTo bytes found
  pub analysed : IsAnalysisOf found reply
