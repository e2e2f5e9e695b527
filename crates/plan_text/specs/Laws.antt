-- What a printed text tells, and two reports by hand.
use Rattle.std.specs.Prelude.{◌≡◌, ◌++◌, ℕ, List, [], ◌∷◌, codes}
use Rattle.amdl_tree.specs.Word.{IsName}
use Rattle.amdl_tree.specs.Layout.{line}
use Rattle.net_plan.specs.declared.plan.Plan.{Plan}
use Rattle.net_plan.specs.declared.fact.Fact.{Fact}
use Rattle.net_plan.specs.declared.fact.Fact.TheVariants.{Out, State, Abort}
use Rattle.net_plan.specs.Laws.{wire_plan}
use Rattle.plan_text.specs.declared.refusal.NetworkRefusal.{NetworkRefusal}
use Rattle.plan_text.specs.Text.{network_line, facts_line, counts_of, report_of}
use Rattle.plan_text.specs.Messages.{usage_text, refused_network, missing_text, fault_load_text}
use Rattle.plan_text.specs.Prints.{BeginsWith, PrintsSafe}

-- a report begins with `network`
abbrev pub ReportBegins : Type 0
ReportBegins = (plan : Plan) (facts bad : List Fact) → BeginsWith (report_of plan facts bad) (codes "network")

-- however early a report is cut off, it prints SAFE only where no fact is bad
abbrev pub SafeIsTold : Type 0
SafeIsTold =
    (plan : Plan) (facts bad : List Fact) (front rest : List ℕ) → IsName plan.name →
    report_of plan facts bad ≡ front ++ rest → PrintsSafe front → bad ≡ []

-- where no fact is bad the third line is SAFE, and the report prints that
pub record SaysSafe (plan : Plan) (facts : List Fact) : Type 0 where
  pub verdict : report_of plan facts [] ≡ line (network_line plan) ++ line (facts_line facts) ++ line (codes "SAFE")
  pub prints : PrintsSafe (report_of plan facts [])

abbrev pub SafeIsPrinted : Type 0
SafeIsPrinted = (plan : Plan) (facts : List Fact) → IsName plan.name → SaysSafe plan facts

-- no front of the text prints SAFE
abbrev pub NeverPrintsSafe : List ℕ → Type 0
NeverPrintsSafe text = (front rest : List ℕ) → text ≡ front ++ rest → ¬ PrintsSafe front

-- neither usage nor a refusal prints SAFE, whatever stands in the name
pub record MessagesAreNotSafe : Type 0 where
  pub usage : NeverPrintsSafe usage_text
  pub refused : (refusal : NetworkRefusal) → NeverPrintsSafe (refused_network refusal)
  pub missing : (name : List ℕ) → NeverPrintsSafe (missing_text name)
  pub fault_load : (name : List ℕ) → NeverPrintsSafe (fault_load_text name)

-- nor do the counts of a network with a good name
abbrev pub CountsAreNotSafe : Type 0
CountsAreNotSafe = (plan : Plan) → IsName plan.name → NeverPrintsSafe (counts_of plan)

-- of the two packets that p puts out on the wire, the second must not get to q
abbrev pub WireReport : Type 0
WireReport =
    report_of wire_plan (Out 0 0 ∷ Out 0 1 ∷ []) (Out 0 1 ∷ [])
    ≡ line (codes "network wire hosts 2 boxes 0 packets 4")
    ++ line (codes "facts out 2 state 0 abort 0")
    ++ line (codes "ALARM 1")
    ++ line (codes "deliver q 1 from p : src = a, dst = b")

-- the wire with a box in it: p is linked to w.inner, and w.outer, which is end 3, to q
abbrev pub boxed_wire_plan : Plan
boxed_wire_plan = record wire_plan {
  classes =
      record { ports = codes "inner" ∷ codes "outer" ∷ []; relations = []; handlers = [] ∷ [] ∷ []; queries = [] } ∷ [];
  boxes = record { name = codes "w"; class = 0; first = [] } ∷ [];
  links = record { one = 0; two = 2 } ∷ record { one = 3; two = 1 } ∷ [];
}

-- of some facts of each kind two are bad: packet 1 is put out at w.outer, and w aborts at packet 2
abbrev pub BoxedWireReport : Type 0
BoxedWireReport =
    report_of boxed_wire_plan
    (Out 0 1 ∷ Out 0 2 ∷ Out 3 1 ∷ State 0 1 0 ∷ State 0 2 0 ∷ Abort 0 2 ∷ [])
    (Out 3 1 ∷ Abort 0 2 ∷ [])
    ≡ line (codes "network wire hosts 2 boxes 1 packets 4")
    ++ line (codes "facts out 3 state 2 abort 1")
    ++ line (codes "ALARM 2")
    ++ line (codes "deliver q 1 from w.outer : src = a, dst = b")
    ++ line (codes "abort w 2 : src = b, dst = a")

-- the counts of that network: its two hosts and the two ports of w are ends, and for each of the four packets there is a
-- cell at each end, one for the one mask of w and one for the abort at w
abbrev pub BoxedWireCounts : Type 0
BoxedWireCounts =
    counts_of boxed_wire_plan
    ≡ line (codes "network wire hosts 2 boxes 1 packets 4")
    ++ line (codes "types 1 fields 2 classes 1 links 2")
    ++ line (codes "ends 4 cells 24")
