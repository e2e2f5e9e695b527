-- The abstract step of one box: what comes of a packet at a port, from all contents that answer alike at the packet.
use Rattle.std.specs.Prelude.{◌≡◌, ℕ, ◌<◌, Bool, true, false, List, [], map, slice_index_or, All}
use Rattle.std.specs.List.{Contains}
use Rattle.box_contents.specs.declared.entry.Entry.{Entry}
use Rattle.box_executions.specs.Execution.{Outcome, Done, Aborted, Emission}
use Rattle.net_plan.specs.declared.plan.Plan.{Plan}
use Rattle.net_plan.specs.Plan.{packets_of, box_at, ports_of}
use Rattle.net_runs.specs.World.{Handles}
use Rattle.packet_state.specs.Answers.{answers}
use Rattle.box_masks.specs.declared.write.Write.{Write}
use Rattle.box_masks.specs.Writes.{AreContentsOf, after_writes}
use Rattle.abstract_step.specs.declared.put.Put.{Put}

-- a result: whether it aborts, its writes in order, and what it puts out in order
pub record Result : Type 0 where
  pub aborted : Bool
  pub writes : List Write
  pub puts : List Put

-- the result of a number
abbrev pub result_at : List Result → ℕ → Result
result_at results i = slice_index_or results i (record { aborted = false; writes = []; puts = [] })

abbrev pub emission_of : Put → Emission
emission_of put = record { port = put.port; packet = put.packet }

-- the outcome of an execution from these contents is that of the result
abbrev pub StandsFor : List Entry → Result → Outcome → Type 0
StandsFor contents result (Done left outputs) =
    (result.aborted ≡ false) × (left ≡ after_writes contents result.writes) × (outputs ≡ map emission_of result.puts)
StandsFor contents result Aborted = (result.aborted ≡ true) × (result.writes ≡ []) × (result.puts ≡ [])

-- the contents are some of the box, and answer with the mask at the packet
pub record Answer (plan : Plan) (box packet mask : ℕ) (contents : List Entry) : Type 0 where
  pub fit : AreContentsOf plan box contents
  pub answered : answers plan box packet contents ≡ mask

-- the port and the packet are in range
pub record IsPut (plan : Plan) (box : ℕ) (put : Put) : Type 0 where
  pub port : put.port < ports_of plan (box_at plan box)
  pub packet : put.packet < packets_of plan

-- the results are those of the executions of the handler of the port on the packet, from all contents that answer with
-- the mask at it
pub record AreResults (plan : Plan) (box port packet mask : ℕ) (results : List Result) : Type 0 where
  -- each execution has its result
  pub complete : (contents : List Entry) → Answer plan box packet mask contents → (choices : List ℕ)
      (outcome : Outcome) → Handles plan box port packet contents choices outcome →
      (result : Result) × Contains results result × StandsFor contents result outcome
  -- each result comes from an execution, whatever the contents are that answer so
  pub sound : (result : Result) → Contains results result → (contents : List Entry) →
      Answer plan box packet mask contents →
      (choices : List ℕ) × (outcome : Outcome) × Handles plan box port packet contents choices outcome
      × StandsFor contents result outcome
  -- and where there is one, some contents answer so
  pub shown : (result : Result) → Contains results result →
      (contents : List Entry) × Answer plan box packet mask contents
  -- what is put out is in range
  pub in_range : All (λ result. All (IsPut plan box) result.puts) results
