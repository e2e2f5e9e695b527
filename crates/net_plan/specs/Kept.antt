-- The tables that a network keeps beside its plan.
use Rattle.std.specs.Prelude.{◌≡◌, ℕ, ◌+◌, ◌*◌, List, Option, length, map, take, sum_by}
use Rattle.std.specs.List.{range_with_len}
use Rattle.net_plan.specs.declared.plan.Plan.{Plan}
use Rattle.net_plan.specs.declared.fact.Place.{Place}
use Rattle.net_plan.specs.Plan.{sizes_of, packets_of, ports_of}
use Rattle.net_plan.specs.Ends.{places_of, ends_of, partner_of}
use Rattle.net_plan.specs.Cells.{masks_before}
use Rattle.net_plan.specs.Sound.{IsSound}

-- the end of port 0 of a box: behind the hosts and the ports of the boxes before it
abbrev pub first_end : Plan → ℕ → ℕ
first_end plan box = length plan.hosts + sum_by (ports_of plan) (take box plan.boxes)

-- the first `State` cell of a box, and for the number of boxes the first `Abort` cell
abbrev pub first_state : Plan → ℕ → ℕ
first_state plan box = packets_of plan * (ends_of plan + masks_before plan box)

abbrev pub first_ends : Plan → List ℕ
first_ends plan = map (first_end plan) (range_with_len 0 (length plan.boxes))

abbrev pub first_states : Plan → List ℕ
first_states plan = map (first_state plan) (range_with_len 0 (length plan.boxes + 1))

abbrev pub partners_of : Plan → List (Option ℕ)
partners_of plan = map (partner_of plan) (range_with_len 0 (ends_of plan))

-- the plan is sound, and these are its tables
pub record IsKept (plan : Plan) (headers : List ℕ) (places : List Place) (partners : List (Option ℕ))
    (ends states : List ℕ) : Type 0 where
  pub sound : IsSound plan
  pub headers_are : headers ≡ sizes_of plan
  pub places_are : places ≡ places_of plan
  pub partners_are : partners ≡ partners_of plan
  pub ends_are : ends ≡ first_ends plan
  pub states_are : states ≡ first_states plan
