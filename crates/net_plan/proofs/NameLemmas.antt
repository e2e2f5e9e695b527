-- Names of boxes differ.
use Rattle.std.proofs.Common.{◌≡◌, ℕ, ◌+◌, ◌<◌, List, [], length, map, slice_index_or, sym, ◌∙◌, inl, inr, arith}
use Rattle.std.proofs.lemmas.Bool.{cases_lt}
use Rattle.std.proofs.lemmas.List.{length-append, length-map, get_or-map, get_or-append-add}
use Rattle.net_plan.specs.declared.plan.Plan.{Plan}
use Rattle.net_plan.specs.declared.plan.BoxPlan.{BoxPlan}
use Rattle.net_plan.specs.declared.plan.HostPlan.{HostPlan}
use Rattle.net_plan.specs.Plan.{boxes_of, box_at, IsBoxNamed}
use Rattle.net_plan.specs.Sound.{nodes_of, IsSound}

abbrev host_names : Plan → List (List ℕ)
host_names plan = map (λ (host : HostPlan). host.name) plan.hosts

abbrev box_names : Plan → List (List ℕ)
box_names plan = map (λ (box : BoxPlan). box.name) plan.boxes

node_of_box : (plan : Plan) (box : ℕ) → box < boxes_of plan →
    slice_index_or (nodes_of plan) (length (host_names plan) + box) [] ≡ (box_at plan box).name
node_of_box plan box less =
    get_or-append-add (host_names plan) (box_names plan) box []
    ∙ get_or-map (λ (b : BoxPlan). b.name) plan.boxes box (record { name = []; class = 0; first = [] }) [] less

apart_after : (plan : Plan) (name : List ℕ) (one two : ℕ) → IsSound plan → IsBoxNamed plan name one →
    IsBoxNamed plan name two → one < two → ⊥
apart_after plan name one two sound first second less =
    let all : length (nodes_of plan) ≡ length (host_names plan) + length (box_names plan) =
    length-append (host_names plan) (box_names plan) in
    let boxes : length (box_names plan) ≡ boxes_of plan = length-map plan.boxes (λ (b : BoxPlan). b.name) in
    sound.names.nodes (length (host_names plan) + one) (length (host_names plan) + two) [] (omega (arith, less))
    (omega (arith, all, boxes, second.0))
    (node_of_box plan one first.0 ∙ first.1 ∙ sym second.1 ∙ sym (node_of_box plan two second.0))

pub box_named_once : (plan : Plan) (name : List ℕ) (one two : ℕ) → IsSound plan → IsBoxNamed plan name one →
    IsBoxNamed plan name two → one ≡ two
box_named_once plan name one two sound first second =
    elim (cases_lt one two) [
      | inl before ↦ absurd (apart_after plan name one two sound first second before)
      | inr least ↦ elim (cases_lt two one) [
        | inl after ↦ absurd (apart_after plan name two one sound second first after)
        | inr most ↦ (let same : one ≡ two = omega arith in same)
      ]
    ]
