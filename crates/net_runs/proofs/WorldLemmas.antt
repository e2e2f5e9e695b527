-- Steps keep states well shaped.
use Rattle.std.proofs.Common.{◌≡◌, ℕ, ◌<◌, List, [], ◌∷◌, ◌++◌, length, Some, slice_set, sym, ap, subst, ◌∙◌, inl, inr}
use Rattle.std.proofs.Common.{arith}
use Rattle.std.specs.Prelude.{slice_get}
use Rattle.std.specs.List.{All}
use Rattle.std.specs.Option.{option_map}
use Rattle.std.proofs.Math.ListN.{length-set}
use Rattle.std.proofs.lemmas.Bool.{cases_eq}
use Rattle.std.proofs.lemmas.Option.{slice_get-map, slice_get_within}
use Rattle.std.proofs.lemmas.List.{length-map, length-replicate}
use Rattle.std.proofs.lemmas.List.Elements.{All-nil, All-head, All-tail, All-push}
use Rattle.box_contents.specs.declared.entry.Entry.{Entry}
use Rattle.box_executions.specs.Execution.{Emission, Outcome}
use Rattle.box_executions.specs.Shape.{AreContents, IsEmission, IsOutcome}
use Rattle.box_executions.specs.Laws.{OutcomeIsInRange}
use Rattle.net_plan.specs.declared.plan.Plan.{Plan}
use Rattle.net_plan.specs.declared.plan.BoxPlan.{BoxPlan}
use Rattle.net_plan.specs.declared.plan.ClassPlan.{ClassPlan}
use Rattle.net_plan.specs.Plan.{sizes_of, packets_of, surroundings_of}
use Rattle.net_plan.specs.Sound.{IsSound}
use Rattle.net_plan.specs.Ends.{ends_of}
use Rattle.net_plan.proofs.Linked.{link_or_none}
use Rattle.net_runs.specs.declared.world.Mode.{Mode}
use Rattle.net_runs.specs.declared.world.Step.{Step}
use Rattle.net_runs.specs.declared.world.Step.TheVariants.{Send, Deliver, Revert}
use Rattle.net_runs.specs.declared.world.Event.{Event}
use Rattle.net_runs.specs.declared.world.World.{World}
use Rattle.net_runs.specs.World.{first_world, Waits, with_waiting, HasContents, with_contents, IsUnlinked, IsBoxAt}
use Rattle.net_runs.specs.World.{relations_of, IsWorld, IsTaken, PutsOut, environment_of, Handles, PutsOutAll, Reacts}
use Rattle.net_runs.specs.World.{IsBoxDelivery, Leads, Run}
use Rattle.net_runs.proofs.ListLemmas.{some_inside, get_set_same, get_set_other, get_replicate, all_fewer}
use Rattle.net_runs.proofs.PlanLemmas.{ready, first_fits}

-- what a change of one channel, or of the contents of one box, keeps

channel_changed : (plan : Plan) (old : World) (end : ℕ) (packets : List ℕ) → IsWorld plan old →
    All (λ packet. packet < packets_of plan) packets →
    (IsUnlinked plan end → packets ≡ []) → IsWorld plan (with_waiting old end packets)
channel_changed plan old end packets is below none = record {
  channels = length-set old.waiting end packets ∙ is.channels;
  in_range = λ other others waits. elim (cases_eq other end) [
    | inl same ↦ subst (All (λ packet. packet < packets_of plan)) (here other others waits same) below
    | inr apart ↦ is.in_range other others (sym (get_set_other old.waiting end other packets apart) ∙ waits)
  ];
  unlinked = λ other others waits bare. elim (cases_eq other end) [
    | inl same ↦ sym (here other others waits same) ∙ none (subst (IsUnlinked plan) same bare)
    | inr apart ↦ is.unlinked other others (sym (get_set_other old.waiting end other packets apart) ∙ waits) bare
  ];
  boxes = is.boxes;
  contents_fit = is.contents_fit;
}
  where
    here : (other : ℕ) (others : List ℕ) → Waits (with_waiting old end packets) other others → other ≡ end →
        packets ≡ others
    here other others waits same =
        let there : slice_get (slice_set old.waiting end packets) end ≡ Some others =
        ap (slice_get (slice_set old.waiting end packets)) (sym same) ∙ waits in
        let still : length (slice_set old.waiting end packets) ≡ length old.waiting =
        length-set old.waiting end packets in
        let below : end < length (slice_set old.waiting end packets) =
        slice_get_within (slice_set old.waiting end packets) end others there in
        let within : end < length old.waiting = omega (arith, still, below) in
        some_inside (sym (get_set_same old.waiting end packets within) ∙ there)

contents_changed : (plan : Plan) (old : World) (box : ℕ) (contents : List Entry) → IsWorld plan old →
    ((box_plan : BoxPlan) (class : ClassPlan) → IsBoxAt plan box box_plan class →
    AreContents (relations_of plan class) contents) → IsWorld plan (with_contents old box contents)
contents_changed plan old box contents is fit = record {
  channels = is.channels;
  in_range = is.in_range;
  unlinked = is.unlinked;
  boxes = length-set old.contents box contents ∙ is.boxes;
  contents_fit = λ other box_plan class others at_box has. elim (cases_eq other box) [
    | inl same ↦ subst (AreContents (relations_of plan class)) (here other others has same)
        (fit box_plan class (subst (λ (n : ℕ). IsBoxAt plan n box_plan class) same at_box))
    | inr apart ↦ is.contents_fit other box_plan class others at_box
        (sym (get_set_other old.contents box other contents apart) ∙ has)
  ];
}
  where
    here : (other : ℕ) (others : List Entry) → HasContents (with_contents old box contents) other others →
        other ≡ box → contents ≡ others
    here other others has same =
        let there : slice_get (slice_set old.contents box contents) box ≡ Some others =
        ap (slice_get (slice_set old.contents box contents)) (sym same) ∙ has in
        let still : length (slice_set old.contents box contents) ≡ length old.contents =
        length-set old.contents box contents in
        let below : box < length (slice_set old.contents box contents) =
        slice_get_within (slice_set old.contents box contents) box others there in
        let within : box < length old.contents = omega (arith, still, below) in
        some_inside (sym (get_set_same old.contents box contents within) ∙ there)

-- one box of a number, and one class

pub same_class : (plan : Plan) (box : ℕ) (one two : BoxPlan) (class other : ClassPlan) → IsBoxAt plan box one class →
    IsBoxAt plan box two other → class ≡ other
same_class plan box one two class other a b =
    let same : one ≡ two = some_inside (sym a.numbered ∙ b.numbered) in
    some_inside (sym a.of_class ∙ ap (λ (one : BoxPlan). slice_get plan.classes one.class) same ∙ b.of_class)

-- the first state

pub first_is_world : (plan : Plan) → IsSound plan → IsWorld plan (first_world plan)
first_is_world plan sound = record {
  channels = length-replicate (ends_of plan) [];
  in_range =
      λ end packets waits. subst (All (λ packet. packet < packets_of plan))
      (sym (get_replicate (ends_of plan) end [] packets waits)) (All-nil (λ packet. packet < packets_of plan));
  unlinked = λ end packets waits none. get_replicate (ends_of plan) end [] packets waits;
  boxes = length-map plan.boxes (λ box. box.first);
  contents_fit = λ box box_plan class contents at_box has.
      let same : box_plan.first ≡ contents =
      some_inside
      (sym (ap (option_map (λ (one : BoxPlan). one.first)) at_box.numbered)
      ∙ sym (slice_get-map (λ (one : BoxPlan). one.first) plan.boxes box) ∙ has) in
      subst (AreContents (relations_of plan class)) same (first_fits plan sound box box_plan class at_box);
}

-- parts of steps

pub taken_keeps : (plan : Plan) (mode : Mode) (end packet : ℕ) (old new : World) → IsWorld plan old →
    IsTaken plan mode end packet old new → IsWorld plan new
taken_keeps plan mode end packet old new is taken =
    subst (IsWorld plan) (sym taken.leaves)
    (channel_changed plan old taken.from taken.others is
    (all_fewer packet (λ packet. packet < packets_of plan) taken.packets taken.others taken.takes
    (is.in_range taken.from taken.packets taken.waits))
    (λ none. absurd (none end taken.linked)))

pub put_out_keeps : (plan : Plan) (end packet : ℕ) (old new : World) → packet < packets_of plan → IsWorld plan old →
    PutsOut plan end packet old new → IsWorld plan new
put_out_keeps plan end packet old new less is puts =
    elim (link_or_none plan end) [
      | inl link ↦
          let last = puts.linked link.0 link.1 in
          subst (IsWorld plan) (sym last.leaves)
          (channel_changed plan old end (last.packets ++ packet ∷ []) is
          (All-push (λ one. one < packets_of plan) last.packets packet (is.in_range end last.packets last.waits) less)
          (λ none. absurd (none link.0 link.1)))
      | inr none ↦ subst (IsWorld plan) (sym (puts.unlinked none)) is
    ]

put_out_all_keeps : (plan : Plan) (box ports : ℕ) (emissions : List Emission) (old new : World) →
    All (IsEmission ports (sizes_of plan)) emissions → IsWorld plan old →
    PutsOutAll plan box emissions old new → IsWorld plan new
put_out_all_keeps plan box ports [] old new are is puts = subst (IsWorld plan) (sym puts) is
put_out_all_keeps plan box ports (emission ∷ emissions) old new are is (end, mid, at_port, first, later) =
    put_out_all_keeps plan box ports emissions mid new
    (All-tail (IsEmission ports (sizes_of plan)) emission emissions are)
    (put_out_keeps plan end emission.packet old mid
    (All-head (IsEmission ports (sizes_of plan)) emission emissions are).packet is first) later

-- an execution in a well shaped state has an outcome that fits
pub handled_in_range : OutcomeIsInRange →
    (plan : Plan) (box port packet : ℕ) (contents : List Entry) (choices : List ℕ) (outcome : Outcome)
    (world : World) → IsSound plan → IsWorld plan world →
    packet < packets_of plan → HasContents world box contents →
    (handles : Handles plan box port packet contents choices outcome) →
    IsOutcome (length handles.class.ports) (sizes_of plan) (relations_of plan handles.class) outcome
handled_in_range law plan box port packet contents choices outcome world sound is less has handles =
    law (surroundings_of plan handles.class) [] (environment_of plan handles.class packet) handles.handler contents
    choices [] outcome
    (ready plan sound box handles.box_plan handles.class handles.at_box port packet handles.handler contents less
    handles.at_port
    (is.contents_fit box handles.box_plan handles.class contents handles.at_box has))
    handles.executes

pub contents_put : (plan : Plan) (box : ℕ) (box_plan : BoxPlan) (class : ClassPlan) (contents : List Entry)
    (world : World) → IsBoxAt plan box box_plan class →
    AreContents (relations_of plan class) contents → IsWorld plan world →
    IsWorld plan (with_contents world box contents)
contents_put plan box box_plan class contents world at_box are is =
    contents_changed plan world box contents is
    (λ other another also. subst (λ (c : ClassPlan). AreContents (relations_of plan c) contents)
    (same_class plan box box_plan other class another at_box also) are)

reacts_keep : (plan : Plan) (box packet : ℕ) (box_plan : BoxPlan) (class : ClassPlan) (outcome : Outcome)
    (old new : World) (event : Event) → IsBoxAt plan box box_plan class →
    IsOutcome (length class.ports) (sizes_of plan) (relations_of plan class) outcome → IsWorld plan old →
    Reacts plan box packet outcome old event new → IsWorld plan new
reacts_keep plan box packet box_plan class (Outcome.Done contents emissions) old new event at_box fits is reacts =
    put_out_all_keeps plan box (length class.ports) emissions (with_contents old box contents) new fits.1
    (contents_put plan box box_plan class contents old at_box fits.0 is) reacts.1
reacts_keep plan box packet box_plan class Outcome.Aborted old new event at_box fits is reacts =
    subst (IsWorld plan) (sym reacts.1) is

box_delivery_keeps : OutcomeIsInRange →
    (plan : Plan) (mode : Mode) (end packet : ℕ) (choices : List ℕ) (old new : World) (event : Event) → IsSound plan →
    IsWorld plan old →
    IsBoxDelivery plan mode end packet choices old event new → IsWorld plan new
box_delivery_keeps law plan mode end packet choices old new event sound is leads =
    reacts_keep plan leads.box packet leads.handles.box_plan leads.handles.class leads.outcome leads.left new event
    leads.handles.at_box
    (handled_in_range law plan leads.box leads.port packet leads.contents choices leads.outcome old sound is
    leads.packet_in_range leads.has leads.handles)
    (taken_keeps plan mode end packet old leads.left is leads.taken) leads.reacts

pub step_keeps_world : OutcomeIsInRange → (plan : Plan) (mode : Mode) (step : Step) (old new : World) (event : Event) →
    IsSound plan → IsWorld plan old → Leads plan mode old step event new → IsWorld plan new
step_keeps_world law plan mode (Send host packet) old new event sound is leads =
    put_out_keeps plan leads.end packet old new leads.packet_in_range is leads.put_out
step_keeps_world law plan mode (Deliver end packet choices) old new event sound is (inl leads) =
    taken_keeps plan mode end packet old new is leads.taken
step_keeps_world law plan mode (Deliver end packet choices) old new event sound is (inr leads) =
    box_delivery_keeps law plan mode end packet choices old new event sound is leads
step_keeps_world law plan mode (Revert box) old new event sound is leads =
    subst (IsWorld plan) (sym leads.leaves)
    (contents_changed plan old box leads.box_plan.first is (λ box_plan class at_box.
    let same : box_plan ≡ leads.box_plan = some_inside (sym at_box.numbered ∙ leads.numbered) in
    subst (λ (b : BoxPlan). AreContents (relations_of plan class) b.first) same
    (first_fits plan sound box box_plan class at_box)))

pub run_keeps_world : OutcomeIsInRange →
    (plan : Plan) (mode : Mode) (steps : List Step) (old new : World) (events : List Event) → IsSound plan →
    IsWorld plan old →
    Run plan mode old steps events new → IsWorld plan new
run_keeps_world law plan mode [] old new events sound is run = subst (IsWorld plan) (sym run.1) is
run_keeps_world law plan mode (step ∷ steps) old new events sound is run =
    run_keeps_world law plan mode steps run.2 new run.1 sound
    (step_keeps_world law plan mode step old run.2 run.0 sound is run.4) run.5
