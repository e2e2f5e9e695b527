-- What a handler runs on in a sound plan.
use Rattle.std.proofs.Common.{◌≡◌, ℕ, ◌<◌, ◌≤◌, List, [], Some, length, get_or, sym, ap, subst, ◌∙◌, arith}
use Rattle.std.specs.Prelude.{slice_get}
use Rattle.std.specs.Option.{option_map}
use Rattle.std.proofs.lemmas.Option.{slice_get-map, slice_get-get_or}
use Rattle.std.proofs.lemmas.List.Elements.{All-map}
use Rattle.box_contents.specs.declared.entry.Entry.{Entry}
use Rattle.box_handlers.specs.declared.act.Act.{Act}
use Rattle.box_handlers.specs.Tuple.{tuples_over}
use Rattle.box_executions.specs.Environment.{Environment}
use Rattle.box_executions.specs.Shape.{IsTuple, AreContents}
use Rattle.box_masks.specs.Writes.{AreContentsOf}
use Rattle.handler_runs.specs.Executing.{environment, IsExecutable}
use Rattle.net_plan.specs.declared.plan.Plan.{Plan}
use Rattle.net_plan.specs.declared.plan.ClassPlan.{ClassPlan}
use Rattle.net_plan.specs.Plan.{sizes_of, packets_of, boxes_of, box_at, class_of, ports_of}
use Rattle.net_plan.specs.Plan.{arguments_of, relation_at, tuples_of, surroundings_of}
use Rattle.net_plan.specs.Sound.{IsHandled, IsSmallClass, IsSound}
use Rattle.net_runs.specs.World.{relations_of, environment_of}
use Rattle.net_runs.proofs.ListLemmas.{all_get}
use Rattle.net_runs.proofs.PlanLemmas.{box_is, class_is, box_there, ready}
use Rattle.packet_state.specs.Answers.{class_of_box}

pub tuple_there : (plan : Plan) (class : ClassPlan) (entry : Entry) → entry.relation < length class.relations →
    entry.tuple < tuples_of plan (relation_at class entry.relation) → IsTuple (relations_of plan class) entry
tuple_there plan class entry there less = record {
  sizes = arguments_of plan (relation_at class entry.relation);
  numbered =
      slice_get-map (arguments_of plan) class.relations entry.relation
      ∙ ap (option_map (arguments_of plan))
      (slice_get-get_or class.relations entry.relation (record { name = []; kinds = [] }) there);
  in_range = less;
}

module _ (plan : Plan) (box port packet : ℕ) (headers : List ℕ) (relations : List (List ℕ)) (handler : List Act)
    (contents : List Entry) where
  pub executable : IsSound plan → box < boxes_of plan → port < ports_of plan (box_at plan box) →
      packet < packets_of plan → AreContentsOf plan box contents → headers ≡ sizes_of plan →
      relations ≡ relations_of plan (class_of_box plan box) →
      handler ≡ get_or (class_of_box plan box).handlers port [] →
      IsExecutable (environment headers relations packet) handler contents
  executable sound boxed within less fit headers_are relations_are handler_is =
      let found = box_there plan box sound boxed in
      let same : class_of_box plan box ≡ found.1 =
      ap (class_of plan) (box_is plan box found.0 found.2.numbered)
      ∙ class_is plan found.0 found.1 found.2.of_class in
      let ports : ports_of plan (box_at plan box) ≡ length found.1.ports =
      ap (λ (c : ClassPlan). length c.ports) same in
      let handled : IsHandled plan found.1 =
      all_get (IsHandled plan) plan.classes found.0.class found.1 sound.handlers found.2.of_class in
      let small : IsSmallClass plan found.1 =
      all_get (IsSmallClass plan) plan.classes found.0.class found.1 sound.limits.class found.2.of_class in
      let there : slice_get found.1.handlers port ≡ Some (get_or found.1.handlers port []) =
      slice_get-get_or found.1.handlers port [] (omega (arith, within, ports, handled.one_each)) in
      let handler_at : slice_get found.1.handlers port ≡ Some handler =
      there ∙ ap Some (sym (handler_is ∙ ap (λ (c : ClassPlan). get_or c.handlers port []) same)) in
      let env_is : environment headers relations packet ≡ environment_of plan found.1 packet =
      ap (λ (h : List ℕ). environment h relations packet) headers_are
      ∙ ap (λ (r : List (List ℕ)). environment (sizes_of plan) r packet)
      (relations_are ∙ ap (relations_of plan) same) in
      subst (λ (e : Environment). IsExecutable e handler contents) (sym env_is) (record {
        around = surroundings_of plan found.1;
        ready = ready plan sound box found.0 found.1 found.2 port packet handler contents less handler_at
            (subst (λ (c : ClassPlan). AreContents (relations_of plan c) contents) same fit);
        few = All-map (λ sizes. tuples_over sizes ≤ 65536) (arguments_of plan) found.1.relations small.tuples;
      })
