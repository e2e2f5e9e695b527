-- Deliveries at ports: what a handler runs on, and what comes of it.
use Rattle.std.proofs.Common.{◌≡◌, ℕ, ◌<◌, ◌≤◌, List, [], ◌∷◌, Some, map, length, get_or, refl, sym, ap, subst, ◌∙◌}
use Rattle.std.proofs.Common.{◌⊎◌}
use Rattle.std.proofs.Common.{inl, inr, MatchResult, arith}
use Rattle.std.specs.Prelude.{Result, Ok, Err, slice_get}
use Rattle.std.specs.List.{All, AllByRecursion, remove}
use Rattle.std.specs.Option.{option_map}
use Rattle.std.proofs.lemmas.Option.{slice_get-map, slice_get-get_or, get_or_from_slice_get}
use Rattle.std.proofs.lemmas.List.Elements.{All-map, All-from_recursion, recursion_from_All}
use Rattle.box_contents.specs.declared.entry.Entry.{Entry}
use Rattle.box_handlers.specs.declared.act.Act.{Act}
use Rattle.box_handlers.specs.Tuple.{tuples_over}
use Rattle.box_executions.specs.Environment.{Environment}
use Rattle.box_executions.specs.Execution.{Outcome, Executes}
use Rattle.box_executions.specs.Shape.{IsEmission}
use Rattle.box_executions.specs.Laws.{OutcomeIsInRange}
use Rattle.handler_runs.specs.declared.progress.Emission.{Emission as Sent}
use Rattle.handler_runs.specs.declared.handling.Ending.{Ending}
use Rattle.handler_runs.specs.declared.handling.Ending.TheVariants as ending
use Rattle.handler_runs.specs.declared.handling.ExecuteRefusal.{ExecuteRefusal}
use Rattle.handler_runs.specs.declared.handling.ExecuteRefusal.TheVariants as refusal
use Rattle.handler_runs.specs.Code.{emission_of}
use Rattle.handler_runs.specs.Executing.{environment, IsExecutable, outcome_of, IsRefused}
use Rattle.net_plan.specs.declared.plan.Plan.{Plan}
use Rattle.net_plan.specs.declared.plan.BoxPlan.{BoxPlan}
use Rattle.net_plan.specs.declared.plan.ClassPlan.{ClassPlan}
use Rattle.net_plan.specs.declared.fact.Place.TheVariants.{Port}
use Rattle.net_plan.specs.Plan.{sizes_of, packets_of, boxes_of, box_at, class_of, ports_of, arguments_of}
use Rattle.net_plan.specs.Plan.{surroundings_of}
use Rattle.net_plan.specs.Sound.{IsHandled, IsSmallClass, IsSound}
use Rattle.net_plan.specs.Ends.{ends_of, IsEndAt}
use Rattle.net_runs.specs.declared.world.Step.TheVariants.{Deliver}
use Rattle.net_runs.specs.declared.world.Event.{Event}
use Rattle.net_runs.specs.declared.world.Event.TheVariants.{Aborted}
use Rattle.net_runs.specs.declared.world.World.{World}
use Rattle.net_runs.specs.World.{with_waiting, HasContents, IsBoxAt, relations_of, IsWorld, environment_of, Handles}
use Rattle.net_runs.proofs.ListLemmas.{all_get}
use Rattle.net_runs.proofs.PlanLemmas.{box_is, class_is, box_there, ready}
use Rattle.net_runs.proofs.WorldLemmas.{handled_in_range}
use Rattle.concrete_net.specs.declared.refusal.StepRefusal.{StepRefusal}
use Rattle.concrete_net.specs.declared.refusal.StepRefusal.TheVariants.{NoMemory}
use Rattle.concrete_net.specs.Seen.{Seen}
use Rattle.concrete_net.specs.Refused.{IsCause}
use Rattle.concrete_net.specs.Answered.{StepsTo, IsAnswer}
use Rattle.concrete_net.specs.Executed.{IsExecuted, IsExchanged, refusal_of}
use Rattle.concrete_net.specs.Sizes.{argument_sizes}
use Rattle.concrete_net.specs.Taking.{StandsNext, IsShortened}
use Rattle.concrete_net.proofs.DeliveryLemmas.{is_waiting, is_taken}

-- what the handler of the port runs on is as read
pub record IsSetting (plan : Plan) (box port packet : ℕ) (env : Environment) (handler : List Act) : Type 0 where
  pub box_plan : BoxPlan
  pub class : ClassPlan
  pub at_box : IsBoxAt plan box box_plan class
  pub handles : slice_get class.handlers port ≡ Some handler
  pub env_is : env ≡ environment_of plan class packet

module _ (plan : Plan) (sound : IsSound plan) (box port packet : ℕ) (boxed : box < boxes_of plan)
    (within : port < ports_of plan (box_at plan box)) where
  class_same : (box_plan : BoxPlan) (class : ClassPlan) → IsBoxAt plan box box_plan class →
      class_of plan (box_at plan box) ≡ class
  class_same box_plan class at_box =
      ap (class_of plan) (box_is plan box box_plan at_box.numbered) ∙ class_is plan box_plan class at_box.of_class

  sizes_read : (box_plan : BoxPlan) (class : ClassPlan) → IsBoxAt plan box box_plan class →
      get_or (argument_sizes plan) box [] ≡ relations_of plan class
  sizes_read box_plan class at_box =
      let found : slice_get (argument_sizes plan) box ≡ Some (relations_of plan (class_of plan box_plan)) =
      slice_get-map (λ (one : BoxPlan). relations_of plan (class_of plan one)) plan.boxes box
      ∙ ap (option_map (λ (one : BoxPlan). relations_of plan (class_of plan one))) at_box.numbered in
      get_or_from_slice_get (argument_sizes plan) box (relations_of plan (class_of plan box_plan)) [] found
      ∙ ap (relations_of plan) (class_is plan box_plan class at_box.of_class)

  pub setting : (headers : List ℕ) (relations : List (List ℕ)) (handler : List Act) → headers ≡ sizes_of plan →
      relations ≡ get_or (argument_sizes plan) box [] →
      handler ≡ get_or (class_of plan (box_at plan box)).handlers port [] →
      IsSetting plan box port packet (environment headers relations packet) handler
  setting headers relations handler headers_are relations_are handler_is =
      let found = box_there plan box sound boxed in
      let same : class_of plan (box_at plan box) ≡ found.1 = class_same found.0 found.1 found.2 in
      let ports : ports_of plan (box_at plan box) ≡ length found.1.ports =
      ap (λ (c : ClassPlan). length c.ports) same in
      let handled : IsHandled plan found.1 =
      all_get (IsHandled plan) plan.classes found.0.class found.1 sound.handlers found.2.of_class in
      let there : slice_get found.1.handlers port ≡ Some (get_or found.1.handlers port []) =
      slice_get-get_or found.1.handlers port [] (omega (arith, within, ports, handled.one_each)) in
      record {
        box_plan = found.0;
        class = found.1;
        at_box = found.2;
        handles =
            there ∙ ap Some (sym (handler_is ∙ ap (λ (c : ClassPlan). get_or c.handlers port []) same));
        env_is =
            ap (λ (h : List ℕ). environment h relations packet) headers_are
            ∙ ap (λ (r : List (List ℕ)). environment (sizes_of plan) r packet)
            (relations_are ∙ sizes_read found.0 found.1 found.2);
      }

  module _ (less : packet < packets_of plan) (world : World) (is : IsWorld plan world) where
    pub executable : (env : Environment) (handler : List Act) (contents : List Entry) →
        IsSetting plan box port packet env handler → HasContents world box contents →
        IsExecutable env handler contents
    executable env handler contents set has =
        let small : IsSmallClass plan set.class =
        all_get (IsSmallClass plan) plan.classes set.box_plan.class set.class sound.limits.class set.at_box.of_class in
        subst (λ (e : Environment). IsExecutable e handler contents) (sym set.env_is) (record {
          around = surroundings_of plan set.class;
          ready = ready plan sound box set.box_plan set.class set.at_box port packet handler contents less set.handles
              (is.contents_fit box set.box_plan set.class contents set.at_box has);
          few = All-map (λ sizes. tuples_over sizes ≤ 65536) (arguments_of plan) set.class.relations small.tuples;
        })

pub is_executed : (plan : Plan) (box port packet : ℕ) (world : World) (env : Environment) (handler : List Act)
    (contents : List Entry) (choices : List ℕ) (result : Result Ending ExecuteRefusal) →
    IsSetting plan box port packet env handler → HasContents world box contents →
    MatchResult result (λ ending. Executes env handler contents choices (outcome_of ending))
    (IsRefused env handler contents choices) →
    IsExecuted plan world box port packet choices result
is_executed plan box port packet world env handler contents choices result set has answer = record {
  box_plan = set.box_plan;
  class = set.class;
  at_box = set.at_box;
  handler = handler;
  handles = set.handles;
  contents = contents;
  has = has;
  answer = subst (λ (e : Environment). MatchResult result
      (λ ending. Executes e handler contents choices (outcome_of ending)) (IsRefused e handler contents choices))
      set.env_is answer;
}

-- what the handler puts out goes out of ports that are there

ports_each : (ports : ℕ) (headers : List ℕ) (outputs : List Sent) →
    AllByRecursion (IsEmission ports headers) (map emission_of outputs) →
    AllByRecursion (λ sent. sent.port < ports) outputs
ports_each ports headers [] are = tt
ports_each ports headers (sent ∷ outputs) are = (are.0.port, ports_each ports headers outputs are.1)

module _ (plan : Plan) (box port packet : ℕ) (choices : List ℕ) (world : World) where
  abbrev handles_by : (outcome : Outcome) (ending : Ending) → outcome_of ending ≡ outcome →
      (executed : IsExecuted plan world box port packet choices (Ok ending)) →
      Handles plan box port packet executed.contents choices outcome
  handles_by outcome ending same executed = record {
    box_plan = executed.box_plan;
    class = executed.class;
    at_box = executed.at_box;
    handler = executed.handler;
    at_port = executed.handles;
    executes = subst
        (Executes (environment_of plan executed.class packet) executed.handler executed.contents choices) same
        executed.answer;
  }

  pub ports_there : OutcomeIsInRange → IsSound plan → IsWorld plan world → packet < packets_of plan →
      (contents : List Entry) (outputs : List Sent) →
      IsExecuted plan world box port packet choices (Ok (ending.Done contents outputs)) →
      All (λ sent. sent.port < ports_of plan (box_at plan box)) outputs
  ports_there law sound is less contents outputs executed =
      let handles = handles_by (Outcome.Done contents (map emission_of outputs)) (ending.Done contents outputs) refl
      executed in
      let fits =
      handled_in_range law plan box port packet executed.contents choices
      (Outcome.Done contents (map emission_of outputs)) world sound is less executed.has handles in
      let ports : length executed.class.ports ≡ ports_of plan (box_at plan box) =
      sym (ap (ports_of plan) (box_is plan box executed.box_plan executed.at_box.numbered)
      ∙ ap (λ (c : ClassPlan). length c.ports)
      (class_is plan executed.box_plan executed.class executed.at_box.of_class)) in
      subst (λ (n : ℕ). All (λ sent. sent.port < n) outputs) ports
      (All-from_recursion (λ sent. sent.port < length executed.class.ports) outputs
      (ports_each (length executed.class.ports) (sizes_of plan) outputs
      (recursion_from_All (IsEmission (length executed.class.ports) (sizes_of plan)) (map emission_of outputs)
      fits.1)))

module _ (plan : Plan) (old : Seen) (end packet : ℕ) (choices : List ℕ) (at : end < ends_of plan)
    (less : packet < packets_of plan) (from place : ℕ)
    (stands : StandsNext plan old.mode old.world end packet from place) (box port : ℕ)
    (at_port : IsEndAt plan end (Port box port)) where
  pub done_answer : (contents : List Entry) (outputs : List Sent) (new : Seen) (result : Result Event StepRefusal) →
      IsExecuted plan old.world box port packet choices (Ok (ending.Done contents outputs)) →
      IsExchanged plan from place box contents (map emission_of outputs) old result new →
      IsAnswer plan old (Deliver end packet choices) result new
  done_answer contents outputs new (Ok event) executed done =
      let left : World = with_waiting old.world from (remove stands.packets place) in (
        done.1,
        inr record {
          box = box;
          port = port;
          at_port = at_port;
          packet_in_range = less;
          left = left;
          taken = is_taken plan old end packet choices at less from place stands left refl;
          contents = executed.contents;
          has = executed.has;
          outcome = Outcome.Done contents (map emission_of outputs);
          handles = handles_by plan box port packet choices old.world
              (Outcome.Done contents (map emission_of outputs)) (ending.Done contents outputs) refl executed;
          reacts = (done.0, done.2 stands.packets stands.waits);
        },
      )
  done_answer contents outputs new (Err refused) executed lost = (lost.0, inr lost.1)

  pub aborted_answer : (new : Seen) →
      IsExecuted plan old.world box port packet choices (Ok ending.Aborted) → IsShortened from place old new →
      StepsTo plan old (Deliver end packet choices) (Aborted box packet) new
  aborted_answer new executed shorter =
      let left : World = with_waiting old.world from (remove stands.packets place) in
      let is : new ≡ record { mode = old.mode; world = left } = shorter stands.packets stands.waits in (
        ap (λ (s : Seen). s.mode) is,
        inr record {
          box = box;
          port = port;
          at_port = at_port;
          packet_in_range = less;
          left = left;
          taken = is_taken plan old end packet choices at less from place stands left refl;
          contents = executed.contents;
          has = executed.has;
          outcome = Outcome.Aborted;
          handles = handles_by plan box port packet choices old.world Outcome.Aborted ending.Aborted refl executed;
          reacts = (refl, ap (λ (s : Seen). s.world) is);
        },
      )

  pub refused_answer : (why : ExecuteRefusal) → IsExecuted plan old.world box port packet choices (Err why) →
      IsCause plan old (Deliver end packet choices) (refusal_of why) ⊎ (refusal_of why ≡ NoMemory)
  refused_answer (refusal.BadChoice k) executed = inl (
    (at, less),
    inr record {
      box = box;
      port = port;
      at_port = at_port;
      waiting = is_waiting plan old end packet choices at less from place stands;
      contents = executed.contents;
      has = executed.has;
      box_plan = executed.box_plan;
      class = executed.class;
      at_box = executed.at_box;
      handler = executed.handler;
      handles = executed.handles;
      bad = executed.answer;
    },
  )
  refused_answer refusal.NoMemory executed = inr refl
