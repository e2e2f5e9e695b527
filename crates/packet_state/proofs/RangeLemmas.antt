-- What follows from facts is in range.
use Rattle.std.proofs.Common.{length, ◌≡◌, ℕ, ◌<◌, zero, suc, true, false, List, [], ◌∷◌, inl, inr, refl, sym, subst}
use Rattle.std.specs.List.{All, Contains}
use Rattle.std.proofs.lemmas.List.{length-map}
use Rattle.std.proofs.lemmas.List.Elements.{All-nil, All-cons, All-append, All-contains}
use Rattle.header_set.specs.Headers.{product}
use Rattle.box_contents.specs.declared.entry.Entry.{Entry}
use Rattle.box_contents.specs.Contents.{with_entry, without_entry}
use Rattle.box_handlers.specs.declared.act.Change.{Change}
use Rattle.box_handlers.specs.Body.{Body, Stop, Writes, Emit, Halt, Fork, Each, Branches, NoBranch, OneBranch, body_of}
use Rattle.box_executions.specs.Environment.{Environment, entry_in, with_pick}
use Rattle.box_executions.specs.Execution.{Outcome, Done, Aborted, Emission, Behaviour, after_outputs, InSequence}
use Rattle.box_executions.specs.Execution.{PutsOutFirst, UsesChoice, BodyRuns, BranchRuns}
use Rattle.net_plan.specs.declared.plan.Plan.{Plan}
use Rattle.net_plan.specs.declared.fact.Fact.{Fact}
use Rattle.net_plan.specs.declared.fact.Fact.TheVariants.{Out, State, Abort}
use Rattle.net_plan.specs.declared.fact.Place.TheVariants.{Host, Port}
use Rattle.net_plan.specs.Plan.{packets_of, boxes_of}
use Rattle.net_plan.specs.Cells.{IsInRange}
use Rattle.net_plan.proofs.EndLemmas.{port_ends, end_in_range}
use Rattle.net_runs.specs.World.{environment_of}
use Rattle.packet_state.specs.Answers.{class_of_box}
use Rattle.packet_state.specs.Follows.{Meets, Follows}
use Rattle.packet_state.proofs.MaskLemmas.{small_mask}

-- what an execution puts out is a packet, whatever the handler

module _ (headers : List ℕ) where
  abbrev IsSmall : Emission → Type 0
  IsSmall emission = emission.packet < product headers

  abbrev PutsSmall : Outcome → Type 0
  PutsSmall (Done contents outputs) = All IsSmall outputs
  PutsSmall Aborted = Unit {0}

  abbrev LeadsSmall : Behaviour → Type 0
  LeadsSmall runs =
      (contents : List Entry) (choices left : List ℕ) (outcome : Outcome) → runs contents choices outcome left →
      PutsSmall outcome

  after_small : (outputs : List Emission) (outcome : Outcome) → All IsSmall outputs → PutsSmall outcome →
      PutsSmall (after_outputs outputs outcome)
  after_small outputs (Done contents later) are is = All-append IsSmall outputs later are is
  after_small outputs Aborted are is = tt

  in_sequence_small : (block rest : Behaviour) → LeadsSmall block → LeadsSmall rest →
      LeadsSmall (InSequence block rest)
  in_sequence_small block rest first second contents choices left outcome (inl (aborts, ends)) =
      subst PutsSmall (sym ends) tt
  in_sequence_small block rest first second contents choices left outcome (inr goes) =
      subst PutsSmall (sym goes.ends)
      (after_small goes.outputs goes.last
      (first contents choices goes.unused (Done goes.mid goes.outputs) goes.first)
      (second goes.mid goes.unused left goes.last goes.second))

  by_choice_small : (block : ℕ → Behaviour) (rest : Behaviour) → ((choice : ℕ) → LeadsSmall (block choice)) →
      LeadsSmall rest → LeadsSmall (UsesChoice block rest)
  by_choice_small block rest first second contents choices left outcome uses =
      in_sequence_small (block uses.choice) rest (first uses.choice) second contents uses.others left outcome uses.runs

  put_out_small : (env : Environment) (port : ℕ) (changes : List Change) (rest : Behaviour) → headers ≡ env.headers →
      LeadsSmall rest → LeadsSmall (PutsOutFirst env port changes rest)
  put_out_small env port changes rest same second contents choices left outcome puts =
      let emission : Emission = record { port = port; packet = puts.packet } in
      let small : IsSmall emission = subst (λ h. puts.packet < product h) (sym same) puts.changed.in_range in
      subst PutsSmall (sym puts.ends)
      (after_small (emission ∷ []) puts.last (All-cons IsSmall emission [] small (All-nil IsSmall))
      (second contents choices left puts.last puts.second))

mutual
  body_small : (body : Body) (env : Environment) → LeadsSmall env.headers (BodyRuns body env)
  body_small Stop env contents choices left outcome runs =
      subst (PutsSmall env.headers) (sym runs.0) (All-nil (IsSmall env.headers))
  body_small (Writes query true rest) env contents choices left outcome runs =
      body_small rest env (with_entry contents (entry_in env query)) choices left outcome runs
  body_small (Writes query false rest) env contents choices left outcome runs =
      body_small rest env (without_entry contents (entry_in env query)) choices left outcome runs
  body_small (Emit port changes rest) env contents choices left outcome runs =
      put_out_small env.headers env port changes (BodyRuns rest env) refl (body_small rest env) contents choices left
      outcome runs
  body_small (Halt rest) env contents choices left outcome runs = subst (PutsSmall env.headers) (sym runs.0) tt
  body_small (Fork branches rest) env contents choices left outcome (inl (none, runs)) =
      body_small rest env contents choices left outcome runs
  body_small (Fork branches rest) env contents choices left outcome (inr uses) =
      by_choice_small env.headers (BranchRuns branches env) (BodyRuns rest env) (branches_small branches env)
      (body_small rest env) contents choices left outcome uses
  body_small (Each values body rest) env contents choices left outcome uses =
      by_choice_small env.headers (λ value s c o l. (value < values) × BodyRuns body (with_pick env value) s c o l)
      (BodyRuns rest env) (λ value s c l o x. body_small body (with_pick env value) s c l o x.1)
      (body_small rest env) contents choices left outcome uses

  branches_small : (branches : Branches) (env : Environment) (number : ℕ) →
      LeadsSmall env.headers (BranchRuns branches env number)
  branches_small NoBranch env number contents choices left outcome runs = absurd runs
  branches_small (OneBranch guard body more) env zero contents choices left outcome runs =
      body_small body env contents choices left outcome runs.1
  branches_small (OneBranch guard body more) env (suc number) contents choices left outcome runs =
      branches_small more env number contents choices left outcome runs

sent_small : (plan : Plan) (end packet box mask : ℕ) (contents left : List Entry) (outputs : List Emission)
    (emission : Emission) → Meets plan end packet box mask contents (Done left outputs) →
    Contains outputs emission → emission.packet < packets_of plan
sent_small plan end packet box mask contents left outputs emission meets there =
    let env : Environment = environment_of plan meets.handles.class packet in
    All-contains (IsSmall env.headers) outputs emission
    (body_small (body_of meets.handles.handler) env contents meets.choices [] (Done left outputs)
    meets.handles.executes)
    there

pub box_below : {plan : Plan} {end packet box mask : ℕ} {contents : List Entry} {outcome : Outcome} →
    Meets plan end packet box mask contents outcome → box < boxes_of plan
box_below {plan = plan} {box = box} meets = ((port_ends plan meets.other box meets.port).0 meets.at_port).0

pub follows_in_range : (plan : Plan) (premises : List Fact) (fact : Fact) → Follows plan premises fact →
    IsInRange plan fact
follows_in_range plan [] (Out end packet) sent =
    (end_in_range plan end (Host sent.host) sent.at_host, sent.packet_in_range)
follows_in_range plan [] (State box packet mask) first = (
  first.box_in_range,
  first.packet_in_range,
  small_mask _ (length (class_of_box plan box).queries) _ (length-map (class_of_box plan box).queries _) first.answered,
)
follows_in_range plan [] (Abort box packet) never = absurd never
follows_in_range plan (Out end packet ∷ State box at mask ∷ []) (Out to sent) (same, fires) = (
  end_in_range plan to (Port box fires.port) fires.at_port,
  sent_small plan end packet box mask fires.contents fires.left fires.outputs (record {
    port = fires.port;
    packet =
        sent;
  })
      fires.meets fires.put_out,
)
follows_in_range plan (Out end packet ∷ State box at mask ∷ []) (State other second after) (same, never) = absurd never
follows_in_range plan (Out end packet ∷ State box at mask ∷ []) (Abort other also) (same, (here, twice, aborts)) = (
  subst (λ (b : ℕ). b < boxes_of plan) (sym here)
      (box_below aborts.meets),
  subst (λ (p : ℕ). p < packets_of plan) (sym twice) aborts.meets.packet_in_range,
)
follows_in_range plan (Out end packet ∷ State box at mask ∷ State too second before ∷ []) (State other also after)
    (same, alike, here, twice, changes) =
    subst (λ (b : ℕ). IsInRange plan (State b also after)) (sym here)
    (subst (λ (q : ℕ). IsInRange plan (State box q after)) (sym twice) (
      box_below changes.meets,
      changes.second_in_range,
      small_mask _ (length (class_of_box plan box).queries) _ (length-map (class_of_box plan box).queries _) changes.leaves,
    ))
follows_in_range plan _ fact never = absurd never
