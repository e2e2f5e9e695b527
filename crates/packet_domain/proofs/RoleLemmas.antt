-- What is offered for a delivery and for a change, in terms of what follows.
use Rattle.std.proofs.Common.{◌≡◌, ℕ, ◌<◌, ◌⊎◌, inl, inr, List, [], ◌∷◌, subst}
use Rattle.fix_engine.specs.Progress.{Progress}
use Rattle.net_plan.specs.declared.plan.Plan.{Plan}
use Rattle.net_plan.specs.declared.fact.Fact.{Fact}
use Rattle.net_plan.specs.declared.fact.Fact.TheVariants.{Out, State, Abort}
use Rattle.net_plan.specs.Plan.{packets_of, box_at, ports_of}
use Rattle.net_plan.specs.Laws.{PartnerIsUnique}
use Rattle.net_plan.specs.Sound.{IsSound}
use Rattle.net_plan.proofs.EndLemmas.{port_ends}
use Rattle.packet_state.specs.Follows.{Follows}
use Rattle.abstract_step.specs.Step.{Result}
use Rattle.packet_domain.specs.declared.inlet.Inlet.{Inlet}
use Rattle.move_table.specs.Offered.{Offered, IsDone}
use Rattle.packet_domain.specs.Inlet.{IsInlet}
use Rattle.packet_domain.specs.Reasons.{LeadsTo, SomeGives, AgreeingChanges, ChangesAll, IsDelivered, IsDeliveredFrom}
use Rattle.packet_domain.specs.Reasons.{DeliversTo, AsOut, AsState, AsStateAt, AsChangedFrom, AsChangedAt}
use Rattle.packet_domain.specs.Reasons.{AsChanged}
use Rattle.packet_domain.specs.Laws.{IsExact}
use Rattle.move_table.proofs.OfferedLemmas.{offered_as, offered_both, offered_none}
use Rattle.packet_domain.proofs.PlaceLemmas.{leads_once, once_before}

module _ (plan : Plan) (end packet box mask : ℕ) (results : List Result)
    (exact : IsExact plan end packet box mask results) where
  -- all that follows from a delivery
  pub delivered : (old mid new : Progress) → Offered plan (SomeGives plan box packet results) old mid →
      Offered plan (ChangesAll plan mid.done box packet mask results) mid new →
      Offered plan (IsDelivered plan old.done end packet box mask) old new
  delivered old mid new first second =
      offered_as plan
      (λ fact. SomeGives plan box packet results fact ⊎ ChangesAll plan old.done box packet mask results fact)
      (IsDelivered plan old.done end packet box mask) old new
      (λ fact in' holds. elim holds [
        | inl gives ↦ inl ((exact.gives fact).0 gives)
        | inr all ↦ inr
            (all.0, all.2.0, all.2.1, (exact.changes all.0 all.2.0 fact all.1).0 all.2.2)
      ])
      (λ fact in' holds. elim holds [
        | inl follows ↦ inl ((exact.gives fact).1 follows)
        | inr more ↦ inr
            (more.0, more.2.0.1, (more.1, more.2, (exact.changes more.0 more.1 fact more.2.0.1).1 more.3))
      ])
      (offered_both plan (SomeGives plan box packet results) (ChangesAll plan old.done box packet mask results) old mid new
      first
      (subst (λ (d : List ℕ). Offered plan (ChangesAll plan d box packet mask results) mid new) first.grows.done second))

  pub changed : (second before : ℕ) (old new : Progress) → second < packets_of plan →
      Offered plan (AgreeingChanges plan box packet mask results second before) old new →
      Offered plan (Follows plan (Out end packet ∷ State box packet mask ∷ State box second before ∷ [])) old new
  changed second before old new small offered =
      offered_as plan (AgreeingChanges plan box packet mask results second before)
      (Follows plan (Out end packet ∷ State box packet mask ∷ State box second before ∷ [])) old new
      (λ fact in' holds. (exact.changes second before fact small).0 holds)
      (λ fact in' follows. (exact.changes second before fact small).1 follows) offered

-- where something follows, the end is linked to a port of the box
pub led : (plan : Plan) (end packet box mask : ℕ) (fact : Fact) →
    Follows plan (Out end packet ∷ State box packet mask ∷ []) fact → (port : ℕ) × LeadsTo plan end box port
led plan end packet box mask (Out to sent) (same, fires) =
    (fires.meets.port, (fires.meets.other, fires.meets.linked, fires.meets.at_port))
led plan end packet box mask (State other second after) (same, never) = absurd never
led plan end packet box mask (Abort other also) (same, (here, twice, aborts)) =
    (aborts.meets.port, (aborts.meets.other, aborts.meets.linked, aborts.meets.at_port))

pub led_too : (plan : Plan) (end packet box mask second before : ℕ) (fact : Fact) →
    Follows plan (Out end packet ∷ State box packet mask ∷ State box second before ∷ []) fact →
    (port : ℕ) × LeadsTo plan end box port
led_too plan end packet box mask second before (Out to sent) never = absurd never
led_too plan end packet box mask second before (State other also after) (same, here, there, twice, change) =
    (change.meets.port, (change.meets.other, change.meets.linked, change.meets.at_port))
led_too plan end packet box mask second before (Abort other also) never = absurd never

pub led_by : (plan : Plan) (done : List ℕ) (end packet box mask : ℕ) (fact : Fact) →
    IsDelivered plan done end packet box mask fact → (port : ℕ) × LeadsTo plan end box port
led_by plan done end packet box mask fact (inl follows) = led plan end packet box mask fact follows
led_by plan done end packet box mask fact (inr (second, before, known, follows)) =
    led_too plan end packet box mask second before fact follows

pub port_below : (plan : Plan) (end box port : ℕ) → LeadsTo plan end box port → port < ports_of plan (box_at plan box)
port_below plan end box port leads = ((port_ends plan leads.0 box port).0 leads.2).1

module _ (unique : PartnerIsUnique) (plan : Plan) (sound : IsSound plan) (done : List ℕ) (old new : Progress) where
  -- a packet that is put out
  pub as_out : (inlet : Inlet) → IsInlet plan inlet → (packet : ℕ) →
      Offered plan (DeliversTo plan done inlet.end packet inlet.b) old new →
      Offered plan (AsOut plan done inlet.end packet) old new
  as_out inlet is packet offered =
      offered_as plan (DeliversTo plan done inlet.end packet inlet.b) (AsOut plan done inlet.end packet) old new
      (λ fact in' delivers. (inlet.b, delivers))
      (λ fact in' out.
      let leads = led_by plan done inlet.end packet out.0 out.1.0 fact out.1.2 in
      let same : out.0 ≡ inlet.b =
      leads_once unique plan sound inlet.end is.leads.0 is.leads.1 out.0 leads.0 inlet.b inlet.port leads.1 is.leads in
      subst (λ (b : ℕ). DeliversTo plan done inlet.end packet b fact) same out.1)
      offered

  pub as_no_out : (end packet : ℕ) → ((box port : ℕ) → LeadsTo plan end box port → ⊥) →
      Offered plan (AsOut plan done end packet) old old
  as_no_out end packet none =
      offered_none plan (AsOut plan done end packet) old
      (λ fact in' out. let leads = led_by plan done end packet out.0 out.1.0 fact out.1.2 in
      none out.0 leads.0 leads.1)

  -- answers at a packet that comes, through one port and through all
  pub as_state_at : (inlet : Inlet) → IsInlet plan inlet → (packet mask : ℕ) →
      Offered plan (IsDeliveredFrom plan done inlet.end packet inlet.b mask) old new →
      Offered plan (AsStateAt plan done inlet.b packet mask inlet.port) old new
  as_state_at inlet is packet mask offered =
      offered_as plan (IsDeliveredFrom plan done inlet.end packet inlet.b mask)
      (AsStateAt plan done inlet.b packet mask inlet.port) old new
      (λ fact in' from. (inlet.end, is.leads, from))
      (λ fact in' at. subst (λ (e : ℕ). IsDeliveredFrom plan done e packet inlet.b mask fact)
      (once_before unique plan sound at.0 inlet.end inlet.b inlet.port at.1 is.leads) at.2)
      offered

  pub as_no_state_at : (box packet mask port : ℕ) → ((end : ℕ) → LeadsTo plan end box port → ⊥) →
      Offered plan (AsStateAt plan done box packet mask port) old old
  as_no_state_at box packet mask port none =
      offered_none plan (AsStateAt plan done box packet mask port) old (λ fact in' at. none at.0 at.1)

  -- the answers that are changed
  pub as_changed_at : (inlet : Inlet) → IsInlet plan inlet → (second before : ℕ) →
      Offered plan (AsChangedFrom plan done inlet.end inlet.b second before) old new →
      Offered plan (AsChangedAt plan done inlet.b second before inlet.port) old new
  as_changed_at inlet is second before offered =
      offered_as plan (AsChangedFrom plan done inlet.end inlet.b second before)
      (AsChangedAt plan done inlet.b second before inlet.port) old new
      (λ fact in' from. (inlet.end, is.leads, from))
      (λ fact in' at. subst (λ (e : ℕ). AsChangedFrom plan done e inlet.b second before fact)
      (once_before unique plan sound at.0 inlet.end inlet.b inlet.port at.1 is.leads) at.2)
      offered

  pub as_not_changed_at : (box second before port : ℕ) → ((end : ℕ) → LeadsTo plan end box port → ⊥) →
      Offered plan (AsChangedAt plan done box second before port) old old
  as_not_changed_at box second before port none =
      offered_none plan (AsChangedAt plan done box second before port) old (λ fact in' at. none at.0 at.1)

module _ (plan : Plan) (done : List ℕ) (old new : Progress) (box : ℕ) where
  abbrev Ports : ℕ
  Ports = ports_of plan (box_at plan box)

  pub as_state : (packet mask : ℕ) →
      Offered plan (λ fact. (port : ℕ) × (port < Ports) × AsStateAt plan done box packet mask port fact) old new →
      Offered plan (AsState plan done box packet mask) old new
  as_state packet mask offered =
      offered_as plan (λ fact. (port : ℕ) × (port < Ports) × AsStateAt plan done box packet mask port fact)
      (AsState plan done box packet mask) old new
      (λ fact in' at. (at.2.0, at.2.2))
      (λ fact in' state. let leads = led_by plan done state.0 packet box mask fact state.1.1 in
      (leads.0, port_below plan state.0 box leads.0 leads.1, (state.0, leads.1, state.1)))
      offered

  pub as_changed : (second before : ℕ) →
      Offered plan (λ fact. (port : ℕ) × (port < Ports) × AsChangedAt plan done box second before port fact) old new →
      Offered plan (AsChanged plan done box second before) old new
  as_changed second before offered =
      offered_as plan (λ fact. (port : ℕ) × (port < Ports) × AsChangedAt plan done box second before port fact)
      (AsChanged plan done box second before) old new
      (λ fact in' at. (at.2.0, at.2.2))
      (λ fact in' change.
      let leads = led_too plan change.0 change.1.0 box change.1.2.0 second before fact change.1.2.2 in
      (leads.0, port_below plan change.0 box leads.0 leads.1, (change.0, leads.1, change.1)))
      offered

  -- where the packet is put out, or not
  pub where_done : (end packet mask : ℕ) → IsDone plan done (Out end packet) →
      Offered plan (IsDelivered plan done end packet box mask) old new →
      Offered plan (IsDeliveredFrom plan done end packet box mask) old new
  where_done end packet mask known offered =
      offered_as plan (IsDelivered plan done end packet box mask) (IsDeliveredFrom plan done end packet box mask) old new
      (λ fact in' holds. (known, holds)) (λ fact in' holds. holds.1) offered

  pub where_not_done : (end packet mask : ℕ) → (IsDone plan done (Out end packet) → ⊥) →
      Offered plan (IsDeliveredFrom plan done end packet box mask) old old
  where_not_done end packet mask none =
      offered_none plan (IsDeliveredFrom plan done end packet box mask) old (λ fact in' holds. none holds.0)
