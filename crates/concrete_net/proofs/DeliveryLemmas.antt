-- Deliveries, and why they are refused.
use Rattle.std.proofs.Common.{◌≡◌, ◌≢◌, ℕ, ◌<◌, List, [], refl, sym, ap, subst, ◌∙◌, ◌⊎◌, inl, MatchResult}
use Rattle.std.specs.Prelude.{Result, Ok, Err, slice_get}
use Rattle.std.specs.List.{Contains, remove}
use Rattle.net_plan.specs.declared.plan.Plan.{Plan}
use Rattle.net_plan.specs.declared.fact.Place.TheVariants.{Host}
use Rattle.net_plan.specs.Plan.{packets_of}
use Rattle.net_plan.specs.Sound.{IsSound}
use Rattle.net_plan.specs.Ends.{ends_of, IsEndAt, IsLinked}
use Rattle.net_plan.proofs.Linked.{partner_is_unique, linked_back}
use Rattle.net_runs.specs.declared.world.Step.TheVariants.{Deliver}
use Rattle.net_runs.specs.declared.world.Event.{Event}
use Rattle.net_runs.specs.declared.world.Event.TheVariants.{Delivered}
use Rattle.net_runs.specs.declared.world.World.{World}
use Rattle.net_runs.specs.World.{Waits, with_waiting, IsTaken}
use Rattle.net_runs.specs.Laws.{IsWaiting}
use Rattle.net_runs.proofs.ListLemmas.{some_inside}
use Rattle.concrete_net.specs.declared.refusal.StepRefusal.{StepRefusal}
use Rattle.concrete_net.specs.declared.refusal.StepRefusal.TheVariants.{NoSuch, NotSent, NoCopy, NotHead, BadChoice}
use Rattle.concrete_net.specs.declared.refusal.StepRefusal.TheVariants.{NoMemory}
use Rattle.concrete_net.specs.Seen.{Seen}
use Rattle.concrete_net.specs.Refused.{IsCause}
use Rattle.concrete_net.specs.Answered.{IsAnswer}
use Rattle.concrete_net.specs.Taking.{MissesNext, StandsNext, IsShortened}
use Rattle.concrete_net.proofs.TakeLemmas.{taken_out, copy_there}

abbrev IsRefusedFor : Plan → Seen → ℕ → ℕ → List ℕ → StepRefusal → Type 0
IsRefusedFor plan old end packet choices refusal =
    IsCause plan old (Deliver end packet choices) refusal ⊎ (refusal ≡ NoMemory)

module _ (plan : Plan) (old : Seen) (end packet : ℕ) (choices : List ℕ) (at : end < ends_of plan)
    (less : packet < packets_of plan) where
  pub no_link : ((other : ℕ) → IsLinked plan end other → ⊥) → IsCause plan old (Deliver end packet choices) NoCopy
  no_link none = ((at, less), λ from packets linked waits there. none from (linked_back plan from end linked))

  pub missed : IsSound plan → (from : ℕ) (packets : List ℕ) (refusal : StepRefusal) → IsLinked plan end from →
      Waits old.world from packets → MissesNext old.mode packet packets refusal →
      IsRefusedFor plan old end packet choices refusal
  missed sound from packets NoSuch linked waits misses = absurd misses
  missed sound from packets NotSent linked waits misses = absurd misses
  missed sound from packets NoCopy linked waits misses = inl (
    (at, less),
    λ other others also wait there.
        let same : other ≡ from =
        partner_is_unique plan end other from sound (linked_back plan other end also) linked in
        let one : others ≡ packets =
        some_inside (sym wait ∙ ap (slice_get old.world.waiting) same ∙ waits) in
        misses (subst (λ (l : List ℕ). Contains l packet) one there),
  )
  missed sound from packets NotHead linked waits misses = inl (
    (at, less),
    (
      misses.0,
      record {
        from = from;
        linked = linked_back plan end from linked;
        packets = packets;
        waits = waits;
        waiting = misses.1;
        behind = misses.2;
      },
    ),
  )
  missed sound from packets (BadChoice k) linked waits misses = absurd misses
  missed sound from packets NoMemory linked waits misses = absurd misses

  module _ (from place : ℕ) (stands : StandsNext plan old.mode old.world end packet from place) where
    pub is_waiting : IsWaiting plan old.mode end packet old.world
    is_waiting = record {
      from = from;
      linked = linked_back plan end from stands.linked;
      packets = stands.packets;
      waits = stands.waits;
      waiting = copy_there packet stands.packets place stands.at.copy;
      next = stands.at.next;
    }

    pub is_taken : (new : World) → new ≡ with_waiting old.world from (remove stands.packets place) →
        IsTaken plan old.mode end packet old.world new
    is_taken new leaves = record {
      from = from;
      linked = linked_back plan end from stands.linked;
      packets = stands.packets;
      waits = stands.waits;
      next = stands.at.next;
      others = remove stands.packets place;
      takes = taken_out packet stands.packets place stands.at.copy;
      leaves = leaves;
    }

    pub host_answer : (host : ℕ) (new : Seen) (result : Result Event StepRefusal) → IsEndAt plan end (Host host) →
        MatchResult result
        (λ event. (choices ≡ []) × (event ≡ Delivered host packet) × IsShortened from place old new)
        (λ refusal. (choices ≢ []) × (refusal ≡ BadChoice 0) × (new ≡ old)) →
        IsAnswer plan old (Deliver end packet choices) result new
    host_answer host new (Ok event) at_host done =
        let is : new ≡ record { mode = old.mode; world = with_waiting old.world from (remove stands.packets place) } =
        done.2 stands.packets stands.waits in (
          ap (λ (s : Seen). s.mode) is,
          inl record {
            host = host;
            at_host = at_host;
            packet_in_range = less;
            taken = is_taken new.world (ap (λ (s : Seen). s.world) is);
            no_choices = done.0;
            happens = done.1;
          },
        )
    host_answer host new (Err refusal) at_host refused = (
      refused.2,
      subst (IsRefusedFor plan old end packet choices) (sym refused.1)
          (inl (
            (at, less),
            inl record { host = host; at_host = at_host; waiting = is_waiting; some = refused.0; first = refl },
          )),
    )
