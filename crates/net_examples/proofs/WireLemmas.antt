-- The wire network by hand.
use Rattle.std.proofs.Common.{◌≡◌, ℕ, zero, suc, ◌<◌, List, [], ◌∷◌, ◌++◌, Option, Some, None, refl, sym, ap, subst}
use Rattle.std.proofs.Common.{◌∙◌, ◌⊎◌, inl, inr, arith, lit<}
use Rattle.std.specs.Prelude.{slice_get}
use Rattle.std.specs.List.{Any, Contains}
use Rattle.header_set.specs.Headers.{field_of}
use Rattle.header_set.specs.Pattern.{fixed_at, Matches}
use Rattle.net_plan.specs.declared.plan.LinkPlan.{LinkPlan}
use Rattle.net_plan.specs.declared.fact.Fact.{Fact}
use Rattle.net_plan.specs.declared.fact.Fact.TheVariants.{Out, State, Abort}
use Rattle.net_runs.specs.declared.world.Mode.{Mode}
use Rattle.net_runs.specs.declared.world.Mode.TheVariants.{Unordered, Ordered}
use Rattle.net_runs.specs.declared.world.Step.TheVariants.{Send, Deliver}
use Rattle.net_runs.specs.declared.world.Event.{Event}
use Rattle.net_runs.specs.declared.world.Event.TheVariants.{Moved, Delivered}
use Rattle.net_runs.specs.declared.world.World.{World}
use Rattle.net_plan.specs.declared.fact.Place.TheVariants.{Host, Port}
use Rattle.net_plan.specs.Plan.{Sends, Forbids}
use Rattle.net_plan.specs.Ends.{IsEndAt, IsLinkedBy, Joins}
use Rattle.net_runs.specs.World.{first_world, with_waiting, IsNext, IsTaken, PutsOut, Leads, Run}
use Rattle.net_plan.specs.Laws.{wire_plan, DerivableIsSent}
use Rattle.net_runs.specs.Laws.{SafeNetworkRunsSafely}
use Rattle.net_plan.specs.Fact.{IsRising}
use Rattle.net_plan.specs.Follows.{Starts, IsLeast, IsBad, IsForbiddenDelivery}
use Rattle.net_plan.proofs.Rising.{contained_cases, none_contained, head_contained}
use Rattle.net_examples.specs.Wire.{TwiceDelivered, NoThirdDelivery, BadRunByHand, NoOrderedBadRun, NothingElseEnabled}
use Rattle.net_examples.specs.Wire.{SafeWireRunsSafely, safe_wire_plan}

-- two fields of two values
abbrev sizes : List ℕ
sizes = 2 ∷ 2 ∷ []

abbrev first_is : ℕ → List (Option ℕ)
first_is x = Some x ∷ None ∷ None ∷ None ∷ None ∷ None ∷ None ∷ None ∷ []

-- the first field of the packets
field-0-0 : field_of sizes 0 0 ≡ 0
unfolding field_of
field-0-0 = refl

field-1-0 : field_of sizes 1 0 ≡ 0
unfolding field_of
field-1-0 = refl

field-1-1 : field_of sizes 1 1 ≡ 1
unfolding field_of
field-1-1 = refl

field-0-1 : field_of sizes 0 1 ≡ 0
unfolding field_of
field-0-1 = refl

field-2-0 : field_of sizes 2 0 ≡ 1
unfolding field_of
field-2-0 = refl

-- a packet of this first field matches
first_matches : (packet x : ℕ) → field_of sizes packet 0 ≡ x → Matches sizes (first_is x) packet
first_matches packet x has = record { each = λ k y less fixed. each k y less fixed }
  where
    each : (k y : ℕ) → k < 2 → fixed_at (first_is x) k ≡ Some y → field_of sizes packet k ≡ y
    each zero y less fixed = let same : x ≡ y = cc in has ∙ same
    each (suc zero) y less fixed = absurd (cc)
    each (suc (suc k)) y less fixed = absurd (omega arith)

first_of_match : (packet x : ℕ) → Matches sizes (first_is x) packet → field_of sizes packet 0 ≡ x
first_of_match packet x matches = matches.each 0 x (lit< tt) refl

field-3-0 : field_of sizes 3 0 ≡ 1
unfolding field_of
field-3-0 = refl

-- the one link joins the ends 0 and 1
abbrev wire_links : List LinkPlan
wire_links = record { one = 0; two = 1 } ∷ []

linked_to : (from to : ℕ) → IsLinkedBy wire_links from to → ((from ≡ 0) × (to ≡ 1)) ⊎ ((from ≡ 1) × (to ≡ 0))
linked_to from to linked =
    elim (contained_cases (record { one = 0; two = 1 }) linked.0 [] linked.1) [
      | inr none ↦ absurd (none_contained linked.0 none)
      | inl same ↦
          let joins : Joins (record { one = 0; two = 1 }) from to = subst (λ (l : LinkPlan). Joins l from to)
          (sym same) linked.2 in
          elim joins [ inl here ↦ inl (sym here.0, sym here.1) | inr here ↦ inr (sym here.1, sym here.0) ]
    ]

from_zero : (from : ℕ) → IsLinkedBy wire_links from 1 → from ≡ 0
from_zero from linked =
    elim (linked_to from 1 linked) [ inl here ↦ here.0 | inr here ↦ absurd (let no : 1 ≡ 0 = here.1 in omega arith) ]

from_one : (from : ℕ) → IsLinkedBy wire_links from 0 → from ≡ 1
from_one from linked =
    elim (linked_to from 0 linked) [ inl here ↦ absurd (let no : 0 ≡ 1 = here.1 in omega arith) | inr here ↦ here.0 ]

zero_to_one : IsLinkedBy wire_links 0 1
zero_to_one = (record { one = 0; two = 1 }, head_contained (record { one = 0; two = 1 }) [], inl (refl, refl))

-- what waits out of end 0, and nothing out of end 1
abbrev world_of : List ℕ → World
world_of packets = record { waiting = packets ∷ [] ∷ []; contents = [] }

-- the one member of a list of one pattern
one_pattern : (P : List (Option ℕ) → Type 0) (pattern : List (Option ℕ)) → Any P (pattern ∷ []) → P pattern
one_pattern P pattern (zero, found, less, same, holds) = subst P (sym same) holds
one_pattern P pattern (suc k, found, less, same, holds) = absurd (omega arith)

sends_first : (packet : ℕ) → field_of sizes packet 0 ≡ 0 → Sends wire_plan 0 packet
sends_first packet has = (0, first_is 0, lit< tt, refl, first_matches packet 0 has)

sent_first : (packet : ℕ) → Sends wire_plan 0 packet → field_of sizes packet 0 ≡ 0
sent_first packet sends =
    first_of_match packet 0 (one_pattern (λ pattern. Matches sizes pattern packet) (first_is 0) sends)

send_step : (mode : Mode) (packets : List ℕ) (packet : ℕ) → packet < 4 → field_of sizes packet 0 ≡ 0 →
    Leads wire_plan mode (world_of packets) (Send 0 packet) Moved (world_of (packets ++ packet ∷ []))
send_step mode packets packet less has = record {
  end = 0;
  at_host = refl;
  packet_in_range = less;
  sends = sends_first packet has;
  put_out = record {
    linked = λ other _. record { packets = packets; waits = refl; leaves = refl };
    unlinked = λ none. absurd (none 1 zero_to_one);
  };
  happens = refl;
}

deliver_step : (mode : Mode) (front rest : List ℕ) (packet : ℕ) → packet < 4 → (Contains front packet → ⊥) →
    IsNext mode packet (front ++ (packet ∷ rest)) →
    Leads wire_plan mode (world_of (front ++ (packet ∷ rest))) (Deliver 1 packet []) (Delivered 1 packet)
    (world_of (front ++ rest))
deliver_step mode front rest packet less first next = inl record {
  host = 1;
  at_host = refl;
  packet_in_range = less;
  taken = record {
    from = 0;
    linked = zero_to_one;
    packets = front ++ (packet ∷ rest);
    waits = refl;
    next = next;
    others = front ++ rest;
    takes = record { front = front; rest = rest; stood = refl; first = first; taken = refl };
    leaves = refl;
  };
  no_choices = refl;
  happens = refl;
}

next_head : (mode : Mode) (packet : ℕ) (rest : List ℕ) → IsNext mode packet (packet ∷ rest)
next_head Unordered packet rest = tt
next_head Ordered packet rest = (rest, refl)

pub twice_delivered : TwiceDelivered
twice_delivered mode = (
  world_of [],
  (
    Moved,
    Moved ∷ Delivered 1 0 ∷ Delivered 1 0 ∷ [],
    world_of (0 ∷ []),
    refl,
    send_step mode [] 0 (lit< tt) field-0-0,
    (
      Moved,
      Delivered 1 0 ∷ Delivered 1 0 ∷ [],
      world_of (0 ∷ 0 ∷ []),
      refl,
      send_step mode (0 ∷ []) 0 (lit< tt) field-0-0,
      (
        Delivered 1 0,
        Delivered 1 0 ∷ [],
        world_of (0 ∷ []),
        refl,
        deliver_step mode [] (0 ∷ []) 0 (lit< tt) (none_contained 0) (next_head mode 0 (0 ∷ [])),
        (
          Delivered 1 0,
          [],
          world_of [],
          refl,
          deliver_step mode [] [] 0 (lit< tt) (none_contained 0) (next_head mode 0 []),
          (refl, refl),
        ),
      ),
    ),
  ),
)

inside : {X : Type 0} {x y : X} → Some x ≡ Some y → x ≡ y
inside e = cc

-- a host's end has the number of the host
ends_apart : (end host : ℕ) → IsEndAt wire_plan end (Host host) → end ≡ host
ends_apart zero host at = let same : Host 0 ≡ Host host = inside at in cc
ends_apart (suc zero) host at = let same : Host 1 ≡ Host host = inside at in cc
ends_apart (suc (suc end)) host at = absurd (cc)

-- what the steps leave
after_send : (mode : Mode) (packets : List ℕ) (packet : ℕ) (old new : World) (event : Event) → old ≡ world_of packets →
    Leads wire_plan mode old (Send 0 packet) event new →
    new ≡ world_of (packets ++ packet ∷ [])
after_send mode packets packet old new event was leads =
    let first : leads.end ≡ 0 = ends_apart leads.end 0 leads.at_host in
    let out : PutsOut wire_plan 0 packet old new =
    subst (λ (e : ℕ). PutsOut wire_plan e packet old new) first leads.put_out in
    let last = out.linked 1 zero_to_one in
    let waits : last.packets ≡ packets = inside (sym last.waits ∙ ap (λ (w : World). slice_get w.waiting 0) was) in
    last.leaves ∙ ap (λ (l : List ℕ). with_waiting old 0 (l ++ packet ∷ [])) waits
    ∙ ap (λ (w : World). with_waiting w 0 (packets ++ packet ∷ [])) was

-- a delivery to host 1 takes what waits
record HasTaken (mode : Mode) (packets : List ℕ) (packet : ℕ) (new : World) : Type 0 where
  front : List ℕ
  rest : List ℕ
  stood : packets ≡ front ++ (packet ∷ rest)
  first : Contains front packet → ⊥
  next : IsNext mode packet packets
  left : new ≡ world_of (front ++ rest)

-- no end is a port
no_port : (end box port : ℕ) → IsEndAt wire_plan end (Port box port) → ⊥
no_port zero box port at = let same : Host 0 ≡ Port box port = inside at in cc
no_port (suc zero) box port at = let same : Host 1 ≡ Port box port = inside at in cc
no_port (suc (suc end)) box port at = absurd (cc)

taken_shown : (mode : Mode) (packets : List ℕ) (packet : ℕ) (old new : World) → old ≡ world_of packets →
    IsTaken wire_plan mode 1 packet old new → HasTaken mode packets packet new
taken_shown mode packets packet old new was taken =
    let from : taken.from ≡ 0 = from_zero taken.from taken.linked in
    let waits : taken.packets ≡ packets =
    inside (sym taken.waits ∙ ap (slice_get old.waiting) from ∙ ap (λ (w : World). slice_get w.waiting 0) was) in
    record {
      front = taken.takes.front;
      rest = taken.takes.rest;
      stood = sym waits ∙ taken.takes.stood;
      first = taken.takes.first;
      next = subst (IsNext mode packet) waits taken.next;
      left = taken.leaves ∙ ap (λ (f : ℕ). with_waiting old f taken.others) from
          ∙ ap (λ (w : World). with_waiting w 0 taken.others) was ∙ ap world_of taken.takes.taken;
    }

after_delivery : (mode : Mode) (packets : List ℕ) (packet : ℕ) (old new : World) (event : Event) →
    old ≡ world_of packets → Leads wire_plan mode old (Deliver 1 packet []) event new → HasTaken mode packets packet new
after_delivery mode packets packet old new event was (inl leads) =
    taken_shown mode packets packet old new was leads.taken
after_delivery mode packets packet old new event was (inr leads) = absurd (no_port 1 leads.box leads.port leads.at_port)

-- the first copy of the head is the head
pub head_is_first : (packet : ℕ) (packets front rest : List ℕ) → packet ∷ packets ≡ front ++ (packet ∷ rest) →
    (Contains front packet → ⊥) → front ++ rest ≡ packets
head_is_first packet packets [] rest e first = cc
head_is_first packet packets (x ∷ front) rest e first =
    let same : packet ≡ x =
    cc in absurd (first (subst (λ (n : ℕ). Contains (n ∷ front) packet) same (head_contained packet front)))

nothing_first : (packet : ℕ) (front rest : List ℕ) → [] ≡ front ++ (packet ∷ rest) → ⊥
nothing_first packet [] rest e = absurd (cc)
nothing_first packet (x ∷ front) rest e = absurd (cc)

head_taken : (mode : Mode) (packet : ℕ) (packets : List ℕ) (new : World) → HasTaken mode (packet ∷ packets) packet new →
    new ≡ world_of packets
head_taken mode packet packets new taken =
    taken.left ∙ ap world_of (head_is_first packet packets taken.front taken.rest taken.stood taken.first)

pub no_third_delivery : NoThirdDelivery
no_third_delivery mode events last run =
    let one = run.5 in let two = one.5 in let three = two.5 in let four = three.5 in
    let w1 : run.2 ≡ world_of (0 ∷ []) = after_send mode [] 0 (first_world wire_plan) run.2 run.0 refl run.4 in
    let w2 : one.2 ≡ world_of (0 ∷ 0 ∷ []) = after_send mode (0 ∷ []) 0 run.2 one.2 one.0 w1 one.4 in
    let w3 : two.2 ≡ world_of (0 ∷ []) =
    head_taken mode 0 (0 ∷ []) two.2 (after_delivery mode (0 ∷ 0 ∷ []) 0 one.2 two.2 two.0 w2 two.4) in
    let w4 : three.2 ≡ world_of [] =
    head_taken mode 0 [] three.2 (after_delivery mode (0 ∷ []) 0 two.2 three.2 three.0 w3 three.4) in
    let taken = after_delivery mode [] 0 three.2 four.2 four.0 w4 four.4 in
    nothing_first 0 taken.front taken.rest taken.stood

not_zero : Contains {X = ℕ} (0 ∷ []) 1 → ⊥
not_zero there =
    elim (contained_cases 0 1 [] there) [ inl same ↦ absurd (omega arith) | inr none ↦ none_contained 1 none ]

abbrev both : List (Option ℕ)
both = Some 0 ∷ Some 1 ∷ None ∷ None ∷ None ∷ None ∷ None ∷ None ∷ []

forbids_one : Forbids wire_plan 1 1
forbids_one = (0, both, lit< tt, refl, record { each = λ k y less fixed. each k y less fixed })
  where
    each : (k y : ℕ) → k < 2 → fixed_at both k ≡ Some y → field_of sizes 1 k ≡ y
    each zero y less fixed = let same : 0 ≡ y = cc in field-1-0 ∙ same
    each (suc zero) y less fixed = let same : 1 ≡ y = cc in field-1-1 ∙ same
    each (suc (suc k)) y less fixed = absurd (omega arith)

not_forbids_zero : Forbids wire_plan 1 0 → ⊥
not_forbids_zero forbids =
    let matches : Matches sizes both 0 = one_pattern (λ pattern. Matches sizes pattern 0) both forbids in
    let one : field_of sizes 0 1 ≡ 1 = matches.each 1 1 (lit< tt) refl in
    let no : ◌≡◌ {A = ℕ} 0 1 = sym field-0-1 ∙ one in absurd (omega arith)

pub bad_run_by_hand : BadRunByHand
bad_run_by_hand = (
  world_of [],
  record {
    run = (
      Moved,
      Moved ∷ Delivered 1 1 ∷ Delivered 1 0 ∷ [],
      world_of (0 ∷ []),
      refl,
      send_step Unordered [] 0 (lit< tt) field-0-0,
      (
        Moved,
        Delivered 1 1 ∷ Delivered 1 0 ∷ [],
        world_of (0 ∷ 1 ∷ []),
        refl,
        send_step Unordered (0 ∷ []) 1 (lit< tt) field-1-0,
        (
          Delivered 1 1,
          Delivered 1 0 ∷ [],
          world_of (0 ∷ []),
          refl,
          deliver_step Unordered (0 ∷ []) [] 1 (lit< tt) not_zero tt,
          (
            Delivered 1 0,
            [],
            world_of [],
            refl,
            deliver_step Unordered [] [] 0 (lit< tt) (none_contained 0) tt,
            (refl, refl),
          ),
        ),
      ),
    );
    bad = (lit< tt, forbids_one);
    good = λ bad. not_forbids_zero bad.1;
  },
)

pub no_ordered_bad_run : NoOrderedBadRun
no_ordered_bad_run events last run =
    let one = run.5 in let two = one.5 in
    let w1 : run.2 ≡ world_of (0 ∷ []) = after_send Ordered [] 0 (first_world wire_plan) run.2 run.0 refl run.4 in
    let w2 : one.2 ≡ world_of (0 ∷ 1 ∷ []) = after_send Ordered (0 ∷ []) 1 run.2 one.2 one.0 w1 one.4 in
    let taken = after_delivery Ordered (0 ∷ 1 ∷ []) 1 one.2 two.2 two.0 w2 two.4 in
    let head : 0 ∷ 1 ∷ [] ≡ 1 ∷ taken.next.0 = taken.next.1 in
    let no : ◌≡◌ {A = ℕ} 0 1 = cc in absurd (omega arith)

nothing_back : (mode : Mode) (old new : World) → old ≡ world_of (0 ∷ []) → IsTaken wire_plan mode 0 0 old new → ⊥
nothing_back mode old new was taken =
    let from : taken.from ≡ 1 = from_one taken.from taken.linked in
    let waits : taken.packets ≡ [] =
    inside (sym taken.waits ∙ ap (slice_get old.waiting) from ∙ ap (λ (w : World). slice_get w.waiting 1) was) in
    nothing_first 0 taken.takes.front taken.takes.rest (sym waits ∙ taken.takes.stood)

at_sender : (mode : Mode) (events : List Event) (last : World) →
    Run wire_plan mode (first_world wire_plan) (Send 0 0 ∷ Deliver 0 0 [] ∷ []) events last → ⊥
at_sender mode events last run =
    let one = run.5 in
    let w1 : run.2 ≡ world_of (0 ∷ []) = after_send mode [] 0 (first_world wire_plan) run.2 run.0 refl run.4 in
    elim one.4 [
      | inl leads ↦ nothing_back mode run.2 one.2 w1 leads.taken
      | inr leads ↦ no_port 0 leads.box leads.port leads.at_port
    ]

unmatched : (mode : Mode) (old new : World) (event : Event) → Leads wire_plan mode old (Send 0 2) event new → ⊥
unmatched mode old new event leads =
    let no : ◌≡◌ {A = ℕ} 1 0 = sym field-2-0 ∙ sent_first 2 leads.sends in absurd (omega arith)

without_pattern : (mode : Mode) (old new : World) (packet : ℕ) (event : Event) →
    Leads wire_plan mode old (Send 1 packet) event new → ⊥
without_pattern mode old new packet event leads = let none : leads.sends.0 < 0 = leads.sends.2 in absurd (omega arith)

pub nothing_else_enabled : NothingElseEnabled
nothing_else_enabled mode =
    record { at_sender = at_sender mode; unmatched = unmatched mode; without_pattern = without_pattern mode }

-- a packet whose first field is 0
below_two : (packet : ℕ) → packet < 4 → field_of sizes packet 0 ≡ 0 → (packet ≡ 0) ⊎ (packet ≡ 1)
below_two zero less has = inl refl
below_two (suc zero) less has = inr refl
below_two (suc (suc zero)) less has = let no : ◌≡◌ {A = ℕ} 1 0 = sym field-2-0 ∙ has in absurd (omega arith)
below_two (suc (suc (suc zero))) less has = let no : ◌≡◌ {A = ℕ} 1 0 = sym field-3-0 ∙ has in absurd (omega arith)
below_two (suc (suc (suc (suc packet)))) less has = absurd (omega arith)

-- what the safe wire derives
abbrev sent : List Fact
sent = Out 0 0 ∷ Out 0 1 ∷ []

sent_starts : (fact : Fact) → Contains sent fact → Starts safe_wire_plan fact
sent_starts fact there =
    elim (contained_cases (Out 0 0) fact (Out 0 1 ∷ []) there) [
      | inl same ↦ subst (Starts safe_wire_plan) same (0, refl, lit< tt, sends_first 0 field-0-0)
      | inr later ↦ elim (contained_cases (Out 0 1) fact [] later) [
        | inl same ↦ subst (Starts safe_wire_plan) same (0, refl, lit< tt, sends_first 1 field-1-0)
        | inr none ↦ absurd (none_contained fact none)
      ]
    ]

starts_sent : (fact : Fact) → Starts safe_wire_plan fact → Contains sent fact
starts_sent (Out end packet) (zero, at, less, sends) =
    let is : end ≡ 0 = ends_apart end 0 at in
    elim (below_two packet less (sent_first packet sends)) [
      | inl same ↦ (0, lit< tt, ap (λ (p : ℕ). Out 0 p) (sym same) ∙ ap (λ (e : ℕ). Out e packet) (sym is))
      | inr same ↦ (1, lit< tt, ap (λ (p : ℕ). Out 0 p) (sym same) ∙ ap (λ (e : ℕ). Out e packet) (sym is))
    ]
starts_sent (Out end packet) (suc zero, at, less, sends) = let none : sends.0 < 0 = sends.2 in absurd (omega arith)
starts_sent (Out zero packet) (suc (suc host), at, less, sends) =
    absurd (let is : 0 ≡ suc (suc host) = ends_apart 0 (suc (suc host)) at in omega (arith, is))
starts_sent (Out (suc zero) packet) (suc (suc host), at, less, sends) =
    absurd (let is : 1 ≡ suc (suc host) = ends_apart 1 (suc (suc host)) at in omega (arith, is))
starts_sent (Out (suc (suc end)) packet) (suc (suc host), at, less, sends) = absurd (cc)
starts_sent (State box packet mask) starts = absurd starts
starts_sent (Abort box packet) starts = absurd starts

sent_rising : IsRising sent
sent_rising zero zero d less in' = absurd (omega arith)
sent_rising zero (suc zero) d less in' = inr (refl, inr (refl, inl (lit< tt)))
sent_rising zero (suc (suc j)) d less in' = absurd (omega arith)
sent_rising (suc i) j d less in' = absurd (omega arith)

sent_least : DerivableIsSent → IsLeast safe_wire_plan sent
sent_least law = record {
  rising = sent_rising;
  member = λ fact. (
    λ there. (law safe_wire_plan fact refl).1 (sent_starts fact there),
    λ derivable. starts_sent fact ((law safe_wire_plan fact refl).0 derivable),
  );
}

sent_good_packet : (packet : ℕ) → field_of sizes packet 0 ≡ 0 → (fact : Fact) → Out 0 packet ≡ fact →
    IsBad safe_wire_plan fact → ⊥
sent_good_packet packet has fact same bad = good (subst (IsBad safe_wire_plan) (sym same) bad)
  where
    good : IsForbiddenDelivery safe_wire_plan 0 packet → ⊥
    good (host, other, linked, at, forbids) =
        let one : host ≡ 1 =
        sym (ends_apart other host at)
        ∙ elim
        (linked_to 0 other linked) [
          | inl here ↦ here.1
          | inr here ↦ absurd
              (let no : ◌≡◌ {A = ℕ} 0 1 = here.0 in omega arith)
        ] in
        let here : Forbids safe_wire_plan 1 packet = subst (λ (h : ℕ). Forbids safe_wire_plan h packet) one forbids in
        let field : field_of sizes packet 0 ≡ 1 =
        first_of_match packet 1 (one_pattern (λ pattern. Matches sizes pattern packet) (first_is 1) here) in
        let no : ◌≡◌ {A = ℕ} 0 1 = sym has ∙ field in absurd (omega arith)

sent_good : (fact : Fact) → Contains sent fact → IsBad safe_wire_plan fact → ⊥
sent_good fact there bad =
    elim (contained_cases (Out 0 0) fact (Out 0 1 ∷ []) there) [
      | inl same ↦ sent_good_packet 0 field-0-0 fact same bad
      | inr later ↦ elim (contained_cases (Out 0 1) fact [] later) [
        | inl same ↦ sent_good_packet 1 field-1-0 fact same bad
        | inr none ↦ none_contained fact none
      ]
    ]

pub safe_wire_runs_safely : SafeNetworkRunsSafely → DerivableIsSent → SafeWireRunsSafely
safe_wire_runs_safely runs law = runs safe_wire_plan sent refl (sent_least law) sent_good
