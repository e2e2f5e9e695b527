-- What follows from a delivery is what the results of the fired handler say.
use Rattle.std.proofs.Common.{◌≡◌, ℕ, ◌<◌, inl, inr, zero, suc, true, false, List, [], ◌∷◌, length, map, refl}
use Rattle.std.proofs.Common.{sym, ap, subst, ◌∙◌, arith}
use Rattle.std.specs.List.{Contains}
use Rattle.box_contents.specs.declared.entry.Entry.{Entry}
use Rattle.box_executions.specs.Execution.{Outcome, Done, Aborted, Emission}
use Rattle.net_plan.specs.declared.plan.Plan.{Plan}
use Rattle.net_plan.specs.declared.fact.Fact.{Fact}
use Rattle.net_plan.specs.declared.fact.Fact.TheVariants.{Out, State, Abort}
use Rattle.net_plan.specs.declared.fact.Place.TheVariants.{Port}
use Rattle.net_plan.specs.Plan.{packets_of}
use Rattle.net_plan.specs.Ends.{IsEndAt}
use Rattle.net_plan.specs.Laws.{PartnerIsUnique}
use Rattle.net_plan.proofs.EndLemmas.{end_once}
use Rattle.net_plan.proofs.Rising.{head_contained, tail_contained}
use Rattle.net_runs.specs.World.{Handles}
use Rattle.box_contents.specs.Laws.{HeldWith, HeldWithout}
use Rattle.packet_state.specs.Answers.{class_of_box, answers}
use Rattle.packet_state.specs.Follows.{Meets, AbortsAt, Follows}
use Rattle.box_masks.specs.Writes.{after_writes}
use Rattle.box_masks.specs.Bits.{tuples_at, patched}
use Rattle.box_masks.proofs.MaskLemmas.{patch_is_exact}
use Rattle.abstract_step.specs.Step.{Result, Answer, StandsFor, emission_of}
use Rattle.move_table.specs.Moves.{IsPatch}
use Rattle.packet_domain.specs.Reasons.{SomeGives, AgreeingChanges}
use Rattle.packet_domain.specs.Laws.{IsFiring, StepIsExact}

-- members of a list that is mapped
pub map_member : {X Y : Type 0} (f : X → Y) (xs : List X) (x : X) → Contains xs x → Contains (map f xs) (f x)
map_member f [] x (k, in', e) = absurd (let less : k < 0 = in' in omega (arith, less))
map_member f (y ∷ xs) x (zero, in', e) =
    subst (λ z. Contains (f z ∷ map f xs) (f x)) (sym e) (head_contained (f x) (map f xs))
map_member f (y ∷ xs) x (suc k, in', e) =
    tail_contained (f y) (f x) (map f xs)
    (map_member f xs x (k, (let less : suc k < suc (length xs) = in' in omega (arith, less)), e))

pub mapped_member : {X Y : Type 0} (f : X → Y) (xs : List X) (y : Y) → Contains (map f xs) y →
    (x : X) × Contains xs x × (f x ≡ y)
mapped_member f [] y (k, in', e) = absurd (let less : k < 0 = in' in omega (arith, less))
mapped_member f (x ∷ xs) y (zero, in', e) = (x, head_contained x xs, e)
mapped_member f (x ∷ xs) y (suc k, in', e) =
    let rest =
    mapped_member f xs y (k, (let less : suc k < suc (length (map f xs)) = in' in omega (arith, less)), e) in
    (rest.0, tail_contained x rest.0 xs rest.1, rest.2)

same_port : {box one two : ℕ} → Port box one ≡ Port box two → one ≡ two
same_port e = cc

module _ (unique : PartnerIsUnique) (plan : Plan) (end packet box port mask : ℕ) (results : List Result)
    (firing : IsFiring plan end packet box port mask results) where
  -- a meeting is one at the port, and the other way round
  handled : (contents : List Entry) (outcome : Outcome) (meets : Meets plan end packet box mask contents outcome) →
      Handles plan box port packet contents meets.choices outcome
  handled contents outcome meets =
      let other : firing.leads.0 ≡ meets.other =
      unique plan end firing.leads.0 meets.other firing.sound firing.leads.1 meets.linked in
      let place = end_once plan meets.other (Port box meets.port) (Port box port) meets.at_port
      (subst (λ (o : ℕ). IsEndAt plan o (Port box port)) other firing.leads.2) in
      subst (λ (p : ℕ). Handles plan box p packet contents meets.choices outcome) (same_port place) meets.handles

  answer : (contents : List Entry) (outcome : Outcome) → Meets plan end packet box mask contents outcome →
      Answer plan box packet mask contents
  answer contents outcome meets = record { fit = meets.contents_fit; answered = meets.answered }

  met : (contents : List Entry) (outcome : Outcome) (choices : List ℕ) → Answer plan box packet mask contents →
      Handles plan box port packet contents choices outcome → Meets plan end packet box mask contents outcome
  met contents outcome choices answers_so handles = record {
    packet_in_range = firing.packet_in_range;
    other = firing.leads.0;
    port = port;
    linked = firing.leads.1;
    at_port = firing.leads.2;
    contents_fit = answers_so.fit;
    answered = answers_so.answered;
    choices = choices;
    handles = handles;
  }

  -- the outcome of a result that aborts, and of one that goes on
  aborts : (contents : List Entry) (result : Result) (choices : List ℕ) (outcome : Outcome) → result.aborted ≡ true →
      Answer plan box packet mask contents → Handles plan box port packet contents choices outcome →
      StandsFor contents result outcome → AbortsAt plan end packet box mask
  aborts contents result choices (Done left outputs) aborted answers_so handles stands =
      absurd (let clash : true ≡ false = sym aborted ∙ stands.0 in cc)
  aborts contents result choices Aborted aborted answers_so handles stands =
      record { contents = contents; meets = met contents Aborted choices answers_so handles }

  -- an execution that is done, with the result that stands for it
  record GoesOn (contents : List Entry) (result : Result) : Type 0 where
    left : List Entry
    outputs : List Emission
    meets : Meets plan end packet box mask contents (Done left outputs)
    leaves : left ≡ after_writes contents result.writes
    puts : outputs ≡ map emission_of result.puts

  goes_on : (contents : List Entry) (result : Result) (choices : List ℕ) (outcome : Outcome) →
      result.aborted ≡ false → Answer plan box packet mask contents →
      Handles plan box port packet contents choices outcome → StandsFor contents result outcome →
      GoesOn contents result
  goes_on contents result choices (Done left outputs) goes answers_so handles stands = record {
    left = left;
    outputs = outputs;
    meets = met contents (Done left outputs) choices answers_so handles;
    leaves = stands.1;
    puts = stands.2;
  }
  goes_on contents result choices Aborted goes answers_so handles stands =
      absurd (let clash : true ≡ false = sym stands.0 ∙ goes in cc)

  -- each result goes on from whatever contents answer so
  going : (result : Result) → Contains results result → result.aborted ≡ false → (contents : List Entry) →
      Answer plan box packet mask contents → GoesOn contents result
  going result there goes contents answers_so =
      let run = firing.fired.sound result there contents answers_so in
      goes_on contents result run.0 run.1 goes answers_so run.2 run.3

  abbrev pub Delivery : Fact → Type 0
  Delivery fact = Follows plan (Out end packet ∷ State box packet mask ∷ []) fact

  given : (fact : Fact) → SomeGives plan box packet results fact → Delivery fact
  given fact (result, there, inl (aborted, is)) =
      let some = firing.fired.shown result there in
      let run = firing.fired.sound result there some.0 some.1 in
      subst Delivery (sym is)
      (refl, (refl, refl, aborts some.0 result run.0 run.1 aborted some.1 run.2 run.3))
  given fact (result, there, inr (goes, (put, among, (to, at_port, is)))) =
      let some = firing.fired.shown result there in
      let run = going result there goes some.0 some.1 in
      subst Delivery (sym is) (
        refl,
        record {
          contents = some.0;
          left = run.left;
          outputs = run.outputs;
          meets = run.meets;
          port = put.port;
          at_port = at_port;
          put_out = subst (λ outputs. Contains outputs (emission_of put)) (sym run.puts)
              (map_member emission_of result.puts put among);
        },
      )

  -- the result of an execution that is done
  record IsOf (contents left : List Entry) (outputs : List Emission) : Type 0 where
    result : Result
    there : Contains results result
    goes : result.aborted ≡ false
    leaves : left ≡ after_writes contents result.writes
    puts : outputs ≡ map emission_of result.puts

  result_of : (contents left : List Entry) (outputs : List Emission) →
      Meets plan end packet box mask contents (Done left outputs) → IsOf contents left outputs
  result_of contents left outputs meets =
      let found = firing.fired.complete contents (answer contents (Done left outputs) meets) meets.choices
      (Done left outputs) (handled contents (Done left outputs) meets) in
      record {
        result = found.0;
        there = found.1;
        goes = found.2.0;
        leaves = found.2.1;
        puts = found.2.2;
      }

  gives : (fact : Fact) → Delivery fact → SomeGives plan box packet results fact
  gives (Out to sent) (same, puts_out) =
      let found = result_of puts_out.contents puts_out.left puts_out.outputs puts_out.meets in
      let put = mapped_member emission_of found.result.puts (record { port = puts_out.port; packet = sent })
      (subst (λ outputs. Contains outputs (record { port = puts_out.port; packet = sent })) found.puts
      puts_out.put_out) in (
        found.result,
        found.there,
        inr (
          found.goes,
          (
            put.0,
            put.1,
            (
              to,
              subst (λ (p : ℕ). IsEndAt plan to (Port box p)) (sym (ap (λ (e : Emission). e.port) put.2))
                  puts_out.at_port,
              ap (λ (e : Emission). Out to e.packet) (sym put.2),
            ),
          ),
        ),
      )
  gives (State other second after) (same, never) = absurd never
  gives (Abort other also) (same, (here, twice, aborts_at)) =
      let found = firing.fired.complete aborts_at.contents (answer aborts_at.contents Aborted aborts_at.meets)
      aborts_at.meets.choices Aborted (handled aborts_at.contents Aborted aborts_at.meets) in (
        found.0,
        found.1,
        inl (found.2.0, ap (λ (b : ℕ). Abort b also) here ∙ ap (Abort box) twice),
      )

  -- and with the answers that are changed
  module _ (second before : ℕ) (small : second < packets_of plan) where
    abbrev pub Change : Fact → Type 0
    Change fact = Follows plan (Out end packet ∷ State box packet mask ∷ State box second before ∷ []) fact

    changed : (fact : Fact) → AgreeingChanges plan box packet mask results second before fact → Change fact
    changed fact ((contents, fit, answered, before_is), (result, there, change)) =
        let run = going result there change.goes_on contents (record { fit = fit; answered = answered }) in
        subst Change (sym change.is) (
          refl,
          refl,
          refl,
          refl,
          record {
            second_in_range = small;
            contents = contents;
            left = run.left;
            outputs = run.outputs;
            meets = run.meets;
            answered = before_is;
            leaves = ap (answers plan box second) run.leaves ∙ change.patched contents before_is;
          },
        )

    changes : ((result : Result) → (after : ℕ) × IsPatch plan box result.writes second before after) → (fact : Fact) →
        Change fact → AgreeingChanges plan box packet mask results second before fact
    changes settles (Out to sent) never = absurd never
    changes settles (Abort other also) never = absurd never
    changes settles (State other also after) (same, here, there, twice, change) =
        let found = result_of change.contents change.left change.outputs change.meets in
        let patch = settles found.result in
        let after_is : patch.0 ≡ after =
        sym (patch.1 change.contents change.answered) ∙ ap (answers plan box second) (sym found.leaves)
        ∙ change.leaves in (
          (change.contents, change.meets.contents_fit, change.meets.answered, change.answered),
          (
            found.result,
            found.there,
            record {
              goes_on = found.goes;
              after = patch.0;
              patched = patch.1;
              is = ap (λ (b : ℕ). State b also after) there ∙ ap (λ (p : ℕ). State box p after) twice
                  ∙ ap (State box second) (sym after_is);
            },
          ),
        )

pub step_is_exact : PartnerIsUnique → HeldWith → HeldWithout → StepIsExact
step_is_exact unique with_law without_law plan end packet box port mask results firing = record {
  gives = λ fact. (
    given unique plan end packet box port mask results firing fact,
    gives unique plan end packet box port mask results
        firing fact,
  );
  changes = λ second before fact small. (
    changed unique plan end packet box port mask results firing second before small fact,
    changes unique plan end packet box port mask results firing second before small
        (λ result. (
          patched (tuples_at plan box second (class_of_box plan box).queries) result.writes before,
          λ contents is. patch_is_exact with_law without_law plan box second result.writes before contents is,
        ))
        fact,
  );
}
