-- Where the first copy of a packet stands, and channels without it.
use Rattle.std.proofs.Common.{◌≡◌, ◌≢◌, ℕ, suc, ◌+◌, ◌<◌, List, [], ◌∷◌, ◌++◌, Some, None, Option, Bool}
use Rattle.std.proofs.Common.{cond, MatchOption, length, refl, sym, ap, subst, ◌∙◌, inl, inr, arith}
use Rattle.std.specs.Prelude.{nat_eq, slice_get, slice_set}
use Rattle.std.specs.List.{Contains, position_from, remove}
use Rattle.std.proofs.lemmas.Bool.Decides.{eqb_tells}
use Rattle.std.proofs.lemmas.List.{length-append}
use Rattle.net_plan.proofs.Rising.{head_contained, contained_cases, none_contained}
use Rattle.net_runs.specs.declared.world.Mode.{Mode}
use Rattle.net_runs.specs.declared.world.Mode.TheVariants.{Unordered, Ordered}
use Rattle.net_runs.specs.World.{TakesFirst}
use Rattle.net_runs.proofs.ListLemmas.{some_inside, stood_there}
use Rattle.concrete_net.specs.Taking.{IsFirstCopy, IsNextAt}
use Rattle.concrete_net.proofs.ChannelLemmas.{set_twice}

head_copy : (packet : ℕ) (xs : List ℕ) → IsFirstCopy packet (packet ∷ xs) 0
head_copy packet xs = record { front = []; rest = xs; stood = refl; first = none_contained packet; place_is = refl }

later_copy : (packet x : ℕ) (xs : List ℕ) (place : ℕ) → x ≢ packet → IsFirstCopy packet xs place →
    IsFirstCopy packet (x ∷ xs) (suc place)
later_copy packet x xs place apart copy = record {
  front = x ∷ copy.front;
  rest = copy.rest;
  stood = ap (λ (l : List ℕ). x ∷ l) copy.stood;
  first = λ there. elim (contained_cases x packet copy.front there)
      [ inl same ↦ apart same | inr later ↦ copy.first later ];
  place_is = ap suc copy.place_is;
}

abbrev test : ℕ → ℕ → Bool
test packet other = nat_eq other packet

-- the first copy stands so far behind this place
abbrev StandsFrom : ℕ → ℕ → List ℕ → ℕ → Type 0
StandsFrom packet i packets place = (k : ℕ) × (place ≡ i + k) × IsFirstCopy packet packets k

behind : (packet i x : ℕ) (xs : List ℕ) (found : Option ℕ) → x ≢ packet →
    MatchOption found (Contains xs packet → ⊥) (StandsFrom packet (i + 1) xs) →
    MatchOption found (Contains (x ∷ xs) packet → ⊥) (StandsFrom packet i (x ∷ xs))
behind packet i x xs None apart none = λ there. elim (contained_cases x packet xs there)
    [ inl same ↦ apart same | inr later ↦ none later ]
behind packet i x xs (Some place) apart copy =
    (suc copy.0, omega (arith, copy.1), later_copy packet x xs copy.0 apart copy.2)

first_from : (packet i : ℕ) (packets : List ℕ) →
    MatchOption (position_from (test packet) i packets) (Contains packets packet → ⊥) (StandsFrom packet i packets)
first_from packet i [] = none_contained packet
first_from packet i (x ∷ xs) =
    elim (eqb_tells x packet) [
      | inl same ↦ subst
          (λ (b : Bool). MatchOption (cond b (Some i) (position_from (test packet) (i + 1) xs))
          (Contains (x ∷ xs) packet → ⊥) (StandsFrom packet i (x ∷ xs))) (sym same.0)
          (0, omega arith, subst (λ (n : ℕ). IsFirstCopy packet (n ∷ xs) 0) (sym same.1) (head_copy packet xs))
      | inr apart ↦ subst
          (λ (b : Bool). MatchOption (cond b (Some i) (position_from (test packet) (i + 1) xs))
          (Contains (x ∷ xs) packet → ⊥) (StandsFrom packet i (x ∷ xs))) (sym apart.0)
          (behind packet i x xs (position_from (test packet) (i + 1) xs) apart.1 (first_from packet (i + 1) xs))
    ]

from_start : (packet : ℕ) (packets : List ℕ) (found : Option ℕ) →
    MatchOption found (Contains packets packet → ⊥) (StandsFrom packet 0 packets) →
    MatchOption found (Contains packets packet → ⊥) (IsFirstCopy packet packets)
from_start packet packets None none = none
from_start packet packets (Some place) copy =
    subst (IsFirstCopy packet packets) (let same : copy.0 ≡ place = omega (arith, copy.1) in same) copy.2

pub first_copy : (packet : ℕ) (packets : List ℕ) (found : Option ℕ) →
    found ≡ position_from (λ other. nat_eq other packet) 0 packets →
    MatchOption found (Contains packets packet → ⊥) (IsFirstCopy packet packets)
first_copy packet packets found e =
    subst (λ (o : Option ℕ). MatchOption o (Contains packets packet → ⊥) (IsFirstCopy packet packets)) (sym e)
    (from_start packet packets (position_from (test packet) 0 packets) (first_from packet 0 packets))

-- what is left without the copy

without : (front rest : List ℕ) (packet : ℕ) → remove (front ++ (packet ∷ rest)) (length front) ≡ front ++ rest
without [] rest packet = refl
without (x ∷ front) rest packet = ap (λ (l : List ℕ). x ∷ l) (without front rest packet)

pub taken_out : (packet : ℕ) (packets : List ℕ) (place : ℕ) → IsFirstCopy packet packets place →
    TakesFirst packet packets (remove packets place)
taken_out packet packets place copy = record {
  front = copy.front;
  rest = copy.rest;
  stood = copy.stood;
  first = copy.first;
  taken = ap (λ (l : List ℕ). remove l place) copy.stood
      ∙ ap (remove (copy.front ++ (packet ∷ copy.rest))) copy.place_is ∙ without copy.front copy.rest packet;
}

pub within : (packet : ℕ) (packets : List ℕ) (place : ℕ) → IsFirstCopy packet packets place → place < length packets
within packet packets place copy =
    let all : length packets ≡ length (copy.front ++ (packet ∷ copy.rest)) = ap length copy.stood in
    let parts : length (copy.front ++ (packet ∷ copy.rest)) ≡ length copy.front + length (packet ∷ copy.rest) =
    length-append copy.front (packet ∷ copy.rest) in
    let some : length (packet ∷ copy.rest) ≡ suc (length copy.rest) = refl in
    omega (arith, all, parts, some, copy.place_is)

pub copy_there : (packet : ℕ) (packets : List ℕ) (place : ℕ) → IsFirstCopy packet packets place →
    Contains packets packet
copy_there packet packets place copy =
    stood_there packet packets (remove packets place) (taken_out packet packets place copy)

-- heads

no_front : (front : List ℕ) → 0 ≡ length front → front ≡ []
no_front [] e = refl
no_front (x ∷ front) e = absurd (omega (arith, (let none : 0 ≡ suc (length front) = e in none)))

pub next_at_head : (mode : Mode) (packet : ℕ) (packets : List ℕ) → IsFirstCopy packet packets 0 →
    IsNextAt mode packet packets 0
next_at_head Unordered packet packets copy = record { copy = copy; next = tt }
next_at_head Ordered packet packets copy = record {
  copy = copy;
  next = (
    copy.rest,
    copy.stood ∙ ap (λ (l : List ℕ). l ++ (packet ∷ copy.rest)) (no_front copy.front copy.place_is),
  );
}

pub next_anywhere : (packet : ℕ) (packets : List ℕ) (place : ℕ) → IsFirstCopy packet packets place →
    IsNextAt Unordered packet packets place
next_anywhere packet packets place copy = record { copy = copy; next = tt }

not_first : (packet : ℕ) (front behind rest : List ℕ) → (Contains front packet → ⊥) → 0 < length front →
    front ++ (packet ∷ behind) ≡ packet ∷ rest → ⊥
not_first packet [] behind rest none some e = absurd (omega arith)
not_first packet (x ∷ front) behind rest none some e =
    let same : x ≡ packet = cc in
    none (subst (λ (n : ℕ). Contains (n ∷ front) packet) (sym same) (head_contained packet front))

pub not_at_head : (packet : ℕ) (packets : List ℕ) (place : ℕ) → IsFirstCopy packet packets place → 0 < place →
    (rest : List ℕ) → packets ≢ packet ∷ rest
not_at_head packet packets place copy some rest e =
    not_first packet copy.front copy.rest rest copy.first (omega (arith, some, copy.place_is)) (sym copy.stood ∙ e)

-- the channel is put back without what was taken out
pub shortened : {X : Type 0} (old : List (List X)) (from place : ℕ) (there none packets : List X) →
    slice_get old from ≡ Some there → slice_get old from ≡ Some packets →
    slice_set (slice_set old from none) from (remove there place) ≡ slice_set old from (remove packets place)
shortened old from place there none packets one two =
    set_twice old from none (remove there place)
    ∙ ap (λ l. slice_set old from (remove l place)) (some_inside (sym one ∙ two))
