-- The network with two boxes by hand.
use Rattle.std.proofs.Common.{◌≡◌, ◌≢◌, ℕ, zero, suc, ◌<◌, ◌≤◌, Bool, true, false, not, ◌&&◌, List, [], ◌∷◌, ◌++◌}
use Rattle.std.proofs.Common.{codes, length, map, replicate, Option, Some, None, refl, sym, ap, subst, ◌∙◌, ◌⊎◌, inl}
use Rattle.std.proofs.Common.{inr, arith, lit<, lit≤}
use Rattle.std.specs.Prelude.{nat_eq, slice_index, sum_by}
use Rattle.std.specs.List.{All, Any, find, list_all}
use Rattle.std.specs.List.Sorted.{IsStrictlySortedBy}
use Rattle.std.specs.Cmp.Lexicographic.{pointwise, bytes_decides}
use Rattle.std.proofs.lemmas.Bool.{and_parts, not-true, eqb-false}
use Rattle.std.proofs.lemmas.Bool.Decides.{not_from_Decides}
use Rattle.std.proofs.lemmas.List.Elements.{All-nil, All-cons, All-from_recursion}
use Rattle.std.proofs.lemmas.List.Kept.{AllPairs-cons}
use Rattle.header_set.specs.Headers.{field_of, IsSize}
use Rattle.header_set.specs.Pattern.{fixed_at, Matches}
use Rattle.amdl_tree.specs.Word.{IsWord, IsName, spelling_of_reserved}
use Rattle.amdl_tree.specs.declared.reserved.Reserved.{Reserved}
use Rattle.amdl_tree.specs.declared.reserved.Reserved.TheVariants as reserved
use Rattle.box_contents.specs.declared.entry.Entry.{Entry}
use Rattle.box_contents.specs.Contents.{IsRising}
use Rattle.box_handlers.specs.declared.act.Query.{Query}
use Rattle.box_handlers.specs.declared.act.Probe.TheVariants as probe
use Rattle.box_handlers.specs.Body.{Holds, Either, Neither, Body, Stop, Fork, NoBranch, OneBranch, all_of}
use Rattle.box_handlers.specs.Body.{formula_of_probe, body_of, BodiesAreRead, FormulasAreRead}
use Rattle.box_handlers.specs.Fits.{Fits, QueryFits}
use Rattle.box_handlers.specs.Queries.{asked_by, first_occurrences}
use Rattle.box_handlers.specs.Size.{statements_of, literals_of, paths_of}
use Rattle.net_plan.specs.declared.plan.KindPlan.{KindPlan}
use Rattle.net_plan.specs.declared.plan.RelationPlan.{RelationPlan}
use Rattle.net_plan.specs.declared.plan.BoxPlan.{BoxPlan}
use Rattle.net_plan.specs.declared.plan.LinkPlan.{LinkPlan}
use Rattle.net_plan.specs.declared.fact.Place.{Place}
use Rattle.net_plan.specs.declared.fact.Place.TheVariants.{Host, Port}
use Rattle.net_plan.specs.Plan.{Forbids, tuples_of, surroundings_of}
use Rattle.net_plan.specs.Sound.{AreApart, IsKind, IsField, HasHeaders, terms_of, nodes_of, HasNamesApart, IsRelation}
use Rattle.net_plan.specs.Sound.{IsClass, IsEntry, IsBox, HasClasses, IsPattern, IsHost, IsLink, linked_ends, IsWired}
use Rattle.net_plan.specs.Sound.{IsSmallClass, IsSmallBox, HasLimits, IsHandled}
use Rattle.net_plan.specs.Ends.{IsEndAt, IsPlaceNamed, Joins, IsLinkedBy}
use Rattle.net_plan.specs.Follows.{IsForbiddenDelivery}
use Rattle.net_plan.proofs.Rising.{contained_cases, none_contained, head_contained, tail_contained}
use Rattle.net_examples.specs.Boxes.{asking, open_dst, seen_a, seen_b, wall, tap, two_boxes, BoxesAreSound, NamesByHand}
use Rattle.net_examples.specs.Boxes.{BadByHand}

abbrev one_link : LinkPlan
one_link = record { one = 0; two = 3 }

abbrev other_link : LinkPlan
other_link = record { one = 4; two = 1 }

abbrev links : List LinkPlan
links = one_link ∷ other_link ∷ []

-- what the links join
linked_cases : (end other : ℕ) → IsLinkedBy links end other → Joins one_link end other ⊎ Joins other_link end other
linked_cases end other linked =
    elim (contained_cases one_link linked.0 (other_link ∷ []) linked.1) [
      | inl same ↦ inl (subst (λ (l : LinkPlan). Joins l end other) (sym same) linked.2)
      | inr later ↦ elim (contained_cases other_link linked.0 [] later) [
        | inl same ↦ inr (subst (λ (l : LinkPlan). Joins l end other) (sym same) linked.2)
        | inr none ↦ absurd (none_contained linked.0 none)
      ]
    ]

from_four : (other : ℕ) → IsLinkedBy links 4 other → other ≡ 1
from_four other linked =
    elim (linked_cases 4 other linked) [
      | inl joins ↦ elim joins [
        | inl here ↦ absurd (let no_end : 0 ≡ 4 = here.0 in omega arith)
        | inr here ↦ absurd
            (let no_end : 3 ≡ 4 = here.1 in omega arith)
      ]
      | inr joins ↦ elim joins [
        | inl here ↦ sym here.1
        | inr here ↦ absurd
            (let no_end : 1 ≡ 4 = here.1 in omega arith)
      ]
    ]

from_one : (other : ℕ) → IsLinkedBy links 1 other → other ≡ 4
from_one other linked =
    elim (linked_cases 1 other linked) [
      | inl joins ↦ elim joins [
        | inl here ↦ absurd (let no_end : 0 ≡ 1 = here.0 in omega arith)
        | inr here ↦ absurd
            (let no_end : 3 ≡ 1 = here.1 in omega arith)
      ]
      | inr joins ↦ elim joins [
        | inl here ↦ absurd
            (let no_end : 4 ≡ 1 = here.0 in omega arith)
        | inr here ↦ sym here.0
      ]
    ]

from_zero : (other : ℕ) → IsLinkedBy links 0 other → other ≡ 3
from_zero other linked =
    elim (linked_cases 0 other linked) [
      | inl joins ↦ elim joins [
        | inl here ↦ sym here.1
        | inr here ↦ absurd
            (let no_end : 3 ≡ 0 = here.1 in omega arith)
      ]
      | inr joins ↦ elim joins [
        | inl here ↦ absurd (let no_end : 4 ≡ 0 = here.0 in omega arith)
        | inr here ↦ absurd
            (let no_end : 1 ≡ 0 = here.1 in omega arith)
      ]
    ]

from_five : (other : ℕ) → IsLinkedBy links 5 other → ⊥
from_five other linked =
    elim (linked_cases 5 other linked) [
      | inl joins ↦ elim joins [
        | inl here ↦ absurd (let no_end : 0 ≡ 5 = here.0 in omega arith)
        | inr here ↦ absurd
            (let no_end : 3 ≡ 5 = here.1 in omega arith)
      ]
      | inr joins ↦ elim joins [
        | inl here ↦ absurd (let no_end : 4 ≡ 5 = here.0 in omega arith)
        | inr here ↦ absurd
            (let no_end : 1 ≡ 5 = here.1 in omega arith)
      ]
    ]

abbrev pattern : List (Option ℕ)
pattern = Some 1 ∷ None ∷ None ∷ None ∷ None ∷ None ∷ None ∷ None ∷ []

pub field_is : field_of (2 ∷ []) 1 0 ≡ 1
unfolding field_of
field_is = refl

pub field_is_not : field_of (2 ∷ []) 0 0 ≡ 0
unfolding field_of
field_is_not = refl

forbids_one : Forbids two_boxes 1 1
forbids_one = (0, pattern, lit< tt, refl, record { each = λ k y less fixed. each k y less fixed })
  where
    each : (k y : ℕ) → k < 1 → fixed_at pattern k ≡ Some y → field_of (2 ∷ []) 1 k ≡ y
    each zero y less fixed = let same : 1 ≡ y = cc in field_is ∙ same
    each (suc k) y less fixed = absurd (omega arith)

pub one_pattern : (P : List (Option ℕ) → Type 0) (only : List (Option ℕ)) → Any P (only ∷ []) → P only
one_pattern P only (zero, found, less, same, holds) = subst P (sym same) holds
one_pattern P only (suc k, found, less, same, holds) = absurd (omega arith)

not_zero : Forbids two_boxes 1 0 → ⊥
not_zero forbids =
    let matches : Matches (2 ∷ []) pattern 0 = one_pattern (λ only. Matches (2 ∷ []) only 0) pattern forbids in
    let one : field_of (2 ∷ []) 0 0 ≡ 1 = matches.each 0 1 (lit< tt) refl in
    let never : ◌≡◌ {A = ℕ} 0 1 = sym field_is_not ∙ one in absurd (omega arith)

same_host : (one two : ℕ) → Some (Host one) ≡ Some (Host two) → one ≡ two
same_host one two e = cc

allowed : IsForbiddenDelivery two_boxes 4 0 → ⊥
allowed (host, other, linked, at, forbids) =
    let there : IsEndAt two_boxes 1 (Host host) =
    subst (λ (end : ℕ). IsEndAt two_boxes end (Host host)) (from_four other linked) at in
    not_zero (subst (λ (h : ℕ). Forbids two_boxes h 0) (sym (same_host 1 host there)) forbids)

own_end : IsForbiddenDelivery two_boxes 1 1 → ⊥
own_end (host, other, linked, at, forbids) =
    let there : IsEndAt two_boxes 4 (Host host) =
    subst (λ (end : ℕ). IsEndAt two_boxes end (Host host)) (from_one other linked) at in
    absurd (let never : Some (Port 0 1) ≡ Some (Host host) = there in cc)

to_box : IsForbiddenDelivery two_boxes 0 1 → ⊥
to_box (host, other, linked, at, forbids) =
    let there : IsEndAt two_boxes 3 (Host host) =
    subst (λ (end : ℕ). IsEndAt two_boxes end (Host host)) (from_zero other linked) at in
    absurd (let never : Some (Port 0 0) ≡ Some (Host host) = there in cc)

pub bad_by_hand : BadByHand
bad_by_hand = record {
  forbidden = (
    1,
    1,
    (
      other_link,
      tail_contained one_link other_link (other_link ∷ []) (head_contained other_link []),
      inl (refl, refl),
    ),
    refl,
    forbids_one,
  );
  allowed = allowed;
  own_end = own_end;
  to_box = to_box;
  unlinked = λ bad. from_five bad.1 bad.2;
  abort = tt;
  state = λ bad. bad;
}

one_sign : (a b : ℕ) → a ∷ [] ≡ b ∷ [] → a ≡ b
one_sign a b e = cc

bare : (end : ℕ) (place : Place) → IsEndAt two_boxes end place → IsPlaceNamed two_boxes (119 ∷ []) None place → ⊥
bare end (Port box port) at named = named
bare zero (Host host) at named =
    let same : 0 ≡ host =
    same_host 0 host at in let e : ◌≡◌ {A = ℕ} 112 119 = one_sign 112 119
    (subst (λ (h : ℕ). IsPlaceNamed two_boxes (119 ∷ []) None (Host h)) (sym same) named) in absurd (omega arith)
bare (suc zero) (Host host) at named =
    let same : 1 ≡ host =
    same_host 1 host at in let e : ◌≡◌ {A = ℕ} 113 119 = one_sign 113 119
    (subst (λ (h : ℕ). IsPlaceNamed two_boxes (119 ∷ []) None (Host h)) (sym same) named) in absurd (omega arith)
bare (suc (suc zero)) (Host host) at named =
    let same : 2 ≡ host =
    same_host 2 host at in let e : ◌≡◌ {A = ℕ} 114 119 = one_sign 114 119
    (subst (λ (h : ℕ). IsPlaceNamed two_boxes (119 ∷ []) None (Host h)) (sym same) named) in absurd (omega arith)
bare (suc (suc (suc zero))) (Host host) at named = absurd (let never : Some (Port 0 0) ≡ Some (Host host) = at in cc)
bare (suc (suc (suc (suc zero)))) (Host host) at named =
    absurd (let never : Some (Port 0 1) ≡ Some (Host host) = at in cc)
bare (suc (suc (suc (suc (suc zero))))) (Host host) at named =
    absurd (let never : Some (Port 1 0) ≡ Some (Host host) = at in cc)
bare (suc (suc (suc (suc (suc (suc end)))))) (Host host) at named = absurd (cc)

pub names_by_hand : NamesByHand
names_by_hand = record {
  outer = (Port 0 1, refl, (refl, refl));
  third = (Host 2, refl, refl);
  bare = λ end there. bare end there.0 there.1 there.2;
}

-- lists no two members of which are the same by a test
abbrev are_apart : {X : Type 0} → (X → X → Bool) → List X → Bool
are_apart same [] = true
are_apart same (x ∷ xs) = list_all (λ y. not (same x y)) xs && are_apart same xs

-- a test that tells members that differ
abbrev Tells : {X : Type 0} → (X → X → Bool) → Type 0
Tells {X} same = (x y : X) → same x y ≡ false → x ≢ y

differ_by : {X : Type 0} (same : X → X → Bool) → Tells same → (x : X) (xs : List X) →
    list_all (λ y. not (same x y)) xs ≡ true → All (λ y. x ≢ y) xs
differ_by same tells x [] e = All-nil (λ y. x ≢ y)
differ_by same tells x (y ∷ ys) e =
    let parts : (not (same x y) ≡ true) × (list_all (λ z. not (same x z)) ys ≡ true) =
    and_parts (not (same x y)) (list_all (λ z. not (same x z)) ys) e in
    All-cons (λ z. x ≢ z) y ys (tells x y (not-true (same x y) parts.0)) (differ_by same tells x ys parts.1)

pub apart_by : {X : Type 0} (same : X → X → Bool) → Tells same → (xs : List X) → are_apart same xs ≡ true → AreApart xs
apart_by same tells [] e = λ i j d below in_range. absurd (omega arith)
apart_by same tells (x ∷ xs) e =
    let parts : (list_all (λ y. not (same x y)) xs ≡ true) × (are_apart same xs ≡ true) =
    and_parts (list_all (λ y. not (same x y)) xs) (are_apart same xs) e in
    AllPairs-cons (λ one two. one ≢ two) x xs (differ_by same tells x xs parts.0) (apart_by same tells xs parts.1)

abbrev same_name : List ℕ → List ℕ → Bool
same_name one two = pointwise nat_eq one two

names_tell : Tells same_name
names_tell one two e = not_from_Decides (same_name one two) (bytes_decides one two) e

pub apart_names : (names : List (List ℕ)) → are_apart same_name names ≡ true → AreApart names
apart_names names e = apart_by same_name names_tell names e

abbrev table : List Reserved
table =
    reserved.Network ∷ reserved.Kind ∷ reserved.Field ∷ reserved.Middlebox ∷ reserved.Port ∷ reserved.Relation ∷
    reserved.On ∷ reserved.Host ∷ reserved.Box ∷ reserved.With ∷ reserved.Link ∷ reserved.Sends ∷ reserved.Forbid ∷
    reserved.Insert ∷ reserved.Remove ∷ reserved.Output ∷ reserved.Abort ∷ reserved.If ∷ reserved.Fi ∷ reserved.Pick ∷
    reserved.In ∷ reserved.Has ∷ reserved.Not ∷ reserved.And ∷ reserved.Or ∷ reserved.True ∷ reserved.Add ∷
    reserved.Drop ∷ reserved.Swap ∷ reserved.Verdict ∷ reserved.Invariant ∷ []

abbrev word_of : List ℕ → Option Reserved
word_of bytes = find (λ word. same_name bytes (spelling_of_reserved word)) table

word_of-spelling : (word : Reserved) → word_of (spelling_of_reserved word) ≡ Some word
word_of-spelling reserved.Network = refl
word_of-spelling word = refl

-- a word of at most 24 bytes that isn't found among the reserved ones
pub by_bytes : (name : List ℕ) → IsWord name → length name ≤ 24 → word_of name ≡ None → IsName name
by_bytes name word short none = record {
  word = word;
  short = short;
  free = λ kept e. absurd (let found : None ≡ Some kept = sym none ∙ ap word_of e ∙ word_of-spelling kept in cc);
}

pub only : {X : Type 0} (P : X → Type 0) (x : X) → P x → All P (x ∷ [])
only P x holds = All-cons P x [] holds (All-nil P)

pub both : {X : Type 0} (P : X → Type 0) (x y : X) → P x → P y → All P (x ∷ y ∷ [])
both P x y one two = All-cons P x (y ∷ []) one (only P y two)

pub one_apart : {X : Type 0} (x : X) → AreApart (x ∷ [])
one_apart x i j d below in_range = absurd (omega arith)

-- types and fields
abbrev pub address : KindPlan
address = record { name = codes "Addr"; values = codes "a" ∷ codes "b" ∷ [] }

pub address_sound : IsKind address
address_sound = record {
  named = by_bytes (codes "Addr") (refl, refl) (lit≤ tt) refl;
  values = both IsName (codes "a") (codes "b")
      (by_bytes (codes "a") (refl, refl) (lit≤ tt) refl)
      (by_bytes (codes "b") (refl, refl) (lit≤ tt) refl);
  some = lit≤ tt;
  few = lit≤ tt;
}

two_headers : HasHeaders two_boxes
two_headers = record {
  kinds = only IsKind address address_sound;
  fields = only (IsField two_boxes) (record { name = codes "dst"; kind = 0 })
      (record { named = by_bytes (codes "dst") (refl, refl) (lit≤ tt) refl; kind = lit< tt });
  headers = record { counted = (lit≤ tt, lit≤ tt); fit = λ k below. size_fits k below; few_packets = lit≤ tt };
}
  where
    size_fits : (k : ℕ) → k < 1 → IsSize (slice_index (2 ∷ []) k)
    size_fits zero below = (lit≤ tt, lit≤ tt)
    size_fits (suc k) below = absurd (omega arith)

two_names : HasNamesApart two_boxes
two_names = record {
  named = by_bytes (codes "two") (refl, refl) (lit≤ tt) refl;
  kinds = one_apart (codes "Addr");
  terms = apart_names (terms_of two_boxes) refl;
  nodes = apart_names (nodes_of two_boxes) refl;
}

-- classes and boxes
abbrev of_address : List ℕ → RelationPlan
of_address name = record { name = name; kinds = 0 ∷ [] }

of_address_sound : (name : List ℕ) → IsName name → IsRelation two_boxes (of_address name)
of_address_sound name named = record { named = named; kinds = only (λ kind. kind < 1) 0 (lit< tt); some = lit≤ tt }

wall_sound : IsClass two_boxes wall
wall_sound = record {
  ports = both IsName (codes "inner") (codes "outer")
      (by_bytes (codes "inner") (refl, refl) (lit≤ tt) refl)
      (by_bytes (codes "outer") (refl, refl) (lit≤ tt) refl);
  relations = only (IsRelation two_boxes) (of_address (codes "open"))
      (of_address_sound (codes "open") (by_bytes (codes "open") (refl, refl) (lit≤ tt) refl));
  ports_apart = apart_names wall.ports refl;
  relations_apart = one_apart (codes "open");
}

tap_sound : IsClass two_boxes tap
tap_sound = record {
  ports = only IsName (codes "east") (by_bytes (codes "east") (refl, refl) (lit≤ tt) refl);
  relations = only (IsRelation two_boxes) (of_address (codes "seen"))
      (of_address_sound (codes "seen") (by_bytes (codes "seen") (refl, refl) (lit≤ tt) refl));
  ports_apart = one_apart (codes "east");
  relations_apart = one_apart (codes "seen");
}

-- open(b), with which w starts
abbrev open_b : Entry
open_b = record { relation = 0; tuple = 1 }

abbrev box_w : BoxPlan
box_w = record { name = codes "w"; class = 0; first = open_b ∷ [] }

abbrev box_t : BoxPlan
box_t = record { name = codes "t"; class = 1; first = [] }

pub none_rise : IsRising []
unfolding IsStrictlySortedBy
none_rise = tt

pub one_rises : (entry : Entry) → IsRising (entry ∷ [])
unfolding IsStrictlySortedBy
one_rises entry = (tt, tt)

two_tuples : (relation : RelationPlan) → Some (of_address (codes "open")) ≡ Some relation →
    1 < tuples_of two_boxes relation
two_tuples relation e =
    let same : of_address (codes "open") ≡ relation = cc in
    subst (λ (r : RelationPlan). 1 < tuples_of two_boxes r) same (lit< tt)

two_classes : HasClasses two_boxes
two_classes = record {
  classes = both (IsClass two_boxes) wall tap wall_sound tap_sound;
  boxes = both (IsBox two_boxes) box_w box_t
      (record {
        named = by_bytes (codes "w") (refl, refl) (lit≤ tt) refl;
        class = lit< tt;
        entries = only (IsEntry two_boxes wall) open_b (record { relation = lit< tt; tuple = two_tuples });
        rising = one_rises open_b;
      })
      (record {
        named = by_bytes (codes "t") (refl, refl) (lit≤ tt) refl;
        class = lit< tt;
        entries = All-nil (IsEntry two_boxes tap);
        rising = none_rise;
      });
}

-- hosts and links
bare_host : (name : List ℕ) → IsName name → IsHost two_boxes (record { name = name; sends = []; forbids = [] })
bare_host name named = record {
  named = named;
  sends = All-nil (IsPattern two_boxes);
  forbids = All-nil (IsPattern two_boxes);
}

pattern_sound : IsPattern two_boxes pattern
pattern_sound = record { places = refl; fits = λ k x e. fits k x e }
  where
    nothing_fixed : (n k : ℕ) → fixed_at (replicate n None) k ≡ None
    nothing_fixed zero k = refl
    nothing_fixed (suc n) zero = refl
    nothing_fixed (suc n) (suc k) = nothing_fixed n k

    fits : (k x : ℕ) → fixed_at pattern k ≡ Some x → (k < 1) × (x < slice_index (2 ∷ []) k)
    fits zero x e = let same : 1 ≡ x = cc in (lit< tt, omega arith)
    fits (suc k) x e = absurd (let never : None ≡ Some x = sym (nothing_fixed 7 k) ∙ e in cc)

host_q : IsHost two_boxes (record { name = codes "q"; sends = []; forbids = pattern ∷ [] })
host_q = record {
  named = by_bytes (codes "q") (refl, refl) (lit≤ tt) refl;
  sends = All-nil (IsPattern two_boxes);
  forbids = only (IsPattern two_boxes) pattern pattern_sound;
}

two_wiring : IsWired two_boxes
two_wiring = record {
  hosts = All-from_recursion (IsHost two_boxes) two_boxes.hosts (
    bare_host (codes "p") (by_bytes (codes "p") (refl, refl) (lit≤ tt) refl),
    (host_q, (bare_host (codes "r") (by_bytes (codes "r") (refl, refl) (lit≤ tt) refl), tt)),
  );
  links = both (IsLink two_boxes) one_link other_link
      (record { one = lit< tt; two = lit< tt })
      (record { one = lit< tt; two = lit< tt });
  ends_apart = apart_by nat_eq (λ x y e. eqb-false x y e) (linked_ends two_boxes) refl;
}

-- limits
few_arguments : (name : List ℕ) → All (λ relation. length relation.kinds ≤ 4) (of_address name ∷ [])
few_arguments name = only (λ relation. length relation.kinds ≤ 4) (of_address name) (lit≤ tt)

few_tuples : (name : List ℕ) → All (λ relation. tuples_of two_boxes relation ≤ 65536) (of_address name ∷ [])
few_tuples name = only (λ relation. tuples_of two_boxes relation ≤ 65536) (of_address name) (lit≤ tt)

wall_small : IsSmallClass two_boxes wall
wall_small = record {
  ports = lit≤ tt;
  relations = lit≤ tt;
  args = few_arguments (codes "open");
  tuples = few_tuples (codes "open");
  queries = lit≤ tt;
}

tap_small : IsSmallClass two_boxes tap
tap_small = record {
  ports = lit≤ tt;
  relations = lit≤ tt;
  args = few_arguments (codes "seen");
  tuples = few_tuples (codes "seen");
  queries = lit≤ tt;
}

two_limits : HasLimits two_boxes
two_limits = record {
  kinds = lit≤ tt;
  classes = lit≤ tt;
  class = both (IsSmallClass two_boxes) wall tap wall_small tap_small;
  hosts = lit≤ tt;
  boxes = lit≤ tt;
  box = both IsSmallBox box_w box_t (lit≤ tt) (lit≤ tt);
  sends = lit≤ tt;
  forbids = lit≤ tt;
  cells = lit≤ tt;
}

-- what a handler that asks is as plain data
abbrev asking_body : List Query → Body
asking_body queries = Fork (OneBranch (Either (all_of (map Holds queries)) Neither) Stop NoBranch) Stop

module _ (bodies : BodiesAreRead) (formulas : FormulasAreRead) where
  probes_read : (queries : List Query) → map formula_of_probe (map probe.Has queries) ≡ map Holds queries
  probes_read [] = refl
  probes_read (query ∷ queries) = λ i. formulas.has query i ∷ probes_read queries i

  asking_read : (queries : List Query) → body_of (asking queries) ≡ asking_body queries
  asking_read queries =
      bodies.choose (record { guard = record { any = map probe.Has queries ∷ [] }; body = [] } ∷ []) []
      ∙ ap (λ branches. Fork branches Stop)
      (bodies.branch (record { guard = record { any = map probe.Has queries ∷ [] }; body = [] }) []
      ∙ ap (λ guard. OneBranch guard Stop NoBranch)
      (formulas.test (record { any = map probe.Has queries ∷ [] })
      ∙ ap (λ asked. Either (all_of asked) Neither) (probes_read queries)))

  wall_read : body_of (asking (open_dst ∷ [])) ≡ asking_body (open_dst ∷ [])
  wall_read = asking_read (open_dst ∷ [])

  tap_read : body_of (asking (seen_a ∷ seen_b ∷ [])) ≡ asking_body (seen_a ∷ seen_b ∷ [])
  tap_read = asking_read (seen_a ∷ seen_b ∷ [])

  wall_fits : Fits (surroundings_of two_boxes wall) (asking_body (open_dst ∷ [])) []
  wall_fits =
      let asks_open : QueryFits (surroundings_of two_boxes wall) [] open_dst = (0 ∷ [], refl, (refl, tt)) in
      ((((asks_open, tt), tt), tt, tt), tt)

  wall_handled : IsHandled two_boxes wall
  wall_handled = record {
    one_each = refl;
    fits = both (λ acts. Fits (surroundings_of two_boxes wall) (body_of acts) []) (asking (open_dst ∷ [])) []
        (subst (λ (body : Body). Fits (surroundings_of two_boxes wall) body []) (sym wall_read) wall_fits)
        tt;
    queries = λ i. first_occurrences (asked_by (sym wall_read i) [] ++ (asked_by Stop [] ++ []));
    statements = subst (λ (body : Body). sum_by statements_of (body ∷ Stop ∷ []) ≤ 1024) (sym wall_read) (lit≤ tt);
    literals = subst (λ (body : Body). sum_by literals_of (body ∷ Stop ∷ []) ≤ 4096) (sym wall_read) (lit≤ tt);
    paths = both (λ acts. paths_of (body_of acts) ≤ 1024) (asking (open_dst ∷ [])) []
        (subst (λ (body : Body). paths_of body ≤ 1024) (sym wall_read) (lit≤ tt))
        (lit≤ tt);
  }

  tap_fits : Fits (surroundings_of two_boxes tap) (asking_body (seen_a ∷ seen_b ∷ [])) []
  tap_fits =
      let asks_a : QueryFits (surroundings_of two_boxes tap) [] seen_a = (0 ∷ [], refl, ((2, refl, lit< tt), tt)) in
      let asks_b : QueryFits (surroundings_of two_boxes tap) [] seen_b = (0 ∷ [], refl, ((2, refl, lit< tt), tt)) in
      ((((asks_a, (asks_b, tt)), tt), tt, tt), tt)

  tap_handled : IsHandled two_boxes tap
  tap_handled = record {
    one_each = refl;
    fits = only (λ acts. Fits (surroundings_of two_boxes tap) (body_of acts) []) (asking (seen_a ∷ seen_b ∷ []))
        (subst (λ (body : Body). Fits (surroundings_of two_boxes tap) body []) (sym tap_read) tap_fits);
    queries = λ i. first_occurrences (asked_by (sym tap_read i) [] ++ []);
    statements = subst (λ (body : Body). sum_by statements_of (body ∷ []) ≤ 1024) (sym tap_read) (lit≤ tt);
    literals = subst (λ (body : Body). sum_by literals_of (body ∷ []) ≤ 4096) (sym tap_read) (lit≤ tt);
    paths = only (λ acts. paths_of (body_of acts) ≤ 1024) (asking (seen_a ∷ seen_b ∷ []))
        (subst (λ (body : Body). paths_of body ≤ 1024) (sym tap_read) (lit≤ tt));
  }

  pub boxes_are_sound : BoxesAreSound
  boxes_are_sound = record {
    headers = two_headers;
    names = two_names;
    classes = two_classes;
    wiring = two_wiring;
    limits = two_limits;
    handlers = both (IsHandled two_boxes) wall tap wall_handled tap_handled;
  }
