-- An end has at most one partner, since no end stands twice in the links of a sound plan.
use Rattle.std.proofs.Common.{◌≡◌, ◌≢◌, ℕ, ◌<◌, List, [], ◌∷◌, Option, Some, None, Bool, ◌==◌, if◌then◌else◌}
use Rattle.std.proofs.Common.{MatchOption, refl, sym, ap, subst, ◌∙◌, ◌⊎◌, inl, inr, ◌↔◌}
use Rattle.std.specs.Option.{option_or}
use Rattle.std.proofs.lemmas.Bool.Decides.{eqb_tells}
use Rattle.std.specs.List.{All, AllPairs, Contains, flat_map}
use Rattle.std.proofs.lemmas.List.Elements.{All-contains}
use Rattle.net_plan.specs.declared.plan.Plan.{Plan}
use Rattle.net_plan.specs.declared.plan.LinkPlan.{LinkPlan}
use Rattle.net_plan.specs.Ends.{ends_of, Joins, IsLinkedBy, IsLinked, far_end_of, partner_among, partner_of}
use Rattle.net_plan.specs.Sound.{AreApart, IsLink, IsSound}
use Rattle.net_plan.proofs.Rising.{contained_cases, head_contained, tail_contained, none_contained, pairs_head}
use Rattle.net_plan.proofs.Rising.{pairs_tail}

abbrev ends_among : List LinkPlan → List ℕ
ends_among links = flat_map (λ link. link.one ∷ link.two ∷ []) links

-- two numbers are not equal
abbrev Apart : ℕ → ℕ → Type 0
Apart one two = one ≢ two

-- an end of one of the links stands among their ends
stands : (links : List LinkPlan) (link : LinkPlan) (end other : ℕ) → Contains links link → Joins link end other →
    Contains (ends_among links) end
stands [] link end other there joins = absurd (none_contained link there)
stands (first ∷ links) link end other there joins =
    elim (contained_cases first link links there) [
      | inl same ↦ elim joins [
        | inl here ↦ subst (Contains (ends_among (first ∷ links))) (ap (λ (l : LinkPlan). l.one) same ∙ here.0)
            (head_contained first.one (first.two ∷ ends_among links))
        | inr here ↦ subst (Contains (ends_among (first ∷ links))) (ap (λ (l : LinkPlan). l.two) same ∙ here.1)
            (tail_contained first.one first.two (first.two ∷ ends_among links)
            (head_contained first.two (ends_among links)))
      ]
      | inr later ↦ tail_contained first.one end (first.two ∷ ends_among links)
          (tail_contained first.two end (ends_among links) (stands links link end other later joins))
    ]

-- no end of the first link stands among the ends of the others
first_alone : (first : LinkPlan) (links : List LinkPlan) (end other : ℕ) → AreApart (ends_among (first ∷ links)) →
    Joins first end other → Contains (ends_among links) end → ⊥
first_alone first links end other apart joins there =
    let behind_one : All (Apart first.one) (first.two ∷ ends_among links) =
    pairs_head Apart first.one (first.two ∷ ends_among links) apart in
    let rest : AllPairs Apart (first.two ∷ ends_among links) =
    pairs_tail Apart first.one (first.two ∷ ends_among links) apart in
    let behind_two : All (Apart first.two) (ends_among links) = pairs_head Apart first.two (ends_among links) rest in
    elim joins [
      | inl here ↦ All-contains (Apart first.one) (first.two ∷ ends_among links) end behind_one
          (tail_contained first.two end (ends_among links) there) here.0
      | inr here ↦ All-contains (Apart first.two) (ends_among links) end behind_two there here.1
    ]

ends_differ : (first : LinkPlan) (links : List LinkPlan) → AreApart (ends_among (first ∷ links)) →
    first.one ≡ first.two → ⊥
ends_differ first links apart same =
    All-contains (Apart first.one) (first.two ∷ ends_among links) first.two
    (pairs_head Apart first.one (first.two ∷ ends_among links) apart)
    (head_contained first.two (ends_among links)) same

first_joins_one : (first : LinkPlan) (links : List LinkPlan) (end f g : ℕ) → AreApart (ends_among (first ∷ links)) →
    Joins first end f → Joins first end g → f ≡ g
first_joins_one first links end f g apart (inl one) (inl two) = sym one.1 ∙ two.1
first_joins_one first links end f g apart (inl one) (inr two) =
    absurd (ends_differ first links apart (one.0 ∙ sym two.1))
first_joins_one first links end f g apart (inr one) (inl two) =
    absurd (ends_differ first links apart (two.0 ∙ sym one.1))
first_joins_one first links end f g apart (inr one) (inr two) = sym one.0 ∙ two.0

linked_cases : (first : LinkPlan) (links : List LinkPlan) (end other : ℕ) → IsLinkedBy (first ∷ links) end other →
    Joins first end other ⊎ IsLinkedBy links end other
linked_cases first links end other linked =
    elim (contained_cases first linked.0 links linked.1) [
      | inl same ↦ inl (subst (λ (l : LinkPlan). Joins l end other) (sym same) linked.2)
      | inr later ↦ inr (linked.0, later, linked.2)
    ]

one_partner : (links : List LinkPlan) (end f g : ℕ) → AreApart (ends_among links) → IsLinkedBy links end f →
    IsLinkedBy links end g → f ≡ g
one_partner [] end f g apart one two = absurd (none_contained one.0 one.1)
one_partner (first ∷ links) end f g apart one two =
    elim (linked_cases first links end f one) [
      | inl here ↦ elim (linked_cases first links end g two) [
        | inl also ↦ first_joins_one first links end f g apart here also
        | inr later ↦ absurd (first_alone first links end f apart here (stands links later.0 end g later.1 later.2))
      ]
      | inr before ↦ elim (linked_cases first links end g two) [
        | inl also ↦ absurd (first_alone first links end g apart also (stands links before.0 end f before.1 before.2))
        | inr later ↦ one_partner links end f g
            (pairs_tail Apart first.two (ends_among links)
            (pairs_tail Apart first.one (first.two ∷ ends_among links) apart)) before later
      ]
    ]

pub partner_is_unique : (plan : Plan) (end f g : ℕ) → IsSound plan → IsLinked plan end f → IsLinked plan end g → f ≡ g
partner_is_unique plan end f g sound one two = one_partner plan.links end f g sound.wiring.ends_apart one two

-- both ends of a link are in range
pub linked_in_range : (plan : Plan) (end other : ℕ) → IsSound plan → IsLinked plan end other → other < ends_of plan
linked_in_range plan end other sound linked =
    let link : IsLink plan linked.0 = All-contains (IsLink plan) plan.links linked.0 sound.wiring.links linked.1 in
    elim linked.2 [
      | inl here ↦ subst (λ (n : ℕ). n < ends_of plan) here.1 link.two
      | inr here ↦ subst (λ (n : ℕ). n < ends_of plan) here.0 link.one
    ]

-- whether an end has a link
far_cases : (link : LinkPlan) (end : ℕ) →
    MatchOption (far_end_of link end) ((other : ℕ) → Joins link end other → ⊥) (Joins link end)
far_cases link end = elim (eqb_tells link.one end) [
  | inl one ↦ subst
      (λ (b : Bool). MatchOption (if b then (Some link.two) else (if link.two == end then (Some link.one) else None))
      ((other : ℕ) → Joins link end other → ⊥) (Joins link end))
      (sym one.0) (inl (one.1, refl))
  | inr not_one ↦ subst
      (λ (b : Bool). MatchOption (if b then (Some link.two) else (if link.two == end then (Some link.one) else None))
      ((other : ℕ) → Joins link end other → ⊥) (Joins link end))
      (sym not_one.0)
      (elim (eqb_tells link.two end) [
        | inl two ↦ subst
            (λ (b : Bool). MatchOption (if b then (Some link.one) else None) ((other : ℕ) → Joins link end other → ⊥)
            (Joins link end)) (sym two.0) (inr (refl, two.1))
        | inr not_two ↦ subst
            (λ (b : Bool). MatchOption (if b then (Some link.one) else None) ((other : ℕ) → Joins link end other → ⊥)
            (Joins link end)) (sym not_two.0)
            (λ other joins. elim joins [ inl here ↦ not_one.1 here.0 | inr here ↦ not_two.1 here.1 ])
      ])
]

behind_first : (link : LinkPlan) (links : List LinkPlan) (end : ℕ) (far partner : Option ℕ) →
    MatchOption far ((other : ℕ) → Joins link end other → ⊥) (Joins link end) →
    MatchOption partner ((other : ℕ) → IsLinkedBy links end other → ⊥) (IsLinkedBy links end) →
    MatchOption (option_or far partner) ((other : ℕ) → IsLinkedBy (link ∷ links) end other → ⊥)
    (IsLinkedBy (link ∷ links) end)
behind_first link links end (Some other) partner here later = (link, head_contained link links, here)
behind_first link links end None (Some other) here later = (later.0, tail_contained link later.0 links later.1, later.2)
behind_first link links end None None here later = λ other linked.
    elim (contained_cases link linked.0 links linked.1) [
      | inl same ↦ here other (subst (λ (l : LinkPlan). Joins l end other) (sym same) linked.2)
      | inr behind ↦ later other (linked.0, behind, linked.2)
    ]

pub partner_cases : (links : List LinkPlan) (end : ℕ) →
    MatchOption (partner_among links end) ((other : ℕ) → IsLinkedBy links end other → ⊥) (IsLinkedBy links end)
partner_cases [] end = λ other linked. none_contained linked.0 linked.1
partner_cases (link ∷ links) end =
    behind_first link links end (far_end_of link end) (partner_among links end) (far_cases link end)
    (partner_cases links end)

abbrev pub HasLink : Plan → ℕ → Type 0
HasLink plan end = (other : ℕ) × IsLinked plan end other

some_partner : (plan : Plan) (end : ℕ) (partner : Option ℕ) →
    MatchOption partner ((other : ℕ) → IsLinked plan end other → ⊥) (IsLinked plan end) →
    HasLink plan end ⊎ ((other : ℕ) → IsLinked plan end other → ⊥)
some_partner plan end None none = inr none
some_partner plan end (Some other) linked = inl (other, linked)

pub link_or_none : (plan : Plan) (end : ℕ) → HasLink plan end ⊎ ((other : ℕ) → IsLinked plan end other → ⊥)
link_or_none plan end = some_partner plan end (partner_of plan end) (partner_cases plan.links end)

pub linked_back : (plan : Plan) (a b : ℕ) → IsLinked plan a b → IsLinked plan b a
linked_back plan a b linked =
    (linked.0, linked.1, elim linked.2 [ inl here ↦ inr (here.0, here.1) | inr here ↦ inl (here.0, here.1) ])

-- two answers that both tell of the links are one
settled_option : {X : Type 0} (P : X → Type 0) (one two : Option X) → ((x y : X) → P x → P y → x ≡ y) →
    MatchOption one ((x : X) → P x → ⊥) P → MatchOption two ((x : X) → P x → ⊥) P → one ≡ two
settled_option P None None once first second = refl
settled_option P None (Some y) once first second = absurd (first y second)
settled_option P (Some x) None once first second = absurd (second x first)
settled_option P (Some x) (Some y) once first second = ap Some (once x y first second)

pub partner_settled : (plan : Plan) (end : ℕ) (found : Option ℕ) → IsSound plan →
    MatchOption found ((other : ℕ) → IsLinked plan end other → ⊥) (IsLinked plan end) → found ≡ partner_of plan end
partner_settled plan end found sound tells =
    settled_option (IsLinked plan end) found (partner_of plan end)
    (λ x y one two. partner_is_unique plan end x y sound one two) tells (partner_cases plan.links end)

pub partner_is_linked : (plan : Plan) (end other : ℕ) → IsSound plan →
    (partner_of plan end ≡ Some other) ↔ IsLinked plan end other
partner_is_linked plan end other sound = (
  λ e. subst (λ (found : Option ℕ). MatchOption found ((o : ℕ) → IsLinked plan end o → ⊥) (IsLinked plan end)) e
      (partner_cases plan.links end),
  λ linked. sym (partner_settled plan end (Some other) sound linked),
)
