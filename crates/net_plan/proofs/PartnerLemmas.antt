-- The table of partners as links are told to it.
use Rattle.std.proofs.Common.{◌≡◌, ◌≢◌, ℕ, ◌+◌, ◌<◌, List, [], ◌∷◌, ◌++◌, Option, Some, None, MatchOption, length, take}
use Rattle.std.proofs.Common.{slice_set, slice_index_or, refl, sym, ap, subst, ◌∙◌, ◌⊎◌, inl, inr, arith}
use Rattle.std.proofs.Math.ListN.{length-set}
use Rattle.std.proofs.lemmas.Bool.{cases_eq}
use Rattle.std.proofs.lemmas.List.{take_more, get_or-set_same, get_or-set_other}
use Rattle.std.proofs.lemmas.List.FromFn.{fill_by_all}
use Rattle.std.proofs.lemmas.List.Elements.{Contains-append_left, Contains-push, Contains-push_cases}
use Rattle.net_plan.specs.declared.plan.Plan.{Plan}
use Rattle.net_plan.specs.declared.plan.LinkPlan.{LinkPlan}
use Rattle.net_plan.specs.Ends.{ends_of, Joins, IsLinkedBy, partner_of}
use Rattle.net_plan.specs.Kept.{partners_of}
use Rattle.net_plan.specs.Sound.{IsLink, IsSound}
use Rattle.net_plan.proofs.Linked.{partner_settled}

-- what an entry of the table says of the links
abbrev pub Tells : List LinkPlan → ℕ → Option ℕ → Type 0
Tells links end found = MatchOption found ((other : ℕ) → IsLinkedBy links end other → ⊥) (IsLinkedBy links end)

abbrev pub AllTold : List LinkPlan → List (Option ℕ) → ℕ → Type 0
AllTold links table ends = (end : ℕ) → end < ends → Tells links end (slice_index_or table end None)

older : (links : List LinkPlan) (link : LinkPlan) (end other : ℕ) → IsLinkedBy links end other →
    IsLinkedBy (links ++ link ∷ []) end other
older links link end other linked = (linked.0, Contains-append_left links (link ∷ []) linked.0 linked.1, linked.2)

newer : (links : List LinkPlan) (link : LinkPlan) (end other : ℕ) → Joins link end other →
    IsLinkedBy (links ++ link ∷ []) end other
newer links link end other joins = (link, Contains-push links link, joins)

either : (links : List LinkPlan) (link : LinkPlan) (end other : ℕ) → IsLinkedBy (links ++ link ∷ []) end other →
    IsLinkedBy links end other ⊎ Joins link end other
either links link end other linked =
    elim (Contains-push_cases links link linked.0 linked.1) [
      | inl old ↦ inl (linked.0, old, linked.2)
      | inr same ↦ inr (subst (λ (l : LinkPlan). Joins l end other) (sym same) linked.2)
    ]

-- an end that the link doesn't have
kept : (links : List LinkPlan) (link : LinkPlan) (end : ℕ) (found : Option ℕ) → end ≢ link.one → end ≢ link.two →
    Tells links end found → Tells (links ++ link ∷ []) end found
kept links link end (Some other) not_one not_two linked = older links link end other linked
kept links link end None not_one not_two none = λ other linked.
    elim (either links link end other linked) [
      | inl old ↦ none other old
      | inr joins ↦ elim joins [ inl here ↦ not_one (sym here.0) | inr here ↦ not_two (sym here.1) ]
    ]

one_more : (links : List LinkPlan) (link : LinkPlan) (table : List (Option ℕ)) (ends : ℕ) → length table ≡ ends →
    link.one < ends → link.two < ends → AllTold links table ends →
    AllTold (links ++ link ∷ []) (slice_set (slice_set table link.one (Some link.two)) link.two (Some link.one)) ends
one_more links link table ends room one two told end less =
    let first : List (Option ℕ) = slice_set table link.one (Some link.two) in
    let long : length first ≡ length table = length-set table link.one (Some link.two) in
    elim (cases_eq end link.two) [
      | inl same ↦
          let here : slice_index_or (slice_set first link.two (Some link.one)) end None ≡ Some link.one =
          ap (λ (e : ℕ). slice_index_or (slice_set first link.two (Some link.one)) e None) same
          ∙ get_or-set_same first link.two (Some link.one) None (omega (arith, long, room, two)) in
          subst (Tells (links ++ link ∷ []) end) (sym here) (newer links link end link.one (inr (refl, sym same)))
      | inr not_two ↦
          let outer : slice_index_or (slice_set first link.two (Some link.one)) end None
          ≡ slice_index_or first end None = get_or-set_other first link.two end (Some link.one) None not_two in
          subst (Tells (links ++ link ∷ []) end) (sym outer)
          (elim (cases_eq end link.one) [
            | inl same ↦
                let here : slice_index_or first end None ≡ Some link.two =
                ap (λ (e : ℕ). slice_index_or first e None) same
                ∙ get_or-set_same table link.one (Some link.two) None (omega (arith, room, one)) in
                subst (Tells (links ++ link ∷ []) end) (sym here) (newer links link end link.two (inl (sym same, refl)))
            | inr not_one ↦
                let inner : slice_index_or first end None ≡ slice_index_or table end None =
                get_or-set_other table link.one end (Some link.two) None not_one in
                subst (Tells (links ++ link ∷ []) end) (sym inner)
                (kept links link end (slice_index_or table end None) not_one not_two (told end less))
          ])
    ]

abbrev link_at : List LinkPlan → ℕ → LinkPlan
link_at links i = slice_index_or links i (record { one = 0; two = 0 })

pub record IsStep (plan : Plan) (i ends : ℕ) (new : List (Option ℕ)) : Type 0 where
  pub room : length new ≡ ends
  pub told : AllTold (take (i + 1) plan.links) new ends

pub told_more : (plan : Plan) (links : List LinkPlan) (i ends : ℕ) (table first new : List (Option ℕ)) → IsSound plan →
    links ≡ plan.links → ends ≡ ends_of plan → i < length links →
    length table ≡ ends → AllTold (take i plan.links) table ends →
    first ≡ slice_set table (link_at links i).one (Some (link_at links i).two) →
    new ≡ slice_set first (link_at links i).two (Some (link_at links i).one) → IsStep plan i ends new
told_more plan links i ends table first new sound are is_ends less room told is_first is_new =
    let link : LinkPlan = link_at plan.links i in
    let same : link_at links i ≡ link = ap (λ (l : List LinkPlan). link_at l i) are in
    let in' : i < length plan.links = omega (arith, ap length are, less) in
    let ends' : IsLink plan link = sound.wiring.links i (record { one = 0; two = 0 }) in' in
    let more : take (i + 1) plan.links ≡ take i plan.links ++ link ∷ [] =
    take_more plan.links i (record { one = 0; two = 0 }) in' in
    let first_is : first ≡ slice_set table link.one (Some link.two) =
    is_first ∙ ap (λ (l : LinkPlan). slice_set table l.one (Some l.two)) same in
    let new_is : new ≡ slice_set (slice_set table link.one (Some link.two)) link.two (Some link.one) =
    is_new ∙ ap (λ (l : LinkPlan). slice_set first l.two (Some l.one)) same
    ∙ ap (λ (t : List (Option ℕ)). slice_set t link.two (Some link.one)) first_is in
    record {
      room = ap length new_is ∙ length-set (slice_set table link.one (Some link.two)) link.two (Some link.one)
          ∙ length-set table link.one (Some link.two) ∙ room;
      told = subst (λ (l : List LinkPlan). AllTold l new ends) (sym more)
          (subst (λ (t : List (Option ℕ)). AllTold (take i plan.links ++ link ∷ []) t ends) (sym new_is)
          (one_more (take i plan.links) link table ends room (omega (arith, is_ends, ends'.one))
          (omega (arith, is_ends, ends'.two)) told));
    }

pub all_told : (plan : Plan) (table : List (Option ℕ)) (ends : ℕ) → IsSound plan → ends ≡ ends_of plan →
    length table ≡ ends → AllTold plan.links table ends → table ≡ partners_of plan
all_told plan table ends sound is room told =
    fill_by_all (partner_of plan) table (ends_of plan) None (room ∙ is)
    (λ end less. partner_settled plan end (slice_index_or table end None) sound
    (told end (omega (arith, is, less))))
