-- Ends by their places, and the links between them.
use Rattle.std.proofs.Common.{◌≡◌, ℕ, inl, inr, sym, subst, ◌∙◌}
use Rattle.net_plan.specs.declared.plan.Plan.{Plan}
use Rattle.net_plan.specs.declared.fact.Place.{Place}
use Rattle.net_plan.specs.declared.fact.Place.TheVariants.{Host, Port}
use Rattle.net_plan.specs.Ends.{IsEndAt, IsLinked}
use Rattle.net_plan.specs.Laws.{PartnerIsUnique}
use Rattle.net_plan.specs.Sound.{IsSound}
use Rattle.net_plan.proofs.EndLemmas.{host_ends, port_ends, end_once}
use Rattle.packet_domain.specs.Reasons.{LeadsTo}

-- a place has one end
pub end_settled : (plan : Plan) (one two : ℕ) (place : Place) → IsEndAt plan one place → IsEndAt plan two place →
    one ≡ two
end_settled plan one two (Host host) first second =
    ((host_ends plan one host).0 first).1 ∙ sym ((host_ends plan two host).0 second).1
end_settled plan one two (Port box port) first second =
    ((port_ends plan one box port).0 first).2 ∙ sym ((port_ends plan two box port).0 second).2

-- links lead both ways
pub linked_back : (plan : Plan) (end other : ℕ) → IsLinked plan end other → IsLinked plan other end
linked_back plan end other (link, there, inl joins) = (link, there, inr joins)
linked_back plan end other (link, there, inr joins) = (link, there, inl joins)

not_host : {host box port : ℕ} → Host host ≡ Port box port → ⊥
not_host e = cc

-- an end that leads to a place which is no port leads to no port
module _ (unique : PartnerIsUnique) (plan : Plan) (sound : IsSound plan) (end other : ℕ)
    (linked : IsLinked plan end other) where
  at_other : (box port : ℕ) → LeadsTo plan end box port → IsEndAt plan other (Port box port)
  at_other box port (second, also, there) =
      subst (λ (o : ℕ). IsEndAt plan o (Port box port)) (unique plan end second other sound also linked) there

  pub leads_to_host : (host box port : ℕ) → IsEndAt plan other (Host host) → LeadsTo plan end box port → ⊥
  leads_to_host host box port at_host leads =
      not_host (end_once plan other (Host host) (Port box port) at_host (at_other box port leads))

  same_box : {one one_port two two_port : ℕ} → Port one one_port ≡ Port two two_port → one ≡ two
  same_box e = cc

  pub leads_once : (one one_port two two_port : ℕ) → LeadsTo plan end one one_port →
      LeadsTo plan end two two_port → one ≡ two
  leads_once one one_port two two_port first second =
      same_box (end_once plan other (Port one one_port) (Port two two_port) (at_other one one_port first)
      (at_other two two_port second))

-- the end before a port
pub none_before : (plan : Plan) (at box port : ℕ) → IsEndAt plan at (Port box port) →
    ((other : ℕ) → IsLinked plan at other → ⊥) → (end : ℕ) → LeadsTo plan end box port → ⊥
none_before plan at box port here none end (other, linked, there) =
    none end
    (linked_back plan end at
    (subst (λ (o : ℕ). IsLinked plan end o) (end_settled plan other at (Port box port) there here) linked))

pub once_before : PartnerIsUnique → (plan : Plan) → IsSound plan → (one two box port : ℕ) →
    LeadsTo plan one box port → LeadsTo plan two box port → one ≡ two
once_before unique plan sound one two box port (first, linked, there) (second, also, here) =
    unique plan second one two sound
    (linked_back plan one second
    (subst (λ (o : ℕ). IsLinked plan one o) (end_settled plan first second (Port box port) there here) linked))
    (linked_back plan two second also)
