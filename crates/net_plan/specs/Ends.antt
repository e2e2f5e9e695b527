-- The ends of a plan, and what the links join.
use Rattle.std.specs.Prelude.{◌≡◌, ℕ, ◌+◌, ◌⊎◌, List, [], ◌∷◌, ◌++◌, Option, Some, None, ◌==◌, if◌then◌else◌, length}
use Rattle.std.specs.Prelude.{map, slice_get}
use Rattle.std.specs.List.{Contains, range_with_len}
use Rattle.std.specs.Option.{option_or}
use Rattle.net_plan.specs.declared.plan.Plan.{Plan}
use Rattle.net_plan.specs.declared.plan.BoxPlan.{BoxPlan}
use Rattle.net_plan.specs.declared.plan.LinkPlan.{LinkPlan}
use Rattle.net_plan.specs.declared.fact.Place.{Place}
use Rattle.net_plan.specs.declared.fact.Place.TheVariants.{Host, Port}
use Rattle.net_plan.specs.Plan.{ports_of, host_at, box_at, port_name_at}

-- a place for each host
abbrev pub host_places : Plan → List Place
host_places plan = map Host (range_with_len 0 (length plan.hosts))

-- a place for each port of the box
abbrev pub box_places : Plan → ℕ → BoxPlan → List Place
box_places plan number box = map (Port number) (range_with_len 0 (ports_of plan box))

-- a place for each port of the boxes, of which the first has this number
abbrev pub port_places : Plan → ℕ → List BoxPlan → List Place
port_places plan number [] = []
port_places plan number (box ∷ boxes) = box_places plan number box ++ port_places plan (number + 1) boxes

-- the ends in their order: hosts first, then the ports of box 0, of box 1 and so on
abbrev pub places_of : Plan → List Place
places_of plan = host_places plan ++ port_places plan 0 plan.boxes

abbrev pub ends_of : Plan → ℕ
ends_of plan = length (places_of plan)

-- the end with this number is there
abbrev pub IsEndAt : Plan → ℕ → Place → Type 0
IsEndAt plan end place = slice_get (places_of plan) end ≡ Some place

-- a host's place has the name of the host alone, and a port's place that of its box and its own
abbrev pub IsPlaceNamed : Plan → List ℕ → Option (List ℕ) → Place → Type 0
IsPlaceNamed plan name None (Host host) = (host_at plan host).name ≡ name
IsPlaceNamed plan name (Some port_name) (Port box port) =
    ((box_at plan box).name ≡ name) × (port_name_at plan (box_at plan box) port ≡ port_name)
IsPlaceNamed plan name port_name place = ⊥

-- the end is at a place of this name
abbrev pub IsEndNamed : Plan → List ℕ → Option (List ℕ) → ℕ → Type 0
IsEndNamed plan name port_name end = (place : Place) × IsEndAt plan end place × IsPlaceNamed plan name port_name place

-- the link leads from the one end to the other, in either direction
abbrev pub Joins : LinkPlan → ℕ → ℕ → Type 0
Joins link end other = ((link.one ≡ end) × (link.two ≡ other)) ⊎ ((link.one ≡ other) × (link.two ≡ end))

-- one of the links leads from the one end to the other, in either direction
abbrev pub IsLinkedBy : List LinkPlan → ℕ → ℕ → Type 0
IsLinkedBy links end other = (link : LinkPlan) × Contains links link × Joins link end other

abbrev pub IsLinked : Plan → ℕ → ℕ → Type 0
IsLinked plan end other = IsLinkedBy plan.links end other

-- the end of the link that isn't this one, where this one is an end of it
abbrev pub far_end_of : LinkPlan → ℕ → Option ℕ
far_end_of link end = if link.one == end then (Some link.two) else (if link.two == end then (Some link.one) else None)

-- the other end of the first link that has the end
abbrev pub partner_among : List LinkPlan → ℕ → Option ℕ
partner_among [] end = None
partner_among (link ∷ links) end = option_or (far_end_of link end) (partner_among links end)

abbrev pub partner_of : Plan → ℕ → Option ℕ
partner_of plan end = partner_among plan.links end
