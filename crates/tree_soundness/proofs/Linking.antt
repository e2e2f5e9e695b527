-- The ends of links: each is an end of the plan, and two ends of one number are the same.
use Rattle.std.proofs.Common.{
  ◌≡◌,
  ℕ,
  zero,
  suc,
  ◌+◌,
  ◌<◌,
  true,
  false,
  nat_eq,
  List,
  [],
  ◌∷◌,
  ◌++◌,
  length,
  map,
  Some,
  is_none,
  option_map,
  option_and_then,
  slice_get,
  refl,
  sym,
  ap,
  subst,
  ◌∙◌,
  arith,
  eqb-true,
  eq-eqb,
}
use Rattle.std.specs.List.{list_any, range_with_len, position_from}
use Rattle.std.proofs.lemmas.Bool.{or_parts, or_left, or_right, and_parts, and_from, both_ways}
use Rattle.std.proofs.lemmas.List.{map-append}
use Rattle.std.proofs.lemmas.List.Folds.{list_any-append}
use Rattle.std.proofs.lemmas.Option.{none-some, same_Some, option_and_then_some, slice_get_within}
use Rattle.amdl_tree.specs.declared.class.Class.{Class}
use Rattle.amdl_tree.specs.declared.tree.End.{End}
use Rattle.amdl_tree.specs.declared.tree.End.TheVariants.{Host as AtHost, Port as AtPort}
use Rattle.amdl_tree.specs.declared.tree.Item.{Item}
use Rattle.amdl_tree.specs.declared.tree.Item.TheVariants.{Link}
use Rattle.amdl_tree.specs.Items.{BoxItem, host_items, box_items, link_items}
use Rattle.net_plan.specs.declared.plan.Plan.{Plan}
use Rattle.net_plan.specs.declared.plan.BoxPlan.{BoxPlan}
use Rattle.net_plan.specs.declared.plan.ClassPlan.{ClassPlan}
use Rattle.net_plan.specs.declared.fact.Place.{Place}
use Rattle.net_plan.specs.declared.fact.Place.TheVariants.{Host, Port}
use Rattle.net_plan.specs.Plan as plan
use Rattle.net_plan.specs.Ends.{host_places, box_places, port_places, places_of}
use Rattle.tree_plan.specs.Names.{same_name, number_of, all_some}
use Rattle.tree_plan.specs.Net.{class_named, place_of, same_place}
use Rattle.tree_rules.specs.declared.rule.Rule.TheVariants.{UnknownName}
use Rattle.tree_rules.specs.Rules.{same_end}
use Rattle.tree_soundness.proofs.Parts.{host_from, box_from, port_from, box_number_from, end_from, link_from}
use Rattle.tree_soundness.proofs.Prefixes.{KeepsRules}
use Rattle.tree_soundness.proofs.Names.{number_is, number_front, some_found, found_first, same_self}
use Rattle.tree_soundness.proofs.Lists.{option_map_some, some_come, come_from, zip_get, zip_length, get_in_front}
use Rattle.tree_soundness.proofs.Forms.{each_link, hosts_split, boxes_split}
use Rattle.tree_soundness.proofs.Existence.{Comes, comes_joined, not_none}
use Rattle.tree_soundness.proofs.Nodes.{class_front}
use Rattle.tree_soundness.proofs.Spelled.{HasParts, class_parts, IsBoxOf, box_parts, box_class}

-- the place of an end that is known before is the same among all
host_front : (items before rest : List Item) (name : List ℕ) (k : ℕ) → items ≡ before ++ rest →
    number_of (host_items before) name ≡ Some k → number_of (host_items items) name ≡ Some k
host_front items before rest name k whole found =
    ap (λ names. number_of names name) (hosts_split items before rest whole)
    ∙ number_front (host_items before) (host_items rest) name k found

box_number_front : (items before rest : List Item) (name : List ℕ) (k : ℕ) → items ≡ before ++ rest →
    box_number_from before name ≡ Some k → box_number_from items name ≡ Some k
box_number_front items before rest name k whole found =
    ap (λ boxes. number_of (map (λ box. box.name) boxes) name) (boxes_split items before rest whole)
    ∙ ap (λ names. number_of names name) (map-append (λ (box : BoxItem). box.name) (box_items before) (box_items rest))
    ∙ number_front (map (λ box. box.name) (box_items before)) (map (λ box. box.name) (box_items rest)) name k found

port_front : (items before rest : List Item) (port : List ℕ) (box : BoxItem) (k : ℕ) → items ≡ before ++ rest →
    port_from before port box ≡ Some k → port_from items port box ≡ Some k
port_front items before rest port box k whole found =
    option_and_then_some (λ (class : Class). number_of class.ports port) (class_named before box.class) k found
    (λ class named number.
    ap (option_and_then (λ (class : Class). number_of class.ports port))
    (class_front items before rest box.class class whole named).3 ∙ number)

pub place_front : (items before rest : List Item) (end : End) (place : Place) → items ≡ before ++ rest →
    place_of before end ≡ Some place → place_of items end ≡ Some place
place_front items before rest (AtHost host) place whole found =
    option_map_some Host (number_of (host_items before) host) place found
    (λ k number is. ap (option_map Host) (host_front items before rest host k whole number) ∙ ap Some is)
place_front items before rest (AtPort box port) place whole found =
    option_and_then_some
    (λ number. option_map (Port number)
    (option_and_then (port_from before port) (slice_get (box_items before) number)))
    (box_number_from before box) place found
    (λ number numbered mapped.
    option_map_some (Port number)
    (option_and_then (port_from before port) (slice_get (box_items before) number)) place mapped
    (λ k ported is.
    option_and_then_some (port_from before port) (slice_get (box_items before) number) k ported
    (λ (item : BoxItem) at of_port.
    let at_more : slice_get (box_items items) number ≡ Some item =
    ap (λ boxes. slice_get boxes number) (boxes_split items before rest whole)
    ∙ get_in_front (box_items before) (box_items rest) number item at in
    ap (option_and_then
    (λ number. option_map (Port number)
    (option_and_then (port_from items port) (slice_get (box_items items) number))))
    (box_number_front items before rest box number whole numbered)
    ∙ ap (λ o. option_map (Port number) (option_and_then (port_from items port) o)) at_more
    ∙ ap (option_map (Port number)) (port_front items before rest port item k whole of_port)
    ∙ ap Some is)))

-- places are told apart
pub same_place_is : (one two : Place) → same_place one two ≡ true → one ≡ two
same_place_is (Host one) (Host two) same = ap Host (eqb-true one two same)
same_place_is (Host one) (Port two other) same = absurd (both_ways false refl same)
same_place_is (Port one port) (Host two) same = absurd (both_ways false refl same)
same_place_is (Port one port) (Port two other) same =
    let parts = and_parts (nat_eq one two) (nat_eq port other) same in
    λ i. Port (eqb-true one two parts.0 i) (eqb-true port other parts.1 i)

pub same_place_self : (place : Place) → same_place place place ≡ true
same_place_self (Host one) = eq-eqb one one refl
same_place_self (Port one port) =
    and_from (nat_eq one one) (nat_eq port port) (eq-eqb one one refl) (eq-eqb port port refl)

-- a number of a range
in_range : (place : ℕ → Place) (start count k : ℕ) → k < count →
    list_any (same_place (place (start + k))) (map place (range_with_len start count)) ≡ true
in_range place start zero k below = absurd (omega arith)
in_range place start (suc count) zero below =
    let e : start + 0 ≡ start = omega arith in
    or_left (same_place (place (start + 0)) (place start))
    (list_any (same_place (place (start + 0))) (map place (range_with_len (start + 1) count)))
    (subst (λ k. same_place (place k) (place start) ≡ true) (sym e) (same_place_self (place start)))
in_range place start (suc count) (suc k) below =
    let e : start + 1 + k ≡ start + suc k = omega arith in
    or_right (same_place (place (start + suc k)) (place start))
    (list_any (same_place (place (start + suc k))) (map place (range_with_len (start + 1) count)))
    (subst (λ j. list_any (same_place (place j)) (map place (range_with_len (start + 1) count)) ≡ true) e
    (in_range place (start + 1) count k (omega arith)))

in_first_range : (place : ℕ → Place) (count k : ℕ) → k < count →
    list_any (same_place (place k)) (map place (range_with_len 0 count)) ≡ true
in_first_range place count k below =
    let e : 0 + k ≡ k = omega arith in
    subst (λ j. list_any (same_place (place j)) (map place (range_with_len 0 count)) ≡ true) e
    (in_range place 0 count k below)

in_ports : (spelled : Plan) (start : ℕ) (boxes : List BoxPlan) (j k : ℕ) (box : BoxPlan) →
    slice_get boxes j ≡ Some box → k < plan.ports_of spelled box →
    list_any (same_place (Port (start + j) k)) (port_places spelled start boxes) ≡ true
in_ports spelled start [] j k box at below = absurd (none-some box at)
in_ports spelled start (one ∷ boxes) zero k box at below =
    let e : start + 0 ≡ start = omega arith in
    let here : list_any (same_place (Port start k)) (box_places spelled start one) ≡ true =
    in_first_range (Port start) (plan.ports_of spelled one) k
    (subst (λ box. k < plan.ports_of spelled box) (sym (same_Some one box at)) below) in
    subst (λ j. list_any (same_place (Port j k)) (port_places spelled start (one ∷ boxes)) ≡ true) (sym e)
    (list_any-append (same_place (Port start k)) (box_places spelled start one) (port_places spelled (start + 1) boxes)
    ∙ or_left (list_any (same_place (Port start k)) (box_places spelled start one))
    (list_any (same_place (Port start k)) (port_places spelled (start + 1) boxes)) here)
in_ports spelled start (one ∷ boxes) (suc j) k box at below =
    let e : start + 1 + j ≡ start + suc j = omega arith in
    let test = same_place (Port (start + suc j) k) in
    let later : list_any test (port_places spelled (start + 1) boxes) ≡ true =
    subst (λ b. list_any (same_place (Port b k)) (port_places spelled (start + 1) boxes) ≡ true) e
    (in_ports spelled (start + 1) boxes j k box at below) in
    list_any-append test (box_places spelled start one) (port_places spelled (start + 1) boxes)
    ∙ or_right (list_any test (box_places spelled start one))
    (list_any test (port_places spelled (start + 1) boxes)) later

module _ (items : List Item) (spelled : Plan) (parts : HasParts items spelled) where
  pub hosts_counted : length spelled.hosts ≡ length (host_items items)
  hosts_counted =
      zip_length (λ name host. host_from items name ≡ Some host) (host_items items) spelled.hosts
      (come_from (host_from items) (host_items items) spelled.hosts parts.hosts)

  -- a box of the plan has the ports of its class
  pub box_at : (number : ℕ) (box : BoxItem) → slice_get (box_items items) number ≡ Some box →
      (found : BoxPlan) × (slice_get spelled.boxes number ≡ Some found) × (box_from items box ≡ Some found)
  box_at number box at =
      zip_get (λ box found. box_from items box ≡ Some found) (box_items items) spelled.boxes number box
      (come_from (box_from items) (box_items items) spelled.boxes parts.boxes) at

  pub ports_are : (box : BoxItem) (found : BoxPlan) (of : IsBoxOf items box found) →
      (plan.class_of spelled found).ports ≡ of.of_class.ports
  ports_are box found of =
      let at = box_class items spelled parts box found of in
      ap (λ (class : ClassPlan). class.ports) at.is ∙ (class_parts items of.of_class at.found at.comes).ports

  -- the place of an end is a place of the plan
  pub place_there : (end : End) (place : Place) → place_of items end ≡ Some place →
      list_any (same_place place) (places_of spelled) ≡ true
  place_there (AtHost host) place found =
      option_map_some Host (number_of (host_items items) host) place found
      (λ k number is.
      let below : k < length spelled.hosts =
      omega (
        arith,
        hosts_counted,
        slice_get_within (host_items items) k host (number_is (host_items items) host k number),
      ) in
      subst (λ place. list_any (same_place place) (places_of spelled) ≡ true) is
      (list_any-append (same_place (Host k)) (host_places spelled) (port_places spelled 0 spelled.boxes)
      ∙ or_left (list_any (same_place (Host k)) (host_places spelled))
      (list_any (same_place (Host k)) (port_places spelled 0 spelled.boxes))
      (in_first_range Host (length spelled.hosts) k below)))
  place_there (AtPort box port) place found =
      option_and_then_some
      (λ number. option_map (Port number)
      (option_and_then (port_from items port) (slice_get (box_items items) number)))
      (box_number_from items box) place found
      (λ number numbered mapped.
      option_map_some (Port number)
      (option_and_then (port_from items port) (slice_get (box_items items) number)) place mapped
      (λ k ported is.
      option_and_then_some (port_from items port) (slice_get (box_items items) number) k ported
      (λ (item : BoxItem) at of_port.
      let found = box_at number item at in
      let of = box_parts items item found.0 found.2 in
      let k_is : number_of of.of_class.ports port ≡ Some k =
      sym (ap (option_and_then (λ (class : Class). number_of class.ports port)) of.named) ∙ of_port in
      let inside : k < length of.of_class.ports =
      slice_get_within of.of_class.ports k port (number_is of.of_class.ports port k k_is) in
      let below : k < plan.ports_of spelled found.0 =
      subst (λ ports. k < length ports) (sym (ports_are item found.0 of)) inside in
      let e : 0 + number ≡ number = omega arith in
      let test = same_place (Port number k) in
      let there : list_any test (port_places spelled 0 spelled.boxes) ≡ true =
      subst (λ b. list_any (same_place (Port b k)) (port_places spelled 0 spelled.boxes) ≡ true) e
      (in_ports spelled 0 spelled.boxes number k found.0 found.1 below) in
      subst (λ place. list_any (same_place place) (places_of spelled) ≡ true) is
      (list_any-append test (host_places spelled) (port_places spelled 0 spelled.boxes)
      ∙ or_right (list_any test (host_places spelled)) (list_any test (port_places spelled 0 spelled.boxes)) there))))

  -- an end of a link is an end of the plan
  pub end_comes : (before rest : List Item) (end : End) → items ≡ before ++ rest →
      is_none (place_of before end) ≡ false → Comes (end_from items (places_of spelled) end)
  end_comes before rest end whole known =
      let place = not_none (place_of before end) known in
      let among = place_front items before rest end place.0 whole place.1 in
      let at = some_found (same_place place.0) 0 (places_of spelled) (place_there end place.0 among) in
      (at.0, ap (option_and_then (λ place. position_from (same_place place) 0 (places_of spelled))) among ∙ at.1)

  pub links_come : KeepsRules items → Comes (all_some (link_from items (places_of spelled)) (link_items items))
  links_come keeps =
      some_come (link_from items (places_of spelled)) (link_items items)
      (each_link items (λ link. Comes (link_from items (places_of spelled) link))
      (λ before link after whole.
      let known =
      or_parts (is_none (place_of before link.one)) (is_none (place_of before link.two))
      (keeps.each UnknownName before (Link link.one link.two) after whole) in
      comes_joined (λ one two. record { one = one; two = two }) (end_from items (places_of spelled) link.one)
      (end_from items (places_of spelled) link.two)
      (end_comes before (Link link.one link.two ∷ after) link.one whole known.0)
      (end_comes before (Link link.one link.two ∷ after) link.two whole known.1)))

-- an end of the plan is below their number, and stands at its place
pub end_at : (items : List Item) (places : List Place) (end : End) (k : ℕ) → end_from items places end ≡ Some k →
    (place : Place) × (place_of items end ≡ Some place) × (slice_get places k ≡ Some place)
end_at items places end k found =
    option_and_then_some (λ place. position_from (same_place place) 0 places) (place_of items end) k found
    (λ place placed at.
    let first = found_first (same_place place) places k at in
    (place, placed, first.1 ∙ ap Some (sym (same_place_is place first.0 first.2))))

pub end_below : (items : List Item) (places : List Place) (end : End) (k : ℕ) → end_from items places end ≡ Some k →
    k < length places
end_below items places end k found = let at = end_at items places end k found in slice_get_within places k at.0 at.2

-- two ends at one place are the same
same_number : (names : List (List ℕ)) (one two : List ℕ) (k : ℕ) → number_of names one ≡ Some k →
    number_of names two ≡ Some k → same_name one two ≡ true
same_number names one two k first second =
    subst (λ name. same_name one name ≡ true)
    (same_Some one two (sym (number_is names one k first) ∙ number_is names two k second)) (same_self one)

host_not_port : (k number port : ℕ) → Host k ≡ Port number port → ⊥
host_not_port k number port same = cc

-- where a port's end is
port_place : (items : List Item) (box port : List ℕ) (place : Place) → place_of items (AtPort box port) ≡ Some place →
    (number : ℕ) × (k : ℕ) × (item : BoxItem) × (class : Class) × (place ≡ Port number k)
    × (box_number_from items box ≡ Some number)
    × (slice_get (box_items items) number ≡ Some item) × (class_named items item.class ≡ Some class)
    × (number_of class.ports port ≡ Some k)
port_place items box port place found =
    option_and_then_some
    (λ number. option_map (Port number) (option_and_then (port_from items port) (slice_get (box_items items) number)))
    (box_number_from items box) place found
    (λ number numbered mapped.
    option_map_some (Port number)
    (option_and_then (port_from items port) (slice_get (box_items items) number)) place mapped
    (λ k ported is.
    option_and_then_some (port_from items port) (slice_get (box_items items) number) k ported
    (λ (item : BoxItem) at of_port.
    option_and_then_some (λ (class : Class). number_of class.ports port) (class_named items item.class) k of_port
    (λ class named k_is. (number, k, item, class, sym is, numbered, at, named, k_is)))))

port_same : (one two port other : ℕ) → Port one port ≡ Port two other → (one ≡ two) × (port ≡ other)
port_same one two port other same = (cc, cc)

pub places_apart : (items : List Item) (one two : End) (place : Place) → place_of items one ≡ Some place →
    place_of items two ≡ Some place → same_end one two ≡ true
places_apart items (AtHost one) (AtHost two) place first second =
    option_map_some Host (number_of (host_items items) one) place first
    (λ k k_number k_is.
    option_map_some Host (number_of (host_items items) two) place second
    (λ l l_number l_is.
    let e : k ≡ l = host_same k l (k_is ∙ sym l_is) in
    same_number (host_items items) one two k k_number (l_number ∙ ap Some (sym e))))
  where
    host_same : (k l : ℕ) → Host k ≡ Host l → k ≡ l
    host_same k l same = cc
places_apart items (AtHost one) (AtPort two port) place first second =
    option_map_some Host (number_of (host_items items) one) place first
    (λ k k_number k_is. let at = port_place items two port place second in absurd
    (host_not_port k at.0 at.1 (k_is ∙ at.4)))
places_apart items (AtPort one port) (AtHost two) place first second =
    option_map_some Host (number_of (host_items items) two) place second
    (λ k k_number k_is. let at = port_place items one port place first in absurd
    (host_not_port k at.0 at.1 (k_is ∙ at.4)))
places_apart items (AtPort one port) (AtPort two other) place first second =
    let a = port_place items one port place first in
    let b = port_place items two other place second in
    let same = port_same a.0 b.0 a.1 b.1 (sym a.4 ∙ b.4) in
    let box : a.2 ≡ b.2 = same_Some a.2 b.2 (sym a.6 ∙ ap (slice_get (box_items items)) same.0 ∙ b.6) in
    let class : a.3 ≡ b.3 =
    same_Some a.3 b.3 (sym a.7 ∙ ap (λ (item : BoxItem). class_named items item.class) box ∙ b.7) in
    and_from (same_name one two) (same_name port other)
    (same_number (map (λ box. box.name) (box_items items)) one two a.0 a.5 (b.5 ∙ ap Some (sym same.0)))
    (same_number a.3.ports port other a.1 a.8
    (ap (λ (class : Class). number_of class.ports other) class ∙ b.8 ∙ ap Some (sym same.1)))

pub ends_apart : (items : List Item) (places : List Place) (one two : End) (k : ℕ) →
    end_from items places one ≡ Some k →
    end_from items places two ≡ Some k → same_end one two ≡ true
ends_apart items places one two k first second =
    let a = end_at items places one k first in
    let b = end_at items places two k second in
    let same : a.0 ≡ b.0 = same_Some a.0 b.0 (sym a.2 ∙ b.2) in
    places_apart items one two a.0 a.1 (b.1 ∙ ap Some (sym same))
