-- The names of hosts, boxes and ends of a sound plan are names, and each is that of one.
use Rattle.std.proofs.Common.{◌≡◌, ◌<◌, ◌+◌, ℕ, List, [], Some, length, map, slice_index_or, sym}
use Rattle.std.proofs.Common.{refl, ap, ◌∙◌, subst, inl, inr, arith}
use Rattle.std.proofs.lemmas.Bool.{cases_lt}
use Rattle.std.proofs.lemmas.List.{length-append, length-map, get_or-map, get_or-append-add, get_or_append_left}
use Rattle.std.proofs.lemmas.List.Elements.{All-get_or}
use Rattle.amdl_tree.specs.Word.{IsName}
use Rattle.amdl_tree.specs.WellBuilt.{IsBuiltEnd}
use Rattle.net_plan.specs.declared.plan.Plan.{Plan}
use Rattle.net_plan.specs.declared.plan.BoxPlan.{BoxPlan}
use Rattle.net_plan.specs.declared.plan.ClassPlan.{ClassPlan}
use Rattle.net_plan.specs.declared.plan.HostPlan.{HostPlan}
use Rattle.net_plan.specs.declared.fact.Place.{Place}
use Rattle.net_plan.specs.declared.fact.Place.TheVariants.{Host, Port}
use Rattle.net_plan.specs.Plan.{boxes_of, host_at, box_at, class_of, ports_of, port_name_at, IsHostNamed, IsBoxNamed}
use Rattle.net_plan.specs.Ends.{IsEndAt}
use Rattle.net_plan.specs.Kept.{first_end}
use Rattle.net_plan.specs.Sound.{AreApart, nodes_of, IsHost, IsBox, IsClass, IsSound}
use Rattle.net_plan.proofs.EndLemmas.{host_ends, port_ends}
use Rattle.schedule_text.specs.Resolved.{IsEndCalled}
use Rattle.schedule_text.specs.Written.{end_at_place}

-- of names that are apart no two are equal
apart_once : (names : List (List ℕ)) (i j : ℕ) → AreApart names → i < length names → j < length names →
    slice_index_or names i [] ≡ slice_index_or names j [] → i ≡ j
apart_once names i j apart one two same =
    elim (cases_lt i j) [
      | inl before ↦ absurd (apart i j [] before two same)
      | inr least ↦ elim (cases_lt j i) [
        | inl after ↦ absurd (apart j i [] after one (sym same))
        | inr most ↦ (let is : i ≡ j = omega (arith, least, most) in is)
      ]
    ]

abbrev no_host : HostPlan
no_host = record { name = []; sends = []; forbids = [] }

abbrev no_box : BoxPlan
no_box = record { name = []; class = 0; first = [] }

abbrev no_class : ClassPlan
no_class = record { ports = []; relations = []; handlers = []; queries = [] }

module _ (plan : Plan) (sound : IsSound plan) where
  abbrev host_names : List (List ℕ)
  host_names = map (λ (host : HostPlan). host.name) plan.hosts

  abbrev box_names : List (List ℕ)
  box_names = map (λ (box : BoxPlan). box.name) plan.boxes

  hosts_counted : length host_names ≡ length plan.hosts
  hosts_counted = length-map plan.hosts (λ (host : HostPlan). host.name)

  boxes_counted : length box_names ≡ boxes_of plan
  boxes_counted = length-map plan.boxes (λ (box : BoxPlan). box.name)

  nodes_counted : length (nodes_of plan) ≡ length host_names + length box_names
  nodes_counted = length-append host_names box_names

  node_of_host : (host : ℕ) → host < length plan.hosts →
      slice_index_or (nodes_of plan) host [] ≡ (host_at plan host).name
  node_of_host host less =
      get_or_append_left host_names box_names [] host (omega (arith, less, hosts_counted))
      ∙ get_or-map (λ (h : HostPlan). h.name) plan.hosts host no_host [] less

  node_of_box : (box : ℕ) → box < boxes_of plan →
      slice_index_or (nodes_of plan) (length host_names + box) [] ≡ (box_at plan box).name
  node_of_box box less =
      get_or-append-add host_names box_names box []
      ∙ get_or-map (λ (b : BoxPlan). b.name) plan.boxes box no_box [] less

  pub host_once : (name : List ℕ) (one two : ℕ) → IsHostNamed plan name one → IsHostNamed plan name two → one ≡ two
  host_once name one two p q =
      apart_once (nodes_of plan) one two sound.names.nodes (omega (arith, p.0, hosts_counted, nodes_counted))
      (omega (arith, q.0, hosts_counted, nodes_counted))
      (node_of_host one p.0 ∙ p.1 ∙ sym q.1 ∙ sym (node_of_host two q.0))

  pub box_once : (name : List ℕ) (one two : ℕ) → IsBoxNamed plan name one → IsBoxNamed plan name two → one ≡ two
  box_once name one two p q =
      let same =
      apart_once (nodes_of plan) (length host_names + one) (length host_names + two) sound.names.nodes
      (omega (arith, p.0, boxes_counted, nodes_counted)) (omega (arith, q.0, boxes_counted, nodes_counted))
      (node_of_box one p.0 ∙ p.1 ∙ sym q.1 ∙ sym (node_of_box two q.0)) in
      omega (arith, same)

  pub host_named : (host : ℕ) → host < length plan.hosts → IsName (host_at plan host).name
  host_named host less =
      let is : IsHost plan (host_at plan host) = All-get_or (IsHost plan) plan.hosts host no_host less
      sound.wiring.hosts in
      is.named

  box_fits : (box : ℕ) → box < boxes_of plan → IsBox plan (box_at plan box)
  box_fits box less = All-get_or (IsBox plan) plan.boxes box no_box less sound.classes.boxes

  pub box_named : (box : ℕ) → box < boxes_of plan → IsName (box_at plan box).name
  box_named box less = let is = box_fits box less in is.named

  class_fits : (box : ℕ) → box < boxes_of plan → IsClass plan (class_of plan (box_at plan box))
  class_fits box less =
      let is = box_fits box less in
      All-get_or (IsClass plan) plan.classes (box_at plan box).class no_class is.class sound.classes.classes

  port_named : (box port : ℕ) → box < boxes_of plan → port < ports_of plan (box_at plan box) →
      IsName (port_name_at plan (box_at plan box) port)
  port_named box port less inside =
      let is = class_fits box less in
      All-get_or IsName (class_of plan (box_at plan box)).ports port [] inside is.ports

  port_once : (box one two : ℕ) → box < boxes_of plan → one < ports_of plan (box_at plan box) →
      two < ports_of plan (box_at plan box) →
      port_name_at plan (box_at plan box) one ≡ port_name_at plan (box_at plan box) two → one ≡ two
  port_once box one two less p q same =
      let is = class_fits box less in
      apart_once (class_of plan (box_at plan box)).ports one two is.ports_apart p q same

  -- the names of a place that is there
  pub place_built : (end : ℕ) (place : Place) → IsEndAt plan end place → IsBuiltEnd (end_at_place plan (Some place))
  place_built end (Host host) there =
      let is = (host_ends plan end host).0 there in host_named host is.0
  place_built end (Port box port) there =
      let is = (port_ends plan end box port).0 there in (box_named box is.0, port_named box port is.0 is.1)

  pub place_called : (end : ℕ) (place : Place) → IsEndAt plan end place →
      IsEndCalled plan (end_at_place plan (Some place)) end
  place_called end (Host host) there = (Host host, there, refl)
  place_called end (Port box port) there = (Port box port, there, (refl, refl))

  same_host : (end other host second : ℕ) → IsEndAt plan end (Host host) → IsEndAt plan other (Host second) →
      (host_at plan second).name ≡ (host_at plan host).name → other ≡ end
  same_host end other host second here there same =
      let is = (host_ends plan end host).0 here in
      let that = (host_ends plan other second).0 there in
      let one : second ≡ host = host_once (host_at plan host).name second host (that.0, same) (is.0, refl) in
      that.1 ∙ one ∙ sym is.1

  same_port : (end other box port second far : ℕ) → IsEndAt plan end (Port box port) →
      IsEndAt plan other (Port second far) → (box_at plan second).name ≡ (box_at plan box).name →
      port_name_at plan (box_at plan second) far ≡ port_name_at plan (box_at plan box) port → other ≡ end
  same_port end other box port second far here there boxes ports =
      let is = (port_ends plan end box port).0 here in
      let that = (port_ends plan other second far).0 there in
      let one : second ≡ box = box_once (box_at plan box).name second box (that.0, boxes) (is.0, refl) in
      let within : far < ports_of plan (box_at plan box) =
      subst (λ (b : ℕ). far < ports_of plan (box_at plan b)) one that.1 in
      let names : port_name_at plan (box_at plan box) far ≡ port_name_at plan (box_at plan box) port =
      subst (λ (b : ℕ). port_name_at plan (box_at plan b) far ≡ port_name_at plan (box_at plan box) port) one ports in
      let two : far ≡ port = port_once box far port is.0 within is.1 names in
      that.2 ∙ ap (λ b. first_end plan b + far) one ∙ ap (λ p. first_end plan box + p) two ∙ sym is.2

  pub place_once : (end other : ℕ) (place : Place) → IsEndAt plan end place →
      IsEndCalled plan (end_at_place plan (Some place)) other → other ≡ end
  place_once end other (Host host) here (Host second, there, same) = same_host end other host second here there same
  place_once end other (Host host) here (Port second far, there, same) = absurd same
  place_once end other (Port box port) here (Host second, there, same) = absurd same
  place_once end other (Port box port) here (Port second far, there, same) =
      same_port end other box port second far here there same.0 same.1
