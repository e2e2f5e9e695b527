use Rattle.std.proofs.Common.{◌≡◌, ◌≢◌, ℕ, ◌<◌, List, Option, Some, None, MatchOption, subst}
use Rattle.net_plan.specs.declared.plan.Plan.{Plan}
use Rattle.net_plan.specs.declared.fact.Place.{Place}
use Rattle.net_plan.specs.declared.fact.Place.TheVariants.{Host, Port}
use Rattle.net_plan.specs.Plan.{box_at, ports_of, port_name_at, IsBoxNamed}
use Rattle.net_plan.specs.Ends.{IsEndAt, IsPlaceNamed, IsEndNamed}
use Rattle.net_plan.specs.Sound.{IsSound}
use Rattle.net_plan.proofs.EndLemmas as ends
use Rattle.net_plan.proofs.NameLemmas.{box_named_once}
use Rattle.net_plan.proofs.network.Network.find_port_end.Goals as goal

-- a port of the name, of a box of the name
record IsPortNamed (plan : Plan) (name port_name : List ℕ) : Type 0 where
  box : ℕ
  port : ℕ
  boxed : IsBoxNamed plan name box
  in_range : port < ports_of plan (box_at plan box)
  named : port_name_at plan (box_at plan box) port ≡ port_name

port_named : (plan : Plan) (name port_name : List ℕ) (end : ℕ) (place : Place) → IsEndAt plan end place →
    IsPlaceNamed plan name (Some port_name) place → IsPortNamed plan name port_name
port_named plan name port_name end (Host host) there named = absurd named
port_named plan name port_name end (Port box port) there named =
    let at_port = (ends.port_ends plan end box port).0 there in
    record { box = box; port = port; boxed = (at_port.0, named.0); in_range = at_port.1; named = named.1 }

told : (plan : Plan) (name port_name : List ℕ) (box : ℕ) (found : Option ℕ) → IsSound plan → IsBoxNamed plan name box →
    MatchOption found
    ((port : ℕ) → port < ports_of plan (box_at plan box) → port_name_at plan (box_at plan box) port ≢ port_name)
    (λ end. (port : ℕ) × IsEndAt plan end (Port box port) × (port_name_at plan (box_at plan box) port ≡ port_name)) →
    MatchOption found ((end : ℕ) → IsEndNamed plan name (Some port_name) end → ⊥)
    (IsEndNamed plan name (Some port_name))
told plan name port_name box (Some end) sound boxed tells = (Port box tells.0, tells.1, (boxed.1, tells.2))
told plan name port_name box None sound boxed tells = λ end there.
    let found : IsPortNamed plan name port_name = port_named plan name port_name end there.0 there.1 there.2 in
    let same : found.box ≡ box = box_named_once plan name found.box box sound found.boxed boxed in
    tells found.port (subst (λ (b : ℕ). found.port < ports_of plan (box_at plan b)) same found.in_range)
    (subst (λ (b : ℕ). port_name_at plan (box_at plan b) found.port ≡ port_name) same found.named)

pub returns-in-Some : goal.returns-in-Some
returns-in-Some c =
    told c.args.self.now c.args.name c.args.port c.in-Some.b c.find_end_of.result c.sound.ensures c.in-Some.ensures
    c.find_end_of.ensures

pub returns-in-None : goal.returns-in-None
returns-in-None c = λ end there.
    let found : IsPortNamed c.args.self.now c.args.name c.args.port =
    port_named c.args.self.now c.args.name c.args.port end there.0 there.1 there.2 in
    c.in-None.ensures found.box found.boxed
