-- The lines that are printed of a network, without their end of line, and the report that is made of them.
use Rattle.std.specs.Prelude.{ℕ, ◌-◌, ◌<◌, Bool, true, false, List, [], ◌∷◌, ◌++◌, length, map, take, codes, decimal}
use Rattle.std.specs.Prelude.{count_by, nat_lt, if◌then◌else◌, slice_get, slice_index_or, Option, Some, None}
use Rattle.std.specs.List.{flat_map, range_with_len}
use Rattle.header_set.specs.Headers.{field_of}
use Rattle.amdl_tree.specs.Layout.{line, listed}
use Rattle.net_plan.specs.declared.plan.Plan.{Plan}
use Rattle.net_plan.specs.declared.fact.Fact.{Fact}
use Rattle.net_plan.specs.declared.fact.Fact.TheVariants.{Out, State, Abort}
use Rattle.net_plan.specs.declared.fact.Place.{Place}
use Rattle.net_plan.specs.declared.fact.Place.TheVariants.{Host, Port}
use Rattle.net_plan.specs.Plan.{kind_at, field_at, host_at, box_at, port_name_at, sizes_of, packets_of, boxes_of}
use Rattle.net_plan.specs.Cells.{cells_of}
use Rattle.net_plan.specs.Ends.{places_of, ends_of, partner_of, IsLinked, IsEndAt}

-- the network: its name, and how many hosts, boxes and packets it has
abbrev pub network_line : Plan → List ℕ
network_line plan =
    codes "network " ++ plan.name
    ++ codes " hosts " ++ decimal (length plan.hosts)
    ++ codes " boxes " ++ decimal (boxes_of plan)
    ++ codes " packets " ++ decimal (packets_of plan)

-- the kind of a fact
abbrev pub is_out : Fact → Bool
is_out (Out end packet) = true
is_out (State box packet mask) = false
is_out (Abort box packet) = false

abbrev pub is_state : Fact → Bool
is_state (Out end packet) = false
is_state (State box packet mask) = true
is_state (Abort box packet) = false

abbrev pub is_abort : Fact → Bool
is_abort (Out end packet) = false
is_abort (State box packet mask) = false
is_abort (Abort box packet) = true

-- how many facts of the list are of each kind
abbrev pub count_of_outs : List Fact → ℕ
count_of_outs facts = count_by is_out facts

abbrev pub count_of_states : List Fact → ℕ
count_of_states facts = count_by is_state facts

abbrev pub count_of_aborts : List Fact → ℕ
count_of_aborts facts = count_by is_abort facts

-- the numbers of facts by kind
abbrev pub numbers_line : ℕ → ℕ → ℕ → List ℕ
numbers_line outs states aborts =
    codes "facts out " ++ decimal outs ++ codes " state " ++ decimal states ++ codes " abort " ++ decimal aborts

abbrev pub facts_line : List Fact → List ℕ
facts_line facts = numbers_line (count_of_outs facts) (count_of_states facts) (count_of_aborts facts)

-- a host's place is written by the name of the host, a port's by the names of its box and its own: `HOST` or `BOX.PORT`
abbrev pub text_of_place : Plan → Place → List ℕ
text_of_place plan (Host host) = (host_at plan host).name
text_of_place plan (Port box port) = (box_at plan box).name ++ codes "." ++ port_name_at plan (box_at plan box) port

abbrev pub text_at : Plan → Option Place → List ℕ
text_at plan None = []
text_at plan (Some place) = text_of_place plan place

-- an end is written as its place; where there is no such end, there is no text
abbrev pub text_of_end : Plan → ℕ → List ℕ
text_of_end plan end = text_at plan (slice_get (places_of plan) end)

-- the name of a box
abbrev pub text_of_box : Plan → ℕ → List ℕ
text_of_box plan box = (box_at plan box).name

-- the name of the value that a packet has in field k
abbrev pub value_name_at : Plan → ℕ → ℕ → List ℕ
value_name_at plan packet k =
    slice_index_or (kind_at plan (field_at plan k).kind).values (field_of (sizes_of plan) packet k) []

-- field k with its value in the packet: `F = V`
abbrev pub text_of_field : Plan → ℕ → ℕ → List ℕ
text_of_field plan packet k = (field_at plan k).name ++ codes " = " ++ value_name_at plan packet k

-- each field with its value in the packet, in order: `F = V, F = V`
abbrev pub text_of_packet : Plan → ℕ → List ℕ
text_of_packet plan packet = listed (map (text_of_field plan packet) (range_with_len 0 (length plan.fields)))

-- a delivery up to the end at which the packet was put out
abbrev pub delivery_start : Plan → ℕ → ℕ → List ℕ
delivery_start plan host packet =
    codes "deliver " ++ (host_at plan host).name ++ codes " " ++ decimal packet ++ codes " from "

-- that a packet is delivered to a host from the end at which it was put out
abbrev pub deliver_line : Plan → ℕ → ℕ → ℕ → List ℕ
deliver_line plan host packet end =
    delivery_start plan host packet ++ text_of_end plan end ++ codes " : " ++ text_of_packet plan packet

-- an abort up to the fields of its packet
abbrev pub abort_start : Plan → ℕ → ℕ → List ℕ
abort_start plan box packet = codes "abort " ++ text_of_box plan box ++ codes " " ++ decimal packet ++ codes " : "

-- that a box aborts at a packet
abbrev pub abort_line : Plan → ℕ → ℕ → List ℕ
abort_line plan box packet = abort_start plan box packet ++ text_of_packet plan packet

-- the host of a place, if there is a place and it is a host's
abbrev pub host_of_place : Option Place → Option ℕ
host_of_place (Some (Host host)) = Some host
host_of_place _ = None

-- the host of an end, if there is an end and a host is there
abbrev pub host_of_end : Plan → Option ℕ → Option ℕ
host_of_end plan None = None
host_of_end plan (Some end) = host_of_place (slice_get (places_of plan) end)

-- the host at the other end of the link of an end, if the end has a link and a host is there
abbrev pub host_across : Plan → ℕ → Option ℕ
host_across plan end = host_of_end plan (partner_of plan end)

abbrev pub delivery_line : Plan → Option ℕ → ℕ → ℕ → List ℕ
delivery_line plan None packet end = []
delivery_line plan (Some host) packet end = deliver_line plan host packet end

-- a bad fact: the delivery of a packet, or an abort; what isn't delivered to a host, and a state, is never bad and has
-- no line
abbrev pub bad_line : Plan → Fact → List ℕ
bad_line plan (Out end packet) = delivery_line plan (host_across plan end) packet end
bad_line plan (State box packet mask) = []
bad_line plan (Abort box packet) = abort_line plan box packet

-- where more than 1,000 facts are bad, the number of those that are not listed
abbrev pub more_text : ℕ → List ℕ
more_text count = if nat_lt 1000 count then line (codes "more " ++ decimal (count - 1000)) else []

-- the number of bad facts, and a line for each of those that are listed
abbrev pub alarm_text : Plan → ℕ → List Fact → List ℕ
alarm_text plan count listed =
    line (codes "ALARM " ++ decimal count)
    ++ flat_map (λ bad. line (bad_line plan bad)) listed
    ++ more_text count

-- safe where no fact is bad; else the number of bad facts, and the first 1,000 of them in order, a line each
abbrev pub verdict_text : Plan → List Fact → List ℕ
verdict_text plan [] = line (codes "SAFE")
verdict_text plan (fact ∷ facts) = alarm_text plan (length (fact ∷ facts)) (take 1000 (fact ∷ facts))

-- the network line, the facts line of all facts, and the verdict of the bad ones
abbrev pub report_of : Plan → List Fact → List Fact → List ℕ
report_of plan facts bad = line (network_line plan) ++ line (facts_line facts) ++ verdict_text plan bad

-- how many types, fields, classes and links the network has
abbrev pub items_line : Plan → List ℕ
items_line plan =
    codes "types " ++ decimal (length plan.kinds)
    ++ codes " fields " ++ decimal (length plan.fields)
    ++ codes " classes " ++ decimal (length plan.classes)
    ++ codes " links " ++ decimal (length plan.links)

-- how many ends and cells it has
abbrev pub cells_line : Plan → List ℕ
cells_line plan = codes "ends " ++ decimal (ends_of plan) ++ codes " cells " ++ decimal (cells_of plan)

-- the network line, and what else the network has a number of
abbrev pub counts_of : Plan → List ℕ
counts_of plan = line (network_line plan) ++ line (items_line plan) ++ line (cells_line plan)

-- the end is linked to that of a host
abbrev pub IsToHost : Plan → ℕ → Type 0
IsToHost plan end = (host : ℕ) × (other : ℕ) × IsLinked plan end other × IsEndAt plan other (Host host)

-- a fact that has a line: an `Out` at an end that is linked to that of a host, or an abort, with its numbers in range
abbrev pub HasLine : Plan → Fact → Type 0
HasLine plan (Out end packet) = (end < ends_of plan) × (packet < packets_of plan) × IsToHost plan end
HasLine plan (State box packet mask) = ⊥
HasLine plan (Abort box packet) = (box < boxes_of plan) × (packet < packets_of plan)
