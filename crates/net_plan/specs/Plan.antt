-- What a plan says: its types, fields and classes, and what its hosts may send and must not get. What is read by a
-- number
-- means something where the number is in range.
use Rattle.std.specs.Prelude.{◌≡◌, ℕ, ◌<◌, ◌^◌, List, [], Option, length, map, slice_index_or}
use Rattle.std.specs.List.{Any, range_with_len}
use Rattle.header_set.specs.Headers.{product, field_of}
use Rattle.header_set.specs.Pattern.{Matches}
use Rattle.box_handlers.specs.Fits.{Surroundings}
use Rattle.box_handlers.specs.Tuple.{tuples_over}
use Rattle.net_plan.specs.declared.plan.Plan.{Plan}
use Rattle.net_plan.specs.declared.plan.KindPlan.{KindPlan}
use Rattle.net_plan.specs.declared.plan.FieldPlan.{FieldPlan}
use Rattle.net_plan.specs.declared.plan.ClassPlan.{ClassPlan}
use Rattle.net_plan.specs.declared.plan.RelationPlan.{RelationPlan}
use Rattle.net_plan.specs.declared.plan.HostPlan.{HostPlan}
use Rattle.net_plan.specs.declared.plan.BoxPlan.{BoxPlan}

-- the type, field, class, host and box of a number
abbrev pub kind_at : Plan → ℕ → KindPlan
kind_at plan kind = slice_index_or plan.kinds kind (record { name = []; values = [] })

abbrev pub field_at : Plan → ℕ → FieldPlan
field_at plan field = slice_index_or plan.fields field (record { name = []; kind = 0 })

abbrev pub class_at : Plan → ℕ → ClassPlan
class_at plan class =
    slice_index_or plan.classes class (record { ports = []; relations = []; handlers = []; queries = [] })

abbrev pub host_at : Plan → ℕ → HostPlan
host_at plan host = slice_index_or plan.hosts host (record { name = []; sends = []; forbids = [] })

abbrev pub box_at : Plan → ℕ → BoxPlan
box_at plan box = slice_index_or plan.boxes box (record { name = []; class = 0; first = [] })

-- how many values a type and a field have
abbrev pub values_of : Plan → ℕ → ℕ
values_of plan kind = length (kind_at plan kind).values

abbrev pub size_of : Plan → FieldPlan → ℕ
size_of plan field = values_of plan field.kind

abbrev pub sizes_of : Plan → List ℕ
sizes_of plan = map (size_of plan) plan.fields

-- a packet is a number below this
abbrev pub packets_of : Plan → ℕ
packets_of plan = product (sizes_of plan)

-- the numbers of values of the argument types of a relation, and their product, below which each of its tuples is
abbrev pub arguments_of : Plan → RelationPlan → List ℕ
arguments_of plan relation = map (values_of plan) relation.kinds

abbrev pub tuples_of : Plan → RelationPlan → ℕ
tuples_of plan relation = tuples_over (arguments_of plan relation)

-- what the handlers of a class see of the plan and of the class
abbrev pub surroundings_of : Plan → ClassPlan → Surroundings
surroundings_of plan class = record {
  sizes = map (λ kind. length kind.values) plan.kinds;
  fields = map (λ field. field.kind) plan.fields;
  relations = map (λ relation. relation.kinds) class.relations;
  ports = length class.ports;
}

abbrev pub boxes_of : Plan → ℕ
boxes_of plan = length plan.boxes

-- the relation of a number
abbrev pub relation_at : ClassPlan → ℕ → RelationPlan
relation_at class relation = slice_index_or class.relations relation (record { name = []; kinds = [] })

-- the values of the fields of a packet
abbrev pub fields_at : Plan → ℕ → List ℕ
fields_at plan packet = map (field_of (sizes_of plan) packet) (range_with_len 0 (length plan.fields))

-- the plan has no box
abbrev pub HasNoBox : Plan → Type 0
HasNoBox plan = plan.boxes ≡ []

-- the class of a box, how many ports the box has, and how many masks the answers to its queries have
abbrev pub class_of : Plan → BoxPlan → ClassPlan
class_of plan box = class_at plan box.class

abbrev pub ports_of : Plan → BoxPlan → ℕ
ports_of plan box = length (class_of plan box).ports

abbrev pub masks_of : Plan → BoxPlan → ℕ
masks_of plan box = 2 ^ length (class_of plan box).queries

-- one of the patterns matches the packet
abbrev pub MatchesOne : Plan → List (List (Option ℕ)) → ℕ → Type 0
MatchesOne plan patterns packet = Any (λ pattern. Matches (sizes_of plan) pattern packet) patterns

-- the host may send the packet
abbrev pub Sends : Plan → ℕ → ℕ → Type 0
Sends plan host packet = MatchesOne plan (host_at plan host).sends packet

-- the packet must not be delivered to the host
abbrev pub Forbids : Plan → ℕ → ℕ → Type 0
Forbids plan host packet = MatchesOne plan (host_at plan host).forbids packet

-- the host, or the box, has this name
abbrev pub IsHostNamed : Plan → List ℕ → ℕ → Type 0
IsHostNamed plan name host = (host < length plan.hosts) × ((host_at plan host).name ≡ name)

abbrev pub IsBoxNamed : Plan → List ℕ → ℕ → Type 0
IsBoxNamed plan name box = (box < length plan.boxes) × ((box_at plan box).name ≡ name)

-- the name of a port of the box
abbrev pub port_name_at : Plan → BoxPlan → ℕ → List ℕ
port_name_at plan box port = slice_index_or (class_of plan box).ports port []
