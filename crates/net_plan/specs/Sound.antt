-- Sound plans: numbers in range, names apart, and the limits of a network.
use Rattle.std.specs.Prelude.{◌≡◌, ◌≢◌, ℕ, ◌<◌, ◌≤◌, List, [], ◌∷◌, ◌++◌, Option, Some, length, map, sum_by, slice_get}
use Rattle.std.specs.Prelude.{slice_index}
use Rattle.std.specs.List.{All, AllPairs, flat_map}
use Rattle.amdl_tree.specs.Word.{IsName}
use Rattle.header_set.specs.Headers.{IsHeaders}
use Rattle.header_set.specs.Pattern.{fixed_at}
use Rattle.box_contents.specs.declared.entry.Entry.{Entry}
use Rattle.box_contents.specs.Contents as contents
use Rattle.box_handlers.specs.Body.{body_of}
use Rattle.box_handlers.specs.Fits.{Fits}
use Rattle.box_handlers.specs.Queries.{queries_of}
use Rattle.box_handlers.specs.Size.{statements_of_all, literals_of_all, paths_of}
use Rattle.net_plan.specs.declared.plan.Plan.{Plan}
use Rattle.net_plan.specs.declared.plan.KindPlan.{KindPlan}
use Rattle.net_plan.specs.declared.plan.FieldPlan.{FieldPlan}
use Rattle.net_plan.specs.declared.plan.ClassPlan.{ClassPlan}
use Rattle.net_plan.specs.declared.plan.RelationPlan.{RelationPlan}
use Rattle.net_plan.specs.declared.plan.HostPlan.{HostPlan}
use Rattle.net_plan.specs.declared.plan.BoxPlan.{BoxPlan}
use Rattle.net_plan.specs.declared.plan.LinkPlan.{LinkPlan}
use Rattle.net_plan.specs.Plan.{sizes_of, tuples_of, class_of, surroundings_of}
use Rattle.net_plan.specs.Ends.{ends_of}
use Rattle.net_plan.specs.Cells.{cells_of}

-- no two members are equal
abbrev pub AreApart : {X : Type 0} → List X → Type 0
AreApart members = AllPairs (λ one two. one ≢ two) members

-- a type has 1 to 256 values, and its names are names
pub record IsKind (kind : KindPlan) : Type 0 where
  pub named : IsName kind.name
  pub values : All IsName kind.values
  pub some : 1 ≤ length kind.values
  pub few : length kind.values ≤ 256

-- a field is of a type of the plan
pub record IsField (plan : Plan) (field : FieldPlan) : Type 0 where
  pub named : IsName field.name
  pub kind : field.kind < length plan.kinds

-- types and fields are those of headers: one to eight fields, and at most 65,536 packets
pub record HasHeaders (plan : Plan) : Type 0 where
  pub kinds : All IsKind plan.kinds
  pub fields : All (IsField plan) plan.fields
  pub headers : IsHeaders (sizes_of plan)

-- values and fields are one name space, hosts and boxes another
abbrev pub terms_of : Plan → List (List ℕ)
terms_of plan = flat_map (λ kind. kind.values) plan.kinds ++ map (λ field. field.name) plan.fields

abbrev pub nodes_of : Plan → List (List ℕ)
nodes_of plan = map (λ host. host.name) plan.hosts ++ map (λ box. box.name) plan.boxes

-- the network has a name, and no two names of one space are equal; ports and relations have a space in each class, and
-- the
-- names of classes are not kept
pub record HasNamesApart (plan : Plan) : Type 0 where
  pub named : IsName plan.name
  pub kinds : AreApart (map (λ kind. kind.name) plan.kinds)
  pub terms : AreApart (terms_of plan)
  pub nodes : AreApart (nodes_of plan)

-- a relation has at least one argument, each of a type of the plan
pub record IsRelation (plan : Plan) (relation : RelationPlan) : Type 0 where
  pub named : IsName relation.name
  pub kinds : All (λ kind. kind < length plan.kinds) relation.kinds
  pub some : 1 ≤ length relation.kinds

-- ports and relations of a class have names, no two of which are equal
pub record IsClass (plan : Plan) (class : ClassPlan) : Type 0 where
  pub ports : All IsName class.ports
  pub relations : All (IsRelation plan) class.relations
  pub ports_apart : AreApart class.ports
  pub relations_apart : AreApart (map (λ relation. relation.name) class.relations)

-- the entry is a tuple of a relation of the class
pub record IsEntry (plan : Plan) (class : ClassPlan) (entry : Entry) : Type 0 where
  pub relation : entry.relation < length class.relations
  pub tuple : (relation : RelationPlan) → slice_get class.relations entry.relation ≡ Some relation →
      entry.tuple < tuples_of plan relation

-- a box is of a class of the plan, and its first contents are a rising list of tuples of the class
pub record IsBox (plan : Plan) (box : BoxPlan) : Type 0 where
  pub named : IsName box.name
  pub class : box.class < length plan.classes
  pub entries : All (IsEntry plan (class_of plan box)) box.first
  pub rising : contents.IsRising box.first

pub record HasClasses (plan : Plan) : Type 0 where
  pub classes : All (IsClass plan) plan.classes
  pub boxes : All (IsBox plan) plan.boxes

-- a pattern has eight places, and fixes fields of the plan alone, to values that they have
pub record IsPattern (plan : Plan) (pattern : List (Option ℕ)) : Type 0 where
  pub places : length pattern ≡ 8
  pub fits : (k x : ℕ) → fixed_at pattern k ≡ Some x → (k < length plan.fields) × (x < slice_index (sizes_of plan) k)

pub record IsHost (plan : Plan) (host : HostPlan) : Type 0 where
  pub named : IsName host.name
  pub sends : All (IsPattern plan) host.sends
  pub forbids : All (IsPattern plan) host.forbids

pub record IsLink (plan : Plan) (link : LinkPlan) : Type 0 where
  pub one : link.one < ends_of plan
  pub two : link.two < ends_of plan

abbrev pub linked_ends : Plan → List ℕ
linked_ends plan = flat_map (λ link. link.one ∷ link.two ∷ []) plan.links

-- hosts speak of packets of the plan, links of its ends, and no end stands twice in the links
pub record IsWired (plan : Plan) : Type 0 where
  pub hosts : All (IsHost plan) plan.hosts
  pub links : All (IsLink plan) plan.links
  pub ends_apart : AreApart (linked_ends plan)

-- the limits of a class and of a box
pub record IsSmallClass (plan : Plan) (class : ClassPlan) : Type 0 where
  pub ports : length class.ports ≤ 32
  pub relations : length class.relations ≤ 16
  pub args : All (λ relation. length relation.kinds ≤ 4) class.relations
  pub tuples : All (λ relation. tuples_of plan relation ≤ 65536) class.relations
  pub queries : length class.queries ≤ 12

abbrev pub IsSmallBox : BoxPlan → Type 0
IsSmallBox box = length box.first ≤ 1024

-- the limits of a network; those of headers and types stand with them
pub record HasLimits (plan : Plan) : Type 0 where
  pub kinds : length plan.kinds ≤ 32
  pub classes : length plan.classes ≤ 64
  pub class : All (IsSmallClass plan) plan.classes
  pub hosts : length plan.hosts ≤ 256
  pub boxes : length plan.boxes ≤ 256
  pub box : All IsSmallBox plan.boxes
  pub sends : sum_by (λ host. length host.sends) plan.hosts ≤ 1024
  pub forbids : sum_by (λ host. length host.forbids) plan.hosts ≤ 1024
  pub cells : cells_of plan ≤ 4194304

-- a class has one handler for each of its ports; each fits with no pick around it, the queries are what they ask, and
-- they are
-- within the limits
pub record IsHandled (plan : Plan) (class : ClassPlan) : Type 0 where
  pub one_each : length class.handlers ≡ length class.ports
  pub fits : All (λ acts. Fits (surroundings_of plan class) (body_of acts) []) class.handlers
  pub queries : class.queries ≡ queries_of class.handlers
  pub statements : statements_of_all class.handlers ≤ 1024
  pub literals : literals_of_all class.handlers ≤ 4096
  pub paths : All (λ acts. paths_of (body_of acts) ≤ 1024) class.handlers

pub record IsSound (plan : Plan) : Type 0 where
  pub headers : HasHeaders plan
  pub names : HasNamesApart plan
  pub classes : HasClasses plan
  pub wiring : IsWired plan
  pub limits : HasLimits plan
  pub handlers : All (IsHandled plan) plan.classes
