-- What a sound plan gives to the executions of its handlers.
use Rattle.std.proofs.Common.{◌≡◌, ℕ, ◌<◌, ◌≤◌, List, [], ◌∷◌, length, map, get_or, Some, ap, subst, ◌∙◌, arith}
use Rattle.std.specs.Prelude.{slice_get}
use Rattle.std.specs.List.{All, AllZip, AllByRecursion}
use Rattle.std.specs.Option.{option_map}
use Rattle.std.proofs.lemmas.Option.{slice_get-map, slice_get-get_or, get_or_from_slice_get}
use Rattle.std.proofs.lemmas.List.Elements.{All-map, All-weaker, recursion_from_All}
use Rattle.box_contents.specs.declared.entry.Entry.{Entry}
use Rattle.box_handlers.specs.declared.act.Act.{Act}
use Rattle.box_handlers.specs.Body.{body_of}
use Rattle.box_handlers.specs.Fits.{Fits}
use Rattle.box_executions.specs.Shape.{AreSizesOf, IsEnvironment, IsTuple, AreContents}
use Rattle.box_executions.specs.Laws.{IsReady}
use Rattle.net_plan.specs.declared.plan.Plan.{Plan}
use Rattle.net_plan.specs.declared.plan.KindPlan.{KindPlan}
use Rattle.net_plan.specs.declared.plan.FieldPlan.{FieldPlan}
use Rattle.net_plan.specs.declared.plan.BoxPlan.{BoxPlan}
use Rattle.net_plan.specs.declared.plan.ClassPlan.{ClassPlan}
use Rattle.net_plan.specs.declared.plan.RelationPlan.{RelationPlan}
use Rattle.net_plan.specs.Plan.{kind_at, box_at, class_of, values_of, size_of, packets_of, boxes_of, arguments_of}
use Rattle.net_plan.specs.Plan.{surroundings_of}
use Rattle.net_plan.specs.Sound.{IsKind, IsField, IsRelation, IsClass, IsEntry, IsBox, IsHandled, IsSound}
use Rattle.net_runs.specs.World.{IsBoxAt, relations_of, environment_of}
use Rattle.net_runs.proofs.ListLemmas.{all_get}

-- boxes and classes by their numbers

abbrev no_box : BoxPlan
no_box = record { name = []; class = 0; first = [] }

abbrev no_class : ClassPlan
no_class = record { ports = []; relations = []; handlers = []; queries = [] }

pub box_is : (plan : Plan) (box : ℕ) (box_plan : BoxPlan) → slice_get plan.boxes box ≡ Some box_plan →
    box_at plan box ≡ box_plan
box_is plan box box_plan e = get_or_from_slice_get plan.boxes box box_plan no_box e

pub class_is : (plan : Plan) (box_plan : BoxPlan) (class : ClassPlan) →
    slice_get plan.classes box_plan.class ≡ Some class → class_of plan box_plan ≡ class
class_is plan box_plan class e = get_or_from_slice_get plan.classes box_plan.class class no_class e

-- each box is there, with its class
pub box_there : (plan : Plan) (box : ℕ) → IsSound plan → box < boxes_of plan →
    (box_plan : BoxPlan) × (class : ClassPlan) × IsBoxAt plan box box_plan class
box_there plan box sound less =
    let box_plan : BoxPlan = get_or plan.boxes box no_box in
    let found : slice_get plan.boxes box ≡ Some box_plan = slice_get-get_or plan.boxes box no_box less in
    let is : IsBox plan box_plan = all_get (IsBox plan) plan.boxes box box_plan sound.classes.boxes found in
    let class : ClassPlan = get_or plan.classes box_plan.class no_class in (
      box_plan,
      class,
      record
          { numbered = found; of_class = slice_get-get_or plan.classes box_plan.class no_class is.class },
    )

-- sizes

mapped : {X Y : Type 0} (f : X → Y) (xs : List X) (k : ℕ) (x : X) → slice_get xs k ≡ Some x →
    slice_get (map f xs) k ≡ Some (f x)
mapped f xs k x e = slice_get-map f xs k ∙ ap (option_map f) e

kind_sized : (plan : Plan) (kind : ℕ) → kind < length plan.kinds →
    slice_get (map (λ one. length one.values) plan.kinds) kind ≡ Some (values_of plan kind)
kind_sized plan kind less =
    mapped (λ (one : KindPlan). length one.values) plan.kinds kind (kind_at plan kind)
    (slice_get-get_or plan.kinds kind (record { name = []; values = [] }) less)

kinds_sized : (plan : Plan) (kinds : List ℕ) → AllByRecursion (λ kind. kind < length plan.kinds) kinds →
    AreSizesOf (map (λ one. length one.values) plan.kinds) kinds (map (values_of plan) kinds)
kinds_sized plan [] less = tt
kinds_sized plan (kind ∷ kinds) less = (kind_sized plan kind less.0, kinds_sized plan kinds less.1)

fields_sized : (plan : Plan) (fields : List FieldPlan) → AllByRecursion (IsField plan) fields →
    AreSizesOf (map (λ one. length one.values) plan.kinds) (map (λ field. field.kind) fields)
    (map (size_of plan) fields)
fields_sized plan [] are = tt
fields_sized plan (field ∷ fields) are = (kind_sized plan field.kind are.0.kind, fields_sized plan fields are.1)

arguments_sized : (plan : Plan) (relations : List RelationPlan) → AllByRecursion (IsRelation plan) relations →
    AllZip (AreSizesOf (map (λ one. length one.values) plan.kinds)) (map (λ relation. relation.kinds) relations)
    (map (arguments_of plan) relations)
arguments_sized plan [] are = tt
arguments_sized plan (relation ∷ relations) are = (
  kinds_sized plan relation.kinds
      (recursion_from_All (λ kind. kind < length plan.kinds) relation.kinds are.0.kinds),
  arguments_sized plan
      relations are.1,
)

module _ (plan : Plan) (sound : IsSound plan) (box : ℕ) (box_plan : BoxPlan) (class : ClassPlan)
    (at_box : IsBoxAt plan box box_plan class) where
  is_box : IsBox plan box_plan
  is_box = all_get (IsBox plan) plan.boxes box box_plan sound.classes.boxes at_box.numbered

  is_class : IsClass plan class
  is_class = all_get (IsClass plan) plan.classes box_plan.class class sound.classes.classes at_box.of_class

  is_handled : IsHandled plan class
  is_handled = all_get (IsHandled plan) plan.classes box_plan.class class sound.handlers at_box.of_class

  pub environment_is : (packet : ℕ) → packet < packets_of plan →
      IsEnvironment (surroundings_of plan class) [] (environment_of plan class packet)
  environment_is packet less = record {
    kinds = All-map (λ size. 1 ≤ size) (λ (one : KindPlan). length one.values) plan.kinds
        (All-weaker IsKind (λ one. 1 ≤ length one.values) (λ one is. is.some) plan.kinds sound.headers.kinds);
    headers = sound.headers.headers;
    fields = fields_sized plan plan.fields (recursion_from_All (IsField plan) plan.fields sound.headers.fields);
    arguments =
        arguments_sized plan class.relations (recursion_from_All (IsRelation plan) class.relations is_class.relations);
    in_range = less;
    values = tt;
  }

  -- there is a handler for each port
  pub handler_there : (port : ℕ) → port < length class.ports →
      (handler : List Act) × (slice_get class.handlers port ≡ Some handler)
  handler_there port less = (
    get_or class.handlers port [],
    slice_get-get_or class.handlers port []
        (omega (arith, less, is_handled.one_each)),
  )

  pub ready : (port packet : ℕ) (handler : List Act) (contents : List Entry) → packet < packets_of plan →
      slice_get class.handlers port ≡ Some handler →
      AreContents (relations_of plan class) contents →
      IsReady (surroundings_of plan class) [] (environment_of plan class packet) handler contents
  ready port packet handler contents less found are = record {
    environment = environment_is packet less;
    fits = all_get (λ acts. Fits (surroundings_of plan class) (body_of acts) []) class.handlers port handler
        is_handled.fits found;
    contents_fit = are;
  }

  entry_fits : (entry : Entry) → IsEntry plan class entry → IsTuple (relations_of plan class) entry
  entry_fits entry is =
      let relation : RelationPlan = get_or class.relations entry.relation (record { name = []; kinds = [] }) in
      let found : slice_get class.relations entry.relation ≡ Some relation =
      slice_get-get_or class.relations entry.relation (record { name = []; kinds = [] }) is.relation in
      record {
        sizes = arguments_of plan relation;
        numbered = mapped (arguments_of plan) class.relations entry.relation relation found;
        in_range = is.tuple relation found;
      }

  -- the first contents fit
  pub first_fits : AreContents (relations_of plan class) box_plan.first
  first_fits = record {
    rising = is_box.rising;
    tuples = All-weaker (IsEntry plan class) (IsTuple (relations_of plan class)) entry_fits box_plan.first
        (subst (λ (c : ClassPlan). All (IsEntry plan c) box_plan.first) (class_is plan box_plan class at_box.of_class)
        is_box.entries);
  }
