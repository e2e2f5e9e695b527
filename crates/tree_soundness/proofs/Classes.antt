-- The classes of the network of items that keep the rules: their names, types and limits.
use Rattle.std.proofs.Common.{
  ◌≡◌,
  ℕ,
  ◌*◌,
  ◌<◌,
  ◌≤◌,
  false,
  not,
  nat_lt,
  List,
  [],
  ◌∷◌,
  ◌++◌,
  length,
  map,
  Some,
  option_map,
  refl,
  sym,
  ap,
  subst,
  ◌∙◌,
  arith,
}
use Rattle.std.specs.Bool.{⊤}
use Rattle.std.specs.List.{All, list_any, AllByRecursion, AllZip}
use Rattle.std.proofs.lemmas.Bool.{not-false}
use Rattle.std.proofs.lemmas.List.Elements.{All-from_recursion, recursion_from_All}
use Rattle.std.proofs.lemmas.Option.{same_Some}
use Rattle.header_set.specs.Headers.{product}
use Rattle.amdl_tree.specs.declared.class.Class.{Class}
use Rattle.amdl_tree.specs.declared.class.Handler.{Handler}
use Rattle.amdl_tree.specs.declared.class.Relation.{Relation}
use Rattle.amdl_tree.specs.declared.statement.Stmt.{Stmt}
use Rattle.amdl_tree.specs.declared.tree.Item.{Item}
use Rattle.amdl_tree.specs.declared.tree.Item.TheVariants.{Class as OfClass}
use Rattle.amdl_tree.specs.Items.{KindItem, kind_items, class_items}
use Rattle.amdl_tree.specs.Word.{IsName}
use Rattle.amdl_tree.specs.WellBuilt.{IsBuiltItem, IsBuiltClass, IsBuiltRelation, HandlerFits}
use Rattle.box_handlers.specs.declared.act.Act.{Act}
use Rattle.box_handlers.specs.Queries.{queries_of}
use Rattle.box_handlers.specs.Tuple.{tuples_over}
use Rattle.net_plan.specs.declared.plan.Plan.{Plan}
use Rattle.net_plan.specs.declared.plan.ClassPlan.{ClassPlan}
use Rattle.net_plan.specs.declared.plan.RelationPlan.{RelationPlan}
use Rattle.net_plan.specs.Plan as plan
use Rattle.net_plan.specs.Sound.{AreApart, IsRelation, IsClass, IsSmallClass}
use Rattle.tree_plan.specs.Names.{joined, all_some, kind_number, values_named}
use Rattle.tree_plan.specs.Handlers.{acts_of, body_for, handlers_of}
use Rattle.tree_plan.specs.Net.{relation_of, known_of, class_of}
use Rattle.tree_rules.specs.declared.rule.Rule.TheVariants.{NameTaken, TooMany, RelationTooLarge, TooManyQueries}
use Rattle.tree_rules.specs.Spaces.{kind_names, is_among}
use Rattle.tree_rules.specs.Rules.{tuples_too_many}
use Rattle.tree_soundness.proofs.Prefixes.{KeepsRules}
use Rattle.tree_soundness.proofs.Names.{names_apart, number_among}
use Rattle.tree_soundness.proofs.Declared.{TakesNone, takes_none}
use Rattle.tree_soundness.proofs.Lists.{
  some_come,
  come_from,
  all_come,
  zip_each,
  zip_weaker,
  zip_map,
  zip_length,
  each_fails,
  each_weaker,
  each_both,
  each_always,
}
use Rattle.tree_soundness.proofs.Numbering.{values_named_front}
use Rattle.tree_soundness.proofs.Forms.{each_class, kinds_split}
use Rattle.tree_soundness.proofs.Existence.{
  Comes,
  kind_comes,
  body_comes,
  class_built,
  class_known,
  acts_known,
  handlers_fit,
}
use Rattle.tree_soundness.proofs.Counts.{within, IsSmall, is_small}
use Rattle.tree_soundness.proofs.HeaderSizes.{passes_not, some_member, zip_mapped, kind_in_plan}
use Rattle.tree_soundness.proofs.Spelled.{HasParts, IsClassOf, class_parts, relation_parts}

-- an item with those before it and those behind it
pub record Stands (items : List Item) (item : Item) : Type 0 where
  pub before : List Item
  pub after : List Item
  pub whole : items ≡ before ++ item ∷ after

pub classes_stand : (items : List Item) → AllByRecursion (λ class. Stands items (OfClass class)) (class_items items)
classes_stand items =
    each_class items (λ class. Stands items (OfClass class))
    (λ before class after whole. record { before = before; after = after; whole = whole })

pub product_is : (sizes : List ℕ) → tuples_over sizes ≡ product sizes
product_is [] = refl
product_is (size ∷ sizes) = ap (λ n. size * n) (product_is sizes)

module _ (items : List Item) (keeps : KeepsRules items) (built : All IsBuiltItem items) (spelled : Plan)
    (parts : HasParts items spelled) where
  -- how many values the arguments of a relation have
  pub arguments_are : (relation : Relation) (found : RelationPlan) →
      relation_of (kind_items items) relation ≡ Some found →
      all_some (values_named (kind_items items)) relation.kinds ≡ Some (plan.arguments_of spelled found)
  arguments_are relation found came =
      all_come (values_named (kind_items items)) relation.kinds (plan.arguments_of spelled found)
      (zip_mapped (λ name k. kind_number (kind_items items) name ≡ Some k) (values_named (kind_items items))
      (plan.values_of spelled) relation.kinds found.kinds
      (λ name k number. (kind_in_plan items keeps built spelled parts name k number).1)
      (come_from (kind_number (kind_items items)) relation.kinds found.kinds
      (relation_parts items relation found came).kinds))

  module _ (class : Class) (at : Stands items (OfClass class)) (found : ClassPlan)
      (came : class_of items class ≡ Some found) where
    abbrev of : IsClassOf items class found
    of = class_parts items class found came

    abbrev takes : TakesNone at.before class
    takes = takes_none at.before class (keeps.each NameTaken at.before (OfClass class) at.after at.whole)

    abbrev small : IsSmall at.before class
    small = is_small at.before class (keeps.each TooMany at.before (OfClass class) at.after at.whole)

    abbrev class_fits : IsBuiltClass class
    class_fits = class_built items keeps built at.before class at.after at.whole

    -- the numbers of the types of a relation
    pub argument_sizes : (relation : Relation) (found : RelationPlan) →
        relation_of (kind_items items) relation ≡ Some found →
        AllZip (λ name k. kind_number (kind_items items) name ≡ Some k) relation.kinds found.kinds
    argument_sizes relation found came =
        come_from (kind_number (kind_items items)) relation.kinds found.kinds
        (relation_parts items relation found came).kinds

    relation_is : (relation : Relation) (found : RelationPlan) → IsBuiltRelation relation →
        relation_of (kind_items items) relation ≡ Some found → IsRelation spelled found
    relation_is relation found fits came =
        let numbers = argument_sizes relation found came in
        record {
          named = subst IsName (sym (relation_parts items relation found came).name) fits.0;
          kinds = All-from_recursion (λ kind. kind < length spelled.kinds) found.kinds
              (zip_each (λ name k. kind_number (kind_items items) name ≡ Some k) (λ name. ⊤)
              (λ kind. kind < length spelled.kinds) relation.kinds found.kinds
              (λ name k any number. (kind_in_plan items keeps built spelled parts name k number).0) numbers
              (each_always (λ name. ⊤) relation.kinds (λ name. tt)));
          some =
              let counted =
              zip_length
              (λ name k. kind_number (kind_items items) name ≡ Some k) relation.kinds found.kinds numbers in
              omega (arith, counted, some_member relation.kinds fits.1.0);
        }

    relations_zip : AllZip
        (λ relation found. relation_of (kind_items items) relation ≡ Some found) class.relations found.relations
    relations_zip = come_from (relation_of (kind_items items)) class.relations found.relations of.relations

    pub relations_named : map (λ (relation : RelationPlan). relation.name) found.relations
        ≡ map (λ (relation : Relation). relation.name) class.relations
    relations_named =
        zip_map (λ relation found. relation_of (kind_items items) relation ≡ Some found)
        (λ (relation : Relation). relation.name) (λ (relation : RelationPlan). relation.name)
        class.relations found.relations
        (λ relation found came. (relation_parts items relation found came).name) relations_zip

    pub class_is : IsClass spelled found
    class_is = record {
      ports = subst (All IsName) (sym of.ports) class_fits.1.ports.1;
      relations = All-from_recursion (IsRelation spelled) found.relations
          (zip_each (λ relation found. relation_of (kind_items items) relation ≡ Some found) IsBuiltRelation
          (IsRelation spelled) class.relations found.relations
          relation_is relations_zip (recursion_from_All IsBuiltRelation class.relations class_fits.1.relations));
      ports_apart = subst AreApart (sym of.ports) (names_apart class.ports takes.ports);
      relations_apart =
          subst AreApart (sym relations_named)
          (names_apart (map (λ relation. relation.name) class.relations) takes.relations);
    }

    -- how many tuples a relation has
    tuples_few : (relation : Relation) (found : RelationPlan) →
        AllByRecursion (λ kind. Comes (kind_number (kind_items at.before) kind)) relation.kinds →
        tuples_too_many at.before relation ≡ false → relation_of (kind_items items) relation ≡ Some found →
        plan.tuples_of spelled found ≤ 65536
    tuples_few relation found known kept came =
        let sizes = some_come (values_named (kind_items at.before)) relation.kinds
        (each_weaker (λ kind. Comes (kind_number (kind_items at.before) kind))
        (λ kind. Comes (values_named (kind_items at.before) kind)) relation.kinds
        (λ kind came.
        let found = kind_comes (kind_items at.before) kind came.0 came.1 in
        (length found.0.values, ap (option_map (λ (kind : KindItem). length kind.values)) found.3)) known) in
        let few : product sizes.0 ≤ 65536 =
        within 65536 (product sizes.0)
        (passes_not (λ sizes. nat_lt 65536 (product sizes))
        (all_some (values_named (kind_items at.before)) relation.kinds) sizes.0 kept sizes.1) in
        let among : all_some (values_named (kind_items items)) relation.kinds ≡ Some sizes.0 =
        ap (λ kinds. all_some (values_named kinds) relation.kinds)
        (kinds_split items at.before (OfClass class ∷ at.after) at.whole)
        ∙ all_come
        (values_named (kind_items at.before ++ kind_items (OfClass class ∷ at.after))) relation.kinds sizes.0
        (zip_weaker (λ kind size. values_named (kind_items at.before) kind ≡ Some size)
        (λ kind size. values_named (kind_items at.before ++ kind_items (OfClass class ∷ at.after)) kind ≡ Some size)
        relation.kinds sizes.0
        (λ kind size named. values_named_front (kind_items at.before)
        (kind_items (OfClass class ∷ at.after)) kind size named)
        (come_from (values_named (kind_items at.before)) relation.kinds sizes.0 sizes.1)) in
        let spelled_sizes = arguments_are relation found came in
        let same : sizes.0 ≡ plan.arguments_of spelled found =
        same_Some sizes.0 (plan.arguments_of spelled found) (sym among ∙ spelled_sizes) in
        let e : plan.tuples_of spelled found ≡ product sizes.0 =
        product_is (plan.arguments_of spelled found) ∙ ap product (sym same) in
        subst (λ n. n ≤ 65536) (sym e) few

    -- the types of the arguments of each relation are declared before
    pub kinds_before : AllByRecursion
        (λ (relation : Relation). AllByRecursion
        (λ kind. Comes (kind_number (kind_items at.before) kind)) relation.kinds) class.relations
    kinds_before =
        each_weaker
        (λ (relation : Relation). list_any (λ kind. not (is_among (kind_names at.before) kind)) relation.kinds
        ≡ false)
        (λ relation. AllByRecursion
        (λ kind. Comes (kind_number (kind_items at.before) kind)) relation.kinds) class.relations
        (λ relation known.
        each_weaker (λ kind. not (is_among (kind_names at.before) kind) ≡ false)
        (λ kind. Comes (kind_number (kind_items at.before) kind)) relation.kinds
        (λ kind one. number_among (kind_names at.before) kind (not-false (is_among (kind_names at.before) kind) one))
        (each_fails (λ kind. not (is_among (kind_names at.before) kind)) relation.kinds known))
        (each_fails
        (λ relation. list_any (λ kind. not (is_among (kind_names at.before) kind)) relation.kinds) class.relations
        (class_known items keeps built at.before class at.after at.whole).relations)

    -- the handlers are the same by the items before and by all
    abbrev ActsAre : List Stmt → Type 0
    ActsAre body =
        (acts : List Act) × (acts_of (known_of at.before class) body ≡ Some acts)
        × (acts_of (known_of items class) body ≡ Some acts)

    bodies_both : (handlers : List Handler) (bodies : List (List Act)) →
        AllZip (λ handler acts. acts_of (known_of at.before class) handler.body ≡ Some acts) handlers bodies →
        AllByRecursion (HandlerFits class_fits.0) handlers → AllByRecursion (λ handler. ActsAre handler.body) handlers
    bodies_both [] [] zip fits = tt
    bodies_both [] (acts ∷ bodies) zip fits = absurd zip
    bodies_both (handler ∷ handlers) [] zip fits = absurd zip
    bodies_both (handler ∷ handlers) (acts ∷ bodies) zip fits = (
      (acts, zip.0, acts_known items keeps built at.before class at.after at.whole handler acts fits.0 zip.0),
      bodies_both handlers bodies zip.1 fits.1,
    )

    pub each_body : AllByRecursion (λ handler. ActsAre handler.body) class.handlers
    each_body =
        let bodies = (class_known items keeps built at.before class at.after at.whole).bodies in
        bodies_both class.handlers bodies.0
        (come_from (λ handler. acts_of (known_of at.before class) handler.body) class.handlers bodies.0 bodies.1)
        (handlers_fit items keeps built at.before class at.after at.whole)

    ports_both : (ports : List (List ℕ)) → (handlers : List (List Act)) ×
        (all_some (λ port. acts_of (known_of at.before class) (body_for class.handlers port)) ports ≡ Some handlers)
        × (all_some (λ port. acts_of (known_of items class) (body_for class.handlers port)) ports ≡ Some handlers)
    ports_both [] = ([], refl, refl)
    ports_both (port ∷ ports) =
        let here : ActsAre (body_for class.handlers port) =
        body_comes ActsAre class.handlers port ([], refl, refl) each_body in
        let rest = ports_both ports in (
          here.0 ∷ rest.0,
          λ i. joined (λ y ys. y ∷ ys) (here.1 i) (rest.1 i),
          λ i. joined (λ y ys. y ∷ ys) (here.2 i) (rest.2 i),
        )

    pub handlers_before : handlers_of (known_of at.before class) class.handlers ≡ Some found.handlers
    handlers_before =
        let both = ports_both class.ports in
        both.1 ∙ sym both.2 ∙ of.handlers

    pub small_class : IsSmallClass spelled found
    small_class = record {
      ports = subst (λ ports. length ports ≤ 32) (sym of.ports) (within 32 (length class.ports) small.ports);
      relations =
          let counted =
          zip_length
          (λ relation found. relation_of (kind_items items) relation
          ≡ Some found) class.relations found.relations relations_zip in
          omega (arith, counted, within 16 (length class.relations) small.relations);
      args = All-from_recursion (λ relation. length relation.kinds ≤ 4) found.relations
          (zip_each (λ relation found. relation_of (kind_items items) relation ≡ Some found)
          (λ (relation : Relation). nat_lt 4 (length relation.kinds) ≡ false)
          (λ relation. length relation.kinds ≤ 4)
          class.relations found.relations
          (λ relation found kept came.
          let counted =
          zip_length (λ name k. kind_number (kind_items items) name ≡ Some k) relation.kinds found.kinds
          (argument_sizes relation found came) in
          omega (arith, counted, within 4 (length relation.kinds) kept))
          relations_zip (each_fails (λ relation. nat_lt 4 (length relation.kinds)) class.relations small.args));
      tuples = All-from_recursion (λ relation. plan.tuples_of spelled relation ≤ 65536) found.relations
          (zip_each (λ relation found. relation_of (kind_items items) relation ≡ Some found)
          (λ (relation : Relation). AllByRecursion
          (λ kind. Comes (kind_number (kind_items at.before) kind)) relation.kinds
          × (tuples_too_many at.before relation ≡ false))
          (λ relation. plan.tuples_of spelled relation ≤ 65536) class.relations found.relations
          (λ relation found both came. tuples_few relation found both.0 both.1 came) relations_zip
          (each_both
          (λ (relation : Relation). AllByRecursion
          (λ kind. Comes (kind_number (kind_items at.before) kind)) relation.kinds)
          (λ relation. tuples_too_many at.before relation ≡ false) class.relations
          kinds_before
          (each_fails (tuples_too_many at.before) class.relations
          (keeps.each RelationTooLarge at.before (OfClass class) at.after at.whole))));
      queries =
          subst (λ queries. length queries ≤ 12) (sym of.queries)
          (within 12 (length (queries_of found.handlers))
          (passes_not (λ handlers. nat_lt 12 (length (queries_of handlers)))
          (handlers_of (known_of at.before class) class.handlers) found.handlers
          (keeps.each TooManyQueries at.before (OfClass class) at.after at.whole) handlers_before));
    }
