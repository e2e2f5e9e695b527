-- Each part of the network of items that keep the rules: its fields and its classes.
use Rattle.std.proofs.Common.{
  ◌≡◌,
  ℕ,
  true,
  false,
  cond,
  not,
  ◌||◌,
  List,
  [],
  ◌∷◌,
  ◌++◌,
  map,
  Option,
  Some,
  None,
  is_none,
  option_map,
  option_and_then,
  slice_get,
  refl,
  sym,
  ap,
  subst,
  ◌∙◌,
}
use Rattle.std.specs.List.{All, list_any, AllByRecursion, AllZip}
use Rattle.std.proofs.lemmas.Bool.{or_parts, both_ways, not-false}
use Rattle.std.proofs.lemmas.List.Elements.{recursion_from_All}
use Rattle.amdl_tree.specs.declared.class.Class.{Class}
use Rattle.amdl_tree.specs.declared.class.Handler.{Handler}
use Rattle.amdl_tree.specs.declared.class.Relation.{Relation}
use Rattle.amdl_tree.specs.declared.statement.Stmt.{Stmt}
use Rattle.amdl_tree.specs.declared.tree.Item.{Item}
use Rattle.amdl_tree.specs.declared.tree.Item.TheVariants.{Field, Class as OfClass}
use Rattle.amdl_tree.specs.Items.{KindItem, FieldItem, kind_items, field_items, class_items}
use Rattle.amdl_tree.specs.WellBuilt.{IsBuiltItem, IsBuiltClass, HandlerFits}
use Rattle.box_handlers.specs.declared.act.Act.{Act}
use Rattle.box_handlers.specs.Queries.{queries_of}
use Rattle.tree_plan.specs.Names.{same_name, joined, all_some, kind_number, kind_named}
use Rattle.tree_plan.specs.Handlers.{acts_of, body_for, handlers_of}
use Rattle.tree_plan.specs.Net.{field_of, field_names, relation_of, known_of, class_of, classes_of}
use Rattle.tree_rules.specs.declared.rule.Rule.TheVariants.{UnknownName}
use Rattle.tree_rules.specs.Spaces.{kind_names, is_among}
use Rattle.tree_rules.specs.Rules.{bodies_of, class_unknown}
use Rattle.tree_soundness.proofs.Prefixes.{KeepsRules}
use Rattle.tree_soundness.proofs.Names.{number_among}
use Rattle.tree_soundness.proofs.Lists.{some_come, come_from, each_fails, each_weaker, each_always, named_at}
use Rattle.tree_soundness.proofs.Numbering.{kind_number_front, with_kinds, acts_front}
use Rattle.tree_soundness.proofs.Forms.{each_field, each_class, kinds_split, fields_fixed, built_at}

-- something comes of it
abbrev pub Comes : {A : Type 0} → Option A → Type 0
Comes {A} o = (x : A) × (o ≡ Some x)

pub comes_mapped : {A B : Type 0} (f : A → B) (o : Option A) → Comes o → Comes (option_map f o)
comes_mapped f o came = (f came.0, ap (option_map f) came.1)

pub comes_joined : {A B C : Type 0} (f : A → B → C) (a : Option A) (b : Option B) → Comes a → Comes b →
    Comes (joined f a b)
comes_joined f a b one two = (f one.0 two.0, λ i. joined f (one.1 i) (two.1 i))

pub not_none : {A : Type 0} (o : Option A) → is_none o ≡ false → Comes o
not_none (Some x) is = (x, refl)
not_none None is = absurd (both_ways false refl (sym is))

-- a type that is declared before is declared among all
pub kind_known : (kinds more : List KindItem) (name : List ℕ) →
    not (is_among (map (λ kind. kind.name) kinds) name) ≡ false → Comes (kind_number (kinds ++ more) name)
kind_known kinds more name known =
    let at = number_among (map (λ kind. kind.name) kinds) name
    (not-false (is_among (map (λ kind. kind.name) kinds) name) known) in
    (at.0, kind_number_front kinds more name at.0 at.1)

-- with its values
pub kind_comes : (kinds : List KindItem) (name : List ℕ) (k : ℕ) → kind_number kinds name ≡ Some k →
    (kind : KindItem) × (slice_get kinds k ≡ Some kind) × (kind.name ≡ name) × (kind_named kinds name ≡ Some kind)
kind_comes kinds name k number =
    let at = named_at (λ kind. kind.name) kinds name k number in
    (at.0, at.1, at.2, ap (option_and_then (slice_get kinds)) number ∙ at.1)

module _ (items : List Item) (keeps : KeepsRules items) where
  pub kind_known_at : (before rest : List Item) (name : List ℕ) → items ≡ before ++ rest →
      not (is_among (kind_names before) name) ≡ false →
      Comes (kind_number (kind_items items) name)
  kind_known_at before rest name whole known =
      subst (λ kinds. Comes (kind_number kinds name)) (sym (kinds_split items before rest whole))
      (kind_known (kind_items before) (kind_items rest) name known)

  -- the type of each field
  pub field_kinds_come : AllByRecursion (λ field. Comes (kind_number (kind_items items) field.kind))
      (field_items items)
  field_kinds_come =
      each_field items (λ field. Comes (kind_number (kind_items items) field.kind))
      (λ before field after whole.
      kind_known_at before (Field field.name field.kind ∷ after) field.kind whole
      (keeps.each UnknownName before (Field field.name field.kind) after whole))

  pub fields_come : Comes (all_some (field_of (kind_items items)) (field_items items))
  fields_come =
      some_come (field_of (kind_items items)) (field_items items)
      (each_weaker (λ (field : FieldItem). Comes (kind_number (kind_items items) field.kind))
      (λ field. Comes (field_of (kind_items items) field)) (field_items items)
      (λ field came. comes_mapped (λ kind. record { name = field.name; kind = kind })
      (kind_number (kind_items items) field.kind) came) field_kinds_come)

-- what a class of the items may name, of those before it and of all
pub known_after : (items before : List Item) (class : Class) (after : List Item) → KeepsRules items →
    items ≡ before ++ OfClass class ∷ after →
    known_of items class ≡ with_kinds (known_of before class) (kind_items (OfClass class ∷ after))
known_after items before class after keeps whole =
    λ i. record {
      kinds = kinds_split items before (OfClass class ∷ after) whole i;
      fields = field_names (fields_fixed items before (OfClass class) after keeps whole refl i);
      relations = map (λ relation. relation.name) class.relations;
      ports = class.ports;
    }

-- what is known of a class: its relations, its ports and its handlers are
pub record IsKnown (before : List Item) (class : Class) : Type 0 where
  pub relations : list_any
      (λ relation. list_any (λ kind. not (is_among (kind_names before) kind)) relation.kinds) class.relations ≡ false
  pub ports : list_any (λ handler. not (is_among class.ports handler.port)) class.handlers ≡ false
  pub bodies : Comes (bodies_of before class)

pub is_known : (before : List Item) (class : Class) → class_unknown before class ≡ false → IsKnown before class
is_known before class kept =
    let relations =
    list_any
    (λ relation. list_any (λ kind. not (is_among (kind_names before) kind)) relation.kinds) class.relations in
    let ports = list_any (λ handler. not (is_among class.ports handler.port)) class.handlers in
    let one = or_parts (relations || ports) (is_none (bodies_of before class)) kept in
    let two = or_parts relations ports one.0 in
    record { relations = two.0; ports = two.1; bodies = not_none (bodies_of before class) one.1 }

-- the block of a port comes to something where that of each handler does
pub body_comes : (P : List Stmt → Type 0) (handlers : List Handler) (port : List ℕ) → P [] →
    AllByRecursion (λ handler. P handler.body) handlers → P (body_for handlers port)
body_comes P [] port none each = none
body_comes P (handler ∷ handlers) port none each =
    elim (same_name handler.port port) as (λ b. P (cond b handler.body (body_for handlers port))) [
      | true ↦ each.0
      | false ↦ body_comes P handlers port none each.1
    ]

module _ (items : List Item) (keeps : KeepsRules items) (built : All IsBuiltItem items) where
  module _ (before : List Item) (class : Class) (after : List Item)
      (whole : items ≡ before ++ OfClass class ∷ after) where
    abbrev pub class_built : IsBuiltClass class
    class_built = built_at IsBuiltItem items before (OfClass class) after built whole

    abbrev pub class_known : IsKnown before class
    class_known = is_known before class (keeps.each UnknownName before (OfClass class) after whole)

    -- the types of the arguments of each relation
    pub argument_kinds_come : AllByRecursion
        (λ relation. AllByRecursion
        (λ kind. Comes (kind_number (kind_items items) kind)) relation.kinds) class.relations
    argument_kinds_come =
        each_weaker (λ relation. list_any (λ kind. not (is_among (kind_names before) kind)) relation.kinds ≡ false)
        (λ relation. AllByRecursion
        (λ kind. Comes (kind_number (kind_items items) kind)) relation.kinds) class.relations
        (λ relation known.
        each_weaker (λ kind. not (is_among (kind_names before) kind) ≡ false)
        (λ kind. Comes (kind_number (kind_items items) kind)) relation.kinds
        (λ kind one. kind_known_at items keeps before (OfClass class ∷ after) kind whole one)
        (each_fails (λ kind. not (is_among (kind_names before) kind)) relation.kinds known))
        (each_fails
        (λ relation. list_any
        (λ kind. not (is_among (kind_names before) kind)) relation.kinds) class.relations class_known.relations)

    pub relations_come : Comes (all_some (relation_of (kind_items items)) class.relations)
    relations_come =
        some_come (relation_of (kind_items items)) class.relations
        (each_weaker
        (λ (relation : Relation). AllByRecursion
        (λ kind. Comes (kind_number (kind_items items) kind)) relation.kinds)
        (λ relation. Comes (relation_of (kind_items items) relation)) class.relations
        (λ relation known.
        comes_mapped (λ numbers. record { name = relation.name; kinds = numbers })
        (all_some (kind_number (kind_items items)) relation.kinds)
        (some_come (kind_number (kind_items items)) relation.kinds known))
        argument_kinds_come)

    -- the acts of a handler of the text are the same by all items as by those before
    pub acts_known : (handler : Handler) (acts : List Act) → HandlerFits class_built.0 handler →
        acts_of (known_of before class) handler.body ≡ Some acts →
        acts_of (known_of items class) handler.body ≡ Some acts
    acts_known handler acts fits came =
        subst (λ known. acts_of known handler.body ≡ Some acts)
        (sym (known_after items before class after keeps whole))
        (acts_front (known_of before class)
        (kind_items (OfClass class ∷ after)) class_built.0 handler.body acts fits.1 came)

    pub handlers_fit : AllByRecursion (HandlerFits class_built.0) class.handlers
    handlers_fit = recursion_from_All (HandlerFits class_built.0) class.handlers class_built.1.handlers

    acts_both : (handlers : List Handler) (bodies : List (List Act)) →
        AllZip (λ handler acts. acts_of (known_of before class) handler.body ≡ Some acts) handlers bodies →
        AllByRecursion (HandlerFits class_built.0) handlers →
        AllByRecursion (λ handler. Comes (acts_of (known_of items class) handler.body)) handlers
    acts_both [] [] zip fits = tt
    acts_both [] (acts ∷ bodies) zip fits = absurd zip
    acts_both (handler ∷ handlers) [] zip fits = absurd zip
    acts_both (handler ∷ handlers) (acts ∷ bodies) zip fits =
        ((acts, acts_known handler acts fits.0 zip.0), acts_both handlers bodies zip.1 fits.1)

    pub handlers_come : Comes (handlers_of (known_of items class) class.handlers)
    handlers_come =
        some_come (λ port. acts_of (known_of items class) (body_for class.handlers port)) class.ports
        (each_always (λ port. Comes (acts_of (known_of items class) (body_for class.handlers port))) class.ports
        (λ port. body_comes (λ body. Comes (acts_of (known_of items class) body)) class.handlers port ([], refl)
        (acts_both class.handlers class_known.bodies.0
        (come_from
        (λ handler. acts_of
        (known_of before class) handler.body) class.handlers class_known.bodies.0 class_known.bodies.1)
        handlers_fit)))

    pub class_comes : Comes (class_of items class)
    class_comes =
        comes_joined (λ relations handlers. record {
          ports = class.ports;
          relations = relations;
          handlers = handlers;
          queries = queries_of handlers;
        }) (all_some (relation_of (kind_items items)) class.relations)
        (handlers_of (known_of items class) class.handlers) relations_come handlers_come

  pub classes_come : Comes (classes_of items)
  classes_come =
      some_come (class_of items) (class_items items)
      (each_class items (λ class. Comes (class_of items class)) class_comes)
