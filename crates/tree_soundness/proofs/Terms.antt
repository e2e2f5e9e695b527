-- Terms, queries and changes of handlers fit where no type differs.
use Rattle.std.proofs.Common.{
  ◌≡◌,
  ◌≢◌,
  ℕ,
  ◌+◌,
  Bool,
  false,
  cond,
  not,
  nat_eq,
  List,
  [],
  ◌∷◌,
  length,
  map,
  zip,
  Option,
  Some,
  None,
  option_map,
  slice_get,
  AllPairs,
  refl,
  sym,
  ap,
  subst,
  ◌∙◌,
  arith,
  eqb-true,
}
use Rattle.std.specs.List.{list_any, find, position_from, AllByRecursion, AllZip}
use Rattle.std.specs.Option.{option_or}
use Rattle.std.proofs.lemmas.Bool.{or_parts, not-false, false_from_ne_true, cond-true, cond-false}
use Rattle.std.proofs.lemmas.List.Elements.{All-from_recursion}
use Rattle.std.proofs.lemmas.Option.{none-some, same_Some, option_and_then_some, slice_get_within}
use Rattle.amdl_tree.specs.declared.guard.Atom.{Atom}
use Rattle.amdl_tree.specs.declared.class.Class.{Class}
use Rattle.amdl_tree.specs.declared.class.Relation.{Relation}
use Rattle.amdl_tree.specs.declared.tree.Equal.{Equal}
use Rattle.amdl_tree.specs.declared.tree.Item.{Item}
use Rattle.amdl_tree.specs.declared.tree.Item.TheVariants.{Class as OfClass}
use Rattle.amdl_tree.specs.Items.{KindItem, FieldItem, kind_items, field_items}
use Rattle.box_handlers.specs.declared.act.Term.{Term}
use Rattle.box_handlers.specs.declared.act.Term.TheVariants as term
use Rattle.box_handlers.specs.declared.act.Query.{Query}
use Rattle.box_handlers.specs.declared.act.Change.{Change}
use Rattle.box_handlers.specs.Fits.{Surroundings, TermFits, TermsFit, QueryFits, AreOfOneKind, ChangeFits, ChangesFit}
use Rattle.net_plan.specs.declared.plan.Plan.{Plan}
use Rattle.net_plan.specs.declared.plan.KindPlan.{KindPlan}
use Rattle.net_plan.specs.declared.plan.FieldPlan.{FieldPlan}
use Rattle.net_plan.specs.declared.plan.ClassPlan.{ClassPlan}
use Rattle.net_plan.specs.declared.plan.RelationPlan.{RelationPlan}
use Rattle.net_plan.specs.Plan.{surroundings_of}
use Rattle.tree_plan.specs.Names.{same_name, number_of, all_some, kind_number, kind_named, value_number, values_named}
use Rattle.tree_plan.specs.Handlers.{Known, term_of, query_of, change_of}
use Rattle.tree_plan.specs.Net.{kind_of, field_of, relation_of, known_of}
use Rattle.tree_rules.specs.Spaces.{is_among, repeats}
use Rattle.tree_rules.specs.declared.opened.Opened.{Opened}
use Rattle.tree_rules.specs.Kinds.{kind_of_field, kind_of_value, kind_of_pick, kind_of_term, differ, relation_named}
use Rattle.tree_rules.specs.Rules.{fields_named, arity_differs, args_mismatch, change_mismatch}
use Rattle.tree_soundness.proofs.Prefixes.{KeepsRules}
use Rattle.tree_soundness.proofs.Names.{split, number_is, pairs_cons, number_among, among_number, other_is}
use Rattle.tree_soundness.proofs.Declared.{kinds_once}
use Rattle.tree_soundness.proofs.Lists.{
  joined_some,
  option_map_some,
  come_from,
  zip_get,
  zip_each,
  get_in_front,
  map_get,
  named_at,
  position_map,
  found_is,
  find_at,
}
use Rattle.tree_soundness.proofs.Numbering.{kind_number_front}
use Rattle.tree_soundness.proofs.Forms.{kinds_split, fields_fixed}
use Rattle.tree_soundness.proofs.Nodes.{differ_not, kind_placed}
use Rattle.tree_soundness.proofs.HeaderSizes.{passes_not}
use Rattle.tree_soundness.proofs.Spelled.{HasParts, IsClassOf, relation_parts, field_parts}
use Rattle.tree_soundness.proofs.Classes.{Stands}

-- what isn't found by its place isn't found
unfound : {A : Type 0} (test : A → Bool) (i : ℕ) (xs : List A) → position_from test i xs ≡ None → find test xs ≡ None
unfound test i [] none = refl
unfound test i (x ∷ xs) none =
    split (test x) (Some i) (position_from test (i + 1) xs) None none
    (λ held here. absurd (none-some i (sym here)))
    (λ failed later. cond-false (test x) (Some x) (find test xs) failed ∙ unfound test (i + 1) xs later)

-- a value by its number is one of the first type that has it
first_value : (kinds : List KindItem) (name : List ℕ) (x : ℕ) → value_number kinds name ≡ Some x →
    (kind : KindItem) × (find (λ kind. is_among kind.values name) kinds ≡ Some kind)
    × (number_of kind.values name ≡ Some x)
first_value [] name x found = absurd (none-some x found)
first_value (kind ∷ kinds) name x found =
    elim (number_of kind.values name) as
    (λ o. number_of kind.values name ≡ o → option_or o (value_number kinds name) ≡ Some x →
    (found : KindItem)
    × (cond (is_among kind.values name) (Some kind) (find (λ kind. is_among kind.values name) kinds) ≡ Some found)
    × (number_of found.values name ≡ Some x)) [
      | Some y ↦ λ is came. (
        kind,
        cond-true (is_among kind.values name) (Some kind) (find (λ kind. is_among kind.values name) kinds)
            (among_number kind.values name y is),
        is ∙ came,
      )
      | None ↦ λ is came.
          let rest = first_value kinds name x came in
          let other : is_among kind.values name ≡ false =
          false_from_ne_true (is_among kind.values name)
          (λ among. let at = number_among kind.values name among in none-some at.0 (sym is ∙ at.1)) in (
            rest.0,
            cond-false (is_among kind.values name) (Some kind)
                (find (λ kind. is_among kind.values name) kinds) other ∙ rest.1,
            rest.2,
          )
    ] refl found

-- of three, the first that there is
first_term : {P : Type 0} (a b c : Option ℕ) (found : Term) →
    option_or (option_map term.Picked a) (option_or (option_map term.Field b) (option_map term.Value c)) ≡ Some found →
    ((i : ℕ) → a ≡ Some i → term.Picked i ≡ found → P) → ((k : ℕ) → a ≡ None → b ≡ Some k → term.Field k ≡ found → P) →
    ((x : ℕ) → a ≡ None → b ≡ None → c ≡ Some x → term.Value x ≡ found → P) → P
first_term (Some i) b c found came one two three = one i refl (same_Some (term.Picked i) found came)
first_term None (Some k) c found came one two three = two k refl refl (same_Some (term.Field k) found came)
first_term None None (Some x) found came one two three = three x refl refl refl (same_Some (term.Value x) found came)
first_term None None None found came one two three = absurd (none-some found came)

module _ (items : List Item) (keeps : KeepsRules items) (spelled : Plan) (parts : HasParts items spelled)
    (class : Class) (at : Stands items (OfClass class)) (found : ClassPlan) (of : IsClassOf items class found) where
  abbrev pub around : Surroundings
  around = surroundings_of spelled found

  abbrev pub known : Known
  known = known_of at.before class

  -- a type that is declared before, in the plan
  pub kind_before : (name : List ℕ) (size : ℕ) → values_named (kind_items at.before) name ≡ Some size →
      (k : ℕ) × (kind_number (kind_items items) name ≡ Some k) × (slice_get around.sizes k ≡ Some size)
  kind_before name size named =
      option_map_some (λ (kind : KindItem). length kind.values) (kind_named (kind_items at.before) name) size named
      (λ kind found counted.
      option_and_then_some (slice_get (kind_items at.before)) (kind_number (kind_items at.before) name) kind found
      (λ k number stands. (
        k,
        ap (λ kinds. kind_number kinds name) (kinds_split items at.before (OfClass class ∷ at.after) at.whole)
            ∙ kind_number_front (kind_items at.before) (kind_items (OfClass class ∷ at.after)) name k number,
        size_at k kind stands ∙ ap Some counted,
      )))
    where
      size_at : (k : ℕ) (kind : KindItem) → slice_get (kind_items at.before) k ≡ Some kind →
          slice_get around.sizes k ≡ Some (length kind.values)
      size_at k kind stands =
          let among : slice_get (kind_items items) k ≡ Some kind =
          ap (λ kinds. slice_get kinds k) (kinds_split items at.before (OfClass class ∷ at.after) at.whole)
          ∙ get_in_front (kind_items at.before) (kind_items (OfClass class ∷ at.after)) k kind stands in
          map_get (λ (kind : KindPlan). length kind.values) spelled.kinds k (kind_of kind)
          (ap (λ kinds. slice_get kinds k) parts.kinds ∙ map_get kind_of (kind_items items) k kind among)

  -- the type of a field
  pub record FieldKind (name : List ℕ) (k : ℕ) : Type 0 where
    pub kind : List ℕ
    pub kind_is : kind_of_field at.before name ≡ Some kind
    pub number : ℕ
    pub number_is : kind_number (kind_items items) kind ≡ Some number
    pub stands : slice_get around.fields k ≡ Some number

  pub field_kind : (name : List ℕ) (k : ℕ) → number_of known.fields name ≡ Some k → FieldKind name k
  field_kind name k number =
      let here = named_at (λ (field : FieldItem). field.name) (field_items at.before) name k number in
      let field = here.0 in
      let first : find (λ (field : FieldItem). same_name name field.name) (field_items at.before) ≡ Some field =
      found_is (λ (field : FieldItem). same_name name field.name) (field_items at.before) k field
      (sym (position_map (same_name name) (λ (field : FieldItem). field.name) 0 (field_items at.before))
      ∙ number) here.1 in
      let among : slice_get (field_items items) k ≡ Some field =
      ap (λ fields. slice_get fields k) (fields_fixed items at.before (OfClass class) at.after keeps at.whole refl)
      ∙ here.1 in
      let planned =
      zip_get (λ field found. field_of (kind_items items) field ≡ Some found)
      (field_items items) spelled.fields k field
      (come_from (field_of (kind_items items)) (field_items items) spelled.fields parts.fields) among in
      record {
        kind = field.kind;
        kind_is = ap (option_map (λ (field : FieldItem). field.kind)) first;
        number = planned.0.kind;
        number_is = (field_parts items field planned.0 planned.2).kind;
        stands = map_get (λ (field : FieldPlan). field.kind) spelled.fields k planned.0 planned.1;
      }

  -- the picks that are open, each with so many values as its type has
  abbrev pub AreOpen : List Opened → List ℕ → Type 0
  AreOpen = AllZip (λ pick size. values_named (kind_items at.before) pick.kind ≡ Some size)

  abbrev pub names_of : List Opened → List (List ℕ)
  names_of opened = map (λ pick. pick.name) opened

  module _ (opened : List Opened) (sizes : List ℕ) (are_open : AreOpen opened sizes) where
    -- the type of a term
    pub record TermKind (name : List ℕ) (one : Term) : Type 0 where
      pub kind : List ℕ
      pub kind_is : kind_of_term at.before opened name ≡ Some kind
      pub number : ℕ
      pub number_is : kind_number (kind_items items) kind ≡ Some number
      pub fits : TermFits around sizes number one

    -- no pick has the name
    no_pick : (name : List ℕ) → number_of (names_of opened) name ≡ None → kind_of_pick opened name ≡ None
    no_pick name none =
        ap (option_map (λ (pick : Opened). pick.kind))
        (unfound (λ (pick : Opened). same_name name pick.name) 0 opened
        (sym (position_map (same_name name) (λ (pick : Opened). pick.name) 0 opened) ∙ none))

    no_field : (name : List ℕ) → number_of known.fields name ≡ None → kind_of_field at.before name ≡ None
    no_field name none =
        ap (option_map (λ (field : FieldItem). field.kind))
        (unfound (λ (field : FieldItem). same_name name field.name) 0 (field_items at.before)
        (sym (position_map (same_name name) (λ (field : FieldItem). field.name) 0 (field_items at.before)) ∙ none))

    pick_kind : (name : List ℕ) (i : ℕ) → number_of (names_of opened) name ≡ Some i → TermKind name (term.Picked i)
    pick_kind name i number =
        let here = named_at (λ (pick : Opened). pick.name) opened name i number in
        let pick = here.0 in
        let first : find (λ (pick : Opened). same_name name pick.name) opened ≡ Some pick =
        found_is (λ (pick : Opened). same_name name pick.name) opened i pick
        (sym (position_map (same_name name) (λ (pick : Opened). pick.name) 0 opened) ∙ number) here.1 in
        let size =
        zip_get
        (λ (pick : Opened) size. values_named (kind_items at.before) pick.kind
        ≡ Some size) opened sizes i pick are_open here.1 in
        let kind = kind_before pick.kind size.0 size.2 in
        record {
          kind = pick.kind;
          kind_is =
              ap (λ o. option_or (option_map (λ (pick : Opened). pick.kind) o)
              (option_or (kind_of_field at.before name) (kind_of_value at.before name))) first;
          number = kind.0;
          number_is = kind.1;
          fits = (size.0, kind.2, size.1);
        }

    term_field_kind : (name : List ℕ) (k : ℕ) → number_of (names_of opened) name ≡ None →
        number_of known.fields name ≡ Some k → TermKind name (term.Field k)
    term_field_kind name k none number =
        let here = field_kind name k number in
        record {
          kind = here.kind;
          kind_is = (λ i. option_or (no_pick name none i) (option_or (here.kind_is i) (kind_of_value at.before name)));
          number = here.number;
          number_is = here.number_is;
          fits = here.stands;
        }

    value_kind : (name : List ℕ) (x : ℕ) → number_of (names_of opened) name ≡ None →
        number_of known.fields name ≡ None → value_number (kind_items at.before) name ≡ Some x →
        TermKind name (term.Value x)
    value_kind name x no_picks no_fields value =
        let here = first_value (kind_items at.before) name x value in
        let kind = here.0 in
        let place = find_at (λ (kind : KindItem). is_among kind.values name) (kind_items at.before) kind here.1 in
        let parted = kinds_split items at.before (OfClass class ∷ at.after) at.whole in
        let stands : slice_get (kind_items items) place.0 ≡ Some kind =
        ap (λ kinds. slice_get kinds place.0) parted
        ∙ get_in_front (kind_items at.before) (kind_items (OfClass class ∷ at.after)) place.0 kind place.2 in
        let size : slice_get around.sizes place.0 ≡ Some (length kind.values) =
        map_get (λ (kind : KindPlan). length kind.values) spelled.kinds place.0 (kind_of kind)
        (ap (λ kinds. slice_get kinds place.0) parts.kinds ∙ map_get kind_of (kind_items items) place.0 kind stands) in
        record {
          kind = kind.name;
          kind_is =
              (λ i. option_or (no_pick name no_picks i)
              (option_or (no_field name no_fields i) (option_map (λ (kind : KindItem). kind.name) (here.1 i))));
          number = place.0;
          number_is = kind_placed (kind_items items) place.0 kind (kinds_once items keeps) stands;
          fits = (length kind.values, size, slice_get_within kind.values x name (number_is kind.values name x here.2));
        }

    pub term_kind : (name : List ℕ) (found : Term) → term_of known (names_of opened) name ≡ Some found →
        TermKind name found
    term_kind name found came =
        first_term (number_of (names_of opened) name) (number_of known.fields name)
        (value_number known.kinds name) found came
        (λ i pick is. subst (TermKind name) is (pick_kind name i pick))
        (λ k none field is. subst (TermKind name) is (term_field_kind name k none field))
        (λ x none no_fields value is. subst (TermKind name) is (value_kind name x none no_fields value))

    -- a term of the type that its place asks
    term_of_kind : (kind name : List ℕ) (number : ℕ) (found : Term) →
        kind_number (kind_items items) kind ≡ Some number →
        differ (Some kind) (kind_of_term at.before opened name) ≡ false →
        term_of known (names_of opened) name ≡ Some found → TermFits around sizes number found
    term_of_kind kind name number found numbered meet came =
        let has = term_kind name found came in
        let same : kind ≡ has.kind = differ_not kind has.kind (sym (ap (differ (Some kind)) has.kind_is) ∙ meet) in
        let e : has.number ≡ number =
        same_Some has.number number
        (sym has.number_is ∙ ap (kind_number (kind_items items)) (sym same) ∙ numbered) in
        subst (λ number. TermFits around sizes number found) e has.fits

    pub terms_fit : (kinds : List (List ℕ)) (numbers : List ℕ) (args : List (List ℕ)) (terms : List Term) →
        AllZip (λ name k. kind_number (kind_items items) name ≡ Some k) kinds numbers →
        AllZip (λ name found. term_of known (names_of opened) name ≡ Some found) args terms →
        length args ≡ length kinds →
        list_any (λ pair. differ (Some pair.0) (kind_of_term at.before opened pair.1)) (zip kinds args) ≡ false →
        TermsFit around sizes numbers terms
    terms_fit [] [] [] [] one two counted meet = tt
    terms_fit [] [] [] (term ∷ terms) one two counted meet = absurd two
    terms_fit [] [] (arg ∷ args) terms one two counted meet = absurd (omega (arith, counted))
    terms_fit [] (number ∷ numbers) args terms one two counted meet = absurd one
    terms_fit (kind ∷ kinds) [] args terms one two counted meet = absurd one
    terms_fit (kind ∷ kinds) (number ∷ numbers) [] terms one two counted meet = absurd (omega (arith, counted))
    terms_fit (kind ∷ kinds) (number ∷ numbers) (arg ∷ args) [] one two counted meet = absurd two
    terms_fit (kind ∷ kinds) (number ∷ numbers) (arg ∷ args) (found ∷ terms) one two counted meet =
        let meets =
        or_parts (differ (Some kind) (kind_of_term at.before opened arg))
        (list_any (λ pair. differ (Some pair.0) (kind_of_term at.before opened pair.1)) (zip kinds args)) meet in (
          term_of_kind kind arg number found one.0 meets.0 two.0,
          terms_fit kinds numbers args terms one.1 two.1 (omega (arith, counted)) meets.1,
        )

    pub query_fits : (atom : Atom) (query : Query) → query_of known (names_of opened) atom ≡ Some query →
        arity_differs class.relations atom ≡ false →
        args_mismatch (kind_of_term at.before opened) class.relations atom ≡ false → QueryFits around sizes query
    query_fits atom query came arity meet =
        joined_some (λ relation args. record { relation = relation; args = args })
        (number_of known.relations atom.relation) (all_some (term_of known (names_of opened)) atom.args) query came
        (λ r terms number args is.
        let here = named_at (λ (relation : Relation). relation.name) class.relations atom.relation r number in
        let relation = here.0 in
        let first : relation_named class.relations atom.relation ≡ Some relation =
        found_is (λ (relation : Relation). same_name atom.relation relation.name) class.relations r relation
        (sym (position_map (same_name atom.relation) (λ (relation : Relation). relation.name) 0 class.relations)
        ∙ number) here.1 in
        let planned =
        zip_get
        (λ relation found. relation_of (kind_items items) relation
        ≡ Some found) class.relations found.relations r relation
        (come_from (relation_of (kind_items items)) class.relations found.relations of.relations) here.1 in
        let counted : length atom.args ≡ length relation.kinds =
        eqb-true (length atom.args) (length relation.kinds)
        (not-false (nat_eq (length atom.args) (length relation.kinds))
        (passes_not (λ (relation : Relation). not (nat_eq (length atom.args) (length relation.kinds)))
        (relation_named class.relations atom.relation) relation arity first)) in
        let meets : list_any (λ pair. differ (Some pair.0) (kind_of_term at.before opened pair.1))
        (zip relation.kinds atom.args) ≡ false =
        passes_not
        (λ (relation : Relation). list_any (λ pair. differ (Some pair.0) (kind_of_term at.before opened pair.1))
        (zip relation.kinds atom.args))
        (relation_named class.relations atom.relation) relation meet first in
        let fits : TermsFit around sizes planned.0.kinds terms =
        terms_fit relation.kinds planned.0.kinds atom.args terms
        (come_from (kind_number (kind_items items)) relation.kinds planned.0.kinds
        (relation_parts items relation planned.0 planned.2).kinds)
        (come_from (term_of known (names_of opened)) atom.args terms args) counted meets in
        let stands : slice_get around.relations r ≡ Some planned.0.kinds =
        map_get (λ (relation : RelationPlan). relation.kinds) found.relations r planned.0 planned.1 in
        subst (QueryFits around sizes) is (planned.0.kinds, stands, fits))

    -- two terms of one type
    pub pair_fits : (one two : List ℕ) (first second : Term) → term_of known (names_of opened) one ≡ Some first →
        term_of known (names_of opened) two ≡ Some second →
        differ (kind_of_term at.before opened one) (kind_of_term at.before opened two) ≡ false →
        AreOfOneKind around sizes first second
    pair_fits one two first second one_is two_is meet =
        let has = term_kind one first one_is in (
          has.number,
          has.fits,
          term_of_kind has.kind two has.number second has.number_is
              (sym (ap (λ o. differ o (kind_of_term at.before opened two)) has.kind_is) ∙ meet) two_is,
        )

    change_fits : (equal : Equal) (change : Change) → change_of known (names_of opened) equal ≡ Some change →
        change_mismatch at.before opened equal ≡ false → ChangeFits around sizes change
    change_fits equal change came meet =
        joined_some (λ field to. record { field = field; to = to }) (number_of known.fields equal.field)
        (term_of known (names_of opened) equal.value) change came
        (λ k to number value is.
        let here = field_kind equal.field k number in
        let fits : TermFits around sizes here.number to =
        term_of_kind here.kind equal.value here.number to here.number_is
        (sym (ap (λ o. differ o (kind_of_term at.before opened equal.value)) here.kind_is) ∙ meet) value in
        subst (ChangeFits around sizes) is (here.number, here.stands, fits))

    pub changes_fit : (equals : List Equal) (changes : List Change) →
        AllZip (λ equal change. change_of known (names_of opened) equal ≡ Some change) equals changes →
        list_any (change_mismatch at.before opened) equals ≡ false → ChangesFit around sizes changes
    changes_fit [] [] zip meet = tt
    changes_fit [] (change ∷ changes) zip meet = absurd zip
    changes_fit (equal ∷ equals) [] zip meet = absurd zip
    changes_fit (equal ∷ equals) (change ∷ changes) zip meet =
        let meets =
        or_parts (change_mismatch at.before opened equal)
        (list_any (change_mismatch at.before opened) equals) meet in
        (change_fits equal change zip.0 meets.0, changes_fit equals changes zip.1 meets.1)

    -- no field is changed twice
    field_number : (equal : Equal) (change : Change) → change_of known (names_of opened) equal ≡ Some change →
        number_of known.fields equal.field ≡ Some change.field
    field_number equal change came =
        joined_some (λ field to. record { field = field; to = to }) (number_of known.fields equal.field)
        (term_of known (names_of opened) equal.value) change came
        (λ k to number value is. number ∙ ap (λ (change : Change). Some change.field) is)

    pub changes_apart : (equals : List Equal) (changes : List Change) →
        AllZip (λ equal change. change_of known (names_of opened) equal ≡ Some change) equals changes →
        repeats (fields_named equals) ≡ false → AllPairs (λ one two. one.field ≢ two.field) changes
    changes_apart [] [] zip once = λ i j d below inside. absurd (omega arith)
    changes_apart [] (change ∷ changes) zip once = absurd zip
    changes_apart (equal ∷ equals) [] zip once = absurd zip
    changes_apart (equal ∷ equals) (change ∷ changes) zip once =
        let parts = or_parts (is_among (fields_named equals) equal.field) (repeats (fields_named equals)) once in
        pairs_cons (λ one two. one.field ≢ two.field) change changes
        (All-from_recursion (λ other. change.field ≢ other.field) changes
        (zip_each (λ equal change. change_of known (names_of opened) equal ≡ Some change)
        (λ (other : Equal). same_name equal.field other.field ≡ false) (λ other. change.field ≢ other.field)
        equals changes
        (λ other changed apart came same.
        let mine = number_is known.fields equal.field change.field (field_number equal change zip.0) in
        let theirs = number_is known.fields other.field changed.field (field_number other changed came) in
        other_is equal.field other.field apart
        (same_Some equal.field other.field (sym mine ∙ ap (slice_get known.fields) same ∙ theirs)))
        zip.1 (others_fail equals parts.0)))
        (changes_apart equals changes zip.1 parts.1)
      where
        others_fail : (equals : List Equal) → is_among (fields_named equals) equal.field ≡ false →
            AllByRecursion (λ (other : Equal). same_name equal.field other.field ≡ false) equals
        others_fail [] apart = tt
        others_fail (other ∷ equals) apart =
            let parts =
            or_parts (same_name equal.field other.field) (is_among (fields_named equals) equal.field) apart in
            (parts.0, others_fail equals parts.1)
