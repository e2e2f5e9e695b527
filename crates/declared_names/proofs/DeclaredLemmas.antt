-- The tables of the names that items declare.
use Rattle.std.proofs.Common.{◌≡◌, ℕ, ◌+◌, ◌<◌, ◌≤◌, Bool, true, false, ◌||◌, cond, if◌then◌else◌, List, [], ◌∷◌, ◌++◌}
use Rattle.std.proofs.Common.{length, take, get_or, map, find, Option, Some, None, refl, sym, ap, ◌∙◌}
use Rattle.std.specs.Option.{option_map, option_or}
use Rattle.std.specs.Cmp.Lexicographic.{bytes_decides}
use Rattle.std.proofs.lemmas.List.{take_more, take_all}
use Rattle.std.proofs.lemmas.List.Elements.{filter_map-append}
use Rattle.amdl_tree.specs.declared.tree.Item.{Item}
use Rattle.amdl_tree.specs.declared.tree.Item.TheVariants.{Kind, Field}
use Rattle.amdl_tree.specs.Items.{KindItem, FieldItem, kind_item, field_item, kind_items, field_items}
use Rattle.name_tables.specs.Names.{same_name, is_among, told, told_by}
use Rattle.tree_rules.specs.Spaces.{kind_names}
use Rattle.tree_rules.specs.Kinds.{kind_of_field, kind_of_value}
use Rattle.declared_names.specs.declared.declared.Declared.{Declared}
use Rattle.declared_names.specs.Declares.{Declares, told_among}

or_assoc : (a b c : Bool) → (a || b) || c ≡ a || (b || c)
or_assoc true b c = refl
or_assoc false b c = refl

or_false : (a : Bool) → a || false ≡ a
or_false true = refl
or_false false = refl

among_append : (xs ys : List (List ℕ)) (name : List ℕ) → is_among (xs ++ ys) name ≡ is_among xs name || is_among ys name
among_append [] ys name = refl
among_append (x ∷ xs) ys name =
    ap (λ b. same_name name x || b) (among_append xs ys name)
    ∙ sym (or_assoc (same_name name x) (is_among xs name) (is_among ys name))

among_push : (xs : List (List ℕ)) (x name : List ℕ) →
    is_among (xs ++ x ∷ []) name ≡ is_among xs name || same_name name x
among_push xs x name = among_append xs (x ∷ []) name ∙ ap (λ b. is_among xs name || b) (or_false (same_name name x))

-- the values so far, and one more
or_none : (found : Option (List ℕ)) → found ≡ option_or found None
or_none None = refl
or_none (Some x) = refl

pub values_begun : (map : List (List ℕ × List ℕ)) (kind : List ℕ) (values : List (List ℕ)) (name : List ℕ) →
    told map name ≡ option_or (told map name) (told_among (take 0 values) kind name)
values_begun map kind values name = or_none (told map name)

both : (a : Option (List ℕ)) (b c : Bool) (kind : List ℕ) →
    option_or (option_or a (if b then Some kind else None)) (if c then Some kind else None)
    ≡ option_or a (if b || c then Some kind else None)
both None true c kind = refl
both None false c kind = refl
both (Some x) b c kind = refl

pub values_more : (map now first : List (List ℕ × List ℕ)) (kind value : List ℕ) (values : List (List ℕ)) (i : ℕ) →
    i < length values → value ≡ get_or values i value →
    ((name : List ℕ) → told map name ≡ option_or (told first name) (told_among (take i values) kind name)) →
    ((name : List ℕ) → told now name ≡ option_or (told map name) (told_by value kind name)) →
    (name : List ℕ) → told now name ≡ option_or (told first name) (told_among (take (i + 1) values) kind name)
values_more map now first kind value values i inside here so_far puts name =
    puts name
    ∙ ap (λ found. option_or found (told_by value kind name)) (so_far name)
    ∙ both (told first name) (is_among (take i values) name) (same_name name value) kind
    ∙ ap (λ b. option_or (told first name) (if b then Some kind else None))
    (sym (among_push (take i values) value name) ∙ ap (λ l. is_among l name)
    (ap (λ v. take i values ++ v ∷ []) here ∙ sym (take_more values i value inside)))

pub values_all : (now first : List (List ℕ × List ℕ)) (kind : List ℕ) (values : List (List ℕ)) (i : ℕ) →
    length values ≤ i →
    ((name : List ℕ) → told now name ≡ option_or (told first name) (told_among (take i values) kind name)) →
    (name : List ℕ) → told now name ≡ option_or (told first name) (told_among values kind name)
values_all now first kind values i all so_far name =
    so_far name ∙ ap (λ l. option_or (told first name) (told_among l kind name)) (take_all i values all)

-- what an item behind others declares
found_first : {A : Type 0} (b : Bool) (x : A) (rest others later : Option A) → rest ≡ option_or others later →
    cond b (Some x) rest ≡ option_or (cond b (Some x) others) later
found_first true x rest others later is = refl
found_first false x rest others later is = is

known_once : (known same : Bool) → (same ≡ true → known ≡ true) → known ≡ known || same
known_once true same is = refl
known_once false true is = is refl
known_once false false is = refl

one_kind : (among : Bool) (name : List ℕ) (values : List (List ℕ)) →
    (if among then Some name else None)
    ≡ option_map (λ (kind : KindItem). kind.name) (cond among (Some (record { name = name; values = values })) None)
one_kind true name values = refl
one_kind false name values = refl

one_field : (same : Bool) (name kind : List ℕ) →
    (if same then Some kind else None)
    ≡ option_map (λ (field : FieldItem). field.kind) (cond same (Some (record { name = name; kind = kind })) None)
one_field true name kind = refl
one_field false name kind = refl

find_append : {A : Type 0} (p : A → Bool) (xs ys : List A) → find p (xs ++ ys) ≡ option_or (find p xs) (find p ys)
find_append p [] ys = refl
find_append p (x ∷ xs) ys =
    found_first (p x) x (find p (xs ++ ys)) (find p xs) (find p ys) (find_append p xs ys)

map_or : {A B : Type 0} (f : A → B) (one two : Option A) →
    option_map f (option_or one two) ≡ option_or (option_map f one) (option_map f two)
map_or f None two = refl
map_or f (Some x) two = refl

kinds_behind : (before : List Item) (item : Item) →
    kind_items (before ++ item ∷ []) ≡ kind_items before ++ kind_items (item ∷ [])
kinds_behind before item = filter_map-append kind_item before (item ∷ [])

fields_behind : (before : List Item) (item : Item) →
    field_items (before ++ item ∷ []) ≡ field_items before ++ field_items (item ∷ [])
fields_behind before item = filter_map-append field_item before (item ∷ [])

map_append : {A B : Type 0} (f : A → B) (xs ys : List A) → map f (xs ++ ys) ≡ map f xs ++ map f ys
map_append f [] ys = refl
map_append f (x ∷ xs) ys = ap (λ l. f x ∷ l) (map_append f xs ys)

kind_names_behind : (before : List Item) (item : Item) →
    kind_names (before ++ item ∷ []) ≡ kind_names before ++ kind_names (item ∷ [])
kind_names_behind before item =
    ap (map (λ kind. kind.name)) (kinds_behind before item)
    ∙ map_append (λ kind. kind.name) (kind_items before) (kind_items (item ∷ []))

field_behind : (before : List Item) (item : Item) (name : List ℕ) →
    kind_of_field (before ++ item ∷ []) name ≡ option_or (kind_of_field before name) (kind_of_field (item ∷ []) name)
field_behind before item name =
    ap (λ fields. option_map (λ (field : FieldItem). field.kind) (find (λ field. same_name name field.name) fields))
    (fields_behind before item)
    ∙ ap (option_map (λ (field : FieldItem). field.kind))
    (find_append (λ (field : FieldItem). same_name name field.name) (field_items before) (field_items (item ∷ [])))
    ∙ map_or (λ (field : FieldItem). field.kind) (find (λ field. same_name name field.name) (field_items before))
    (find (λ field. same_name name field.name) (field_items (item ∷ [])))

value_behind : (before : List Item) (item : Item) (name : List ℕ) →
    kind_of_value (before ++ item ∷ []) name ≡ option_or (kind_of_value before name) (kind_of_value (item ∷ []) name)
value_behind before item name =
    ap (λ kinds. option_map (λ (kind : KindItem). kind.name) (find (λ kind. is_among kind.values name) kinds))
    (kinds_behind before item)
    ∙ ap (option_map (λ (kind : KindItem). kind.name))
    (find_append (λ (kind : KindItem). is_among kind.values name) (kind_items before) (kind_items (item ∷ [])))
    ∙ map_or (λ (kind : KindItem). kind.name) (find (λ kind. is_among kind.values name) (kind_items before))
    (find (λ kind. is_among kind.values name) (kind_items (item ∷ [])))

-- tables that tell what an item behind others declares besides
declares_more : (before : List Item) (item : Item) (old new : Declared) → Declares before old →
    ((name : List ℕ) → is_among new.kinds name ≡ is_among old.kinds name || is_among (kind_names (item ∷ [])) name) →
    ((name : List ℕ) → told new.fields name ≡ option_or (told old.fields name) (kind_of_field (item ∷ []) name)) →
    ((name : List ℕ) → told new.values name ≡ option_or (told old.values name) (kind_of_value (item ∷ []) name)) →
    Declares (before ++ item ∷ []) new
declares_more before item old new declares kinds fields values = record {
  kinds = λ name.
      kinds name ∙ ap (λ b. b || is_among (kind_names (item ∷ [])) name) (declares.kinds name)
      ∙ sym (among_append (kind_names before) (kind_names (item ∷ [])) name)
      ∙ ap (λ names. is_among names name) (sym (kind_names_behind before item));
  fields = λ name.
      fields name ∙ ap (λ found. option_or found (kind_of_field (item ∷ []) name)) (declares.fields name)
      ∙ sym (field_behind before item name);
  values = λ name.
      values name ∙ ap (λ found. option_or found (kind_of_value (item ∷ []) name)) (declares.values name)
      ∙ sym (value_behind before item name);
}

-- the table of types with one more
put_one : (names : List (List ℕ)) (kind name : List ℕ) (known : Bool) → is_among names kind ≡ known →
    is_among (if known then names else names ++ kind ∷ []) name ≡ is_among names name || same_name name kind
put_one names kind name true is = known_once (is_among names name) (same_name name kind)
    (λ e. ap (is_among names) ((bytes_decides name kind).0 e) ∙ is)
put_one names kind name false is = among_push names kind name

pub kind_added : (before : List Item) (name : List ℕ) (values : List (List ℕ)) (old new : Declared) →
    new.kinds ≡ (if is_among old.kinds name then old.kinds else old.kinds ++ name ∷ []) → new.fields ≡ old.fields →
    ((other : List ℕ) → told new.values other ≡ option_or (told old.values other) (told_among values name other)) →
    Declares before old → Declares (before ++ Kind name values ∷ []) new
kind_added before name values old new kinds fields values_told declares =
    declares_more before (Kind name values) old new declares
    (λ other. ap (λ names. is_among names other) kinds ∙ put_one old.kinds name other (is_among old.kinds name) refl
    ∙ ap (λ b. is_among old.kinds other || b) (sym (or_false (same_name other name))))
    (λ other. ap (λ map. told map other) fields ∙ or_none (told old.fields other))
    (λ other. values_told other ∙ ap (option_or (told old.values other)) (one_kind (is_among values other) name values))

pub field_added : (before : List Item) (name kind : List ℕ) (old : Declared) (map : List (List ℕ × List ℕ)) →
    ((other : List ℕ) → told map other ≡ option_or (told old.fields other) (told_by name kind other)) →
    Declares before old → Declares (before ++ Field name kind ∷ []) (record old { fields = map })
field_added before name kind old map puts declares =
    declares_more before (Field name kind) old (record old { fields = map }) declares
    (λ other. sym (or_false (is_among old.kinds other)))
    (λ other. puts other ∙ ap (option_or (told old.fields other)) (one_field (same_name other name) name kind))
    (λ other. or_none (told old.values other))

-- an item that is neither a type nor a field declares nothing that the tables hold
pub nothing_added : (item : Item) → ((name : List ℕ) (values : List (List ℕ)) → item ≡ Kind name values → ⊥) →
    ((name kind : List ℕ) → item ≡ Field name kind → ⊥) → (before : List Item) (declared : Declared) →
    Declares before declared → Declares (before ++ item ∷ []) declared
nothing_added (Kind name values) no_kind no_field before declared declares = absurd (no_kind name values refl)
nothing_added (Field name kind) no_kind no_field before declared declares = absurd (no_field name kind refl)
nothing_added item no_kind no_field before declared declares =
    declares_more before item declared declared declares
    (λ other. sym (or_false (is_among declared.kinds other)))
    (λ other. or_none (told declared.fields other))
    (λ other. or_none (told declared.values other))
