-- The places of names among what has them.
use Rattle.std.proofs.Common.{◌≡◌, ℕ, ◌+◌, cond, List, [], ◌∷◌, map, Option, Some, None, slice_get, refl, sym, ap, ◌∙◌}
use Rattle.std.specs.Borrow.{Bor}
use Rattle.std.specs.List.{position_from}
use Rattle.std.specs.Option.{option_map, option_and_then}
use Rattle.std.specs.Slice.{IsItemAt}
use Rattle.std.proofs.lemmas.Option.{slice_get_past, slice_get-get_or}
use Rattle.amdl_tree.specs.declared.class.Class.{Class}
use Rattle.amdl_tree.specs.declared.class.Relation.{Relation}
use Rattle.amdl_tree.specs.Items.{KindItem}
use Rattle.box_contents.specs.declared.entry.Entry.{Entry}
use Rattle.tree_plan.specs.Names.{same_name, number_of}
use Rattle.tree_plan.specs.Net.{tuple_of_values, relation_names, entry_with, class_number, class_among, port_of}
use Rattle.tree_plan.specs.Net.{box_number}
use Rattle.tree_network.specs.Reads.{class_back, classes_back, box_back, boxes_back}
use Rattle.tree_network.specs.declared.items.BoxItem.{BoxItem as ReadBox}
use Rattle.tree_plan.proofs.NameLemmas.{lent_at}

-- the place of a name is that among the names
pub place_from : {A : Type 0} (named : A → List ℕ) (xs : List A) (name : List ℕ) (i : ℕ) →
    position_from (λ x. same_name name (named x)) i xs ≡ position_from (same_name name) i (map named xs)
place_from named [] name i = refl
place_from named (x ∷ xs) name i =
    ap (λ later. cond (same_name name (named x)) (Some i) later) (place_from named xs name (i + 1))

pub place_back_from : {A B : Type 0} (named : B → List ℕ) (back : A → B) (xs : List A) (name : List ℕ) (i : ℕ) →
    position_from (λ x. same_name name (named (back x))) i xs
    ≡ position_from (same_name name) i (map named (map back xs))
place_back_from named back [] name i = refl
place_back_from named back (x ∷ xs) name i =
    ap (λ later. cond (same_name name (named (back x))) (Some i) later) (place_back_from named back xs name (i + 1))

pub class_found : (classes : List (Bor Class)) (name : List ℕ) (found : Option ℕ) →
    found ≡ position_from (λ class. same_name name class.now.name) 0 classes →
    found ≡ class_number (classes_back classes) name
class_found classes name found at = at ∙ place_back_from (λ class. class.name) class_back classes name 0

pub class_here : (classes : List (Bor Class)) (name : List ℕ) (place : ℕ) (lent : Option (Bor (Bor Class))) →
    Some place ≡ class_number (classes_back classes) name → IsItemAt classes place lent →
    option_map (λ class. class.now.now) lent ≡ class_among (classes_back classes) name
class_here classes name place lent at here =
    lent_at class_back classes place lent here ∙ ap (option_and_then (slice_get (classes_back classes))) at

pub box_found : (boxes : List ReadBox) (name : List ℕ) (found : Option ℕ) →
    found ≡ position_from (λ item. same_name name item.name) 0 boxes →
    found ≡ box_number (boxes_back boxes) name
box_found boxes name found at = at ∙ place_back_from (λ box. box.name) box_back boxes name 0

pub port_here : (classes : List Class) (port : List ℕ) (boxes : List ReadBox) (k : ℕ) (lent : Option (Bor ReadBox))
    (found : Option ℕ) → IsItemAt boxes k lent →
    found ≡ option_and_then (port_of classes port) (option_map (λ item. box_back item.now) lent) →
    found ≡ option_and_then (port_of classes port) (slice_get (boxes_back boxes) k)
port_here classes port boxes k lent found here comes =
    comes ∙ ap (option_and_then (port_of classes port)) (lent_at box_back boxes k lent here)

pub relation_found : (class : Class) (name : List ℕ) (found : Option ℕ) →
    found ≡ position_from (λ relation. same_name name relation.name) 0 class.relations →
    found ≡ number_of (relation_names class) name
relation_found class name found at = at ∙ place_from (λ relation. relation.name) class.relations name 0

-- the item that a look-up by a place lends
pub lent_here : {X : Type 0} (xs : List X) (k : ℕ) (lent : Option (Bor X)) → IsItemAt xs k lent →
    option_map (λ x. x.now) lent ≡ slice_get xs k
lent_here xs k None at = sym (slice_get_past xs k at.3)
lent_here xs k (Some x) at = ap Some at.1 ∙ sym (slice_get-get_or xs k x.now at.3.0)

abbrev pub entry_by : List KindItem → List (List ℕ) → ℕ → Relation → Option Entry
entry_by kinds values number relation =
    option_map (λ tuple. record { relation = number; tuple = tuple }) (tuple_of_values kinds relation.kinds values)

pub entry_here : (kinds : List KindItem) (class : Class) (values : List (List ℕ)) (number : ℕ)
    (lent : Option (Bor Relation)) (found : Option Entry) → IsItemAt class.relations number lent →
    found ≡ option_and_then (entry_by kinds values number) (option_map (λ relation. relation.now) lent) →
    found ≡ entry_with kinds class values number
entry_here kinds class values number lent found here comes =
    comes ∙ ap (option_and_then (entry_by kinds values number)) (lent_here class.relations number lent here)
