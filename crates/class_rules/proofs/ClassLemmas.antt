-- The names of classes, and what the tables say of names.
use Rattle.std.proofs.Common.{◌≡◌, ℕ, Bool, true, false, ◌||◌, List, [], ◌∷◌, ◌++◌, Option, Some, is_some, cond, map}
use Rattle.std.proofs.Common.{flat_map, refl, sym, ap, ◌∙◌}
use Rattle.std.specs.List.{list_any, find}
use Rattle.std.specs.Option.{option_map}
use Rattle.amdl_tree.specs.declared.class.Class.{Class}
use Rattle.amdl_tree.specs.declared.tree.Item.{Item}
use Rattle.amdl_tree.specs.Items.{class_item, class_items, kind_items, field_items}
use Rattle.name_tables.specs.Names.{same_name, is_among, repeats}
use Rattle.tree_rules.specs.Spaces.{class_names, term_names}
use Rattle.tree_rules.specs.Rules.{passes, class_takes, use_takes}
use Rattle.tree_rules.specs.declared.opened.Opened.{Opened}
use Rattle.tree_rules.specs.Uses.{Use, OfAtom, OfPair, OfOutput, OfPick, uses_of_handlers}
use Rattle.declared_names.specs.declared.declared.Declared.{Declared}
use Rattle.class_rules.specs.ByTables.{is_term, takes}
use Rattle.declared_names.specs.Declares.{Declares}
use Rattle.class_rules.proofs.FormLemmas.{any_of_form}

any_map : {A B : Type 0} (t : B → Bool) (f : A → B) (xs : List A) → list_any (λ x. t (f x)) xs ≡ list_any t (map f xs)
any_map t f [] = refl
any_map t f (x ∷ xs) = ap (λ b. t (f x) || b) (any_map t f xs)

any_append : {A : Type 0} (t : A → Bool) (xs ys : List A) → list_any t (xs ++ ys) ≡ list_any t xs || list_any t ys
any_append t [] ys = refl
any_append t (x ∷ xs) ys = by (t x) (any_append t xs ys)
  where
    by : (b : Bool) → list_any t (xs ++ ys) ≡ list_any t xs || list_any t ys →
        b || list_any t (xs ++ ys) ≡ (b || list_any t xs) || list_any t ys
    by true e = refl
    by false e = e

pub any_same : {A : Type 0} (s t : A → Bool) → ((x : A) → s x ≡ t x) → (xs : List A) → list_any s xs ≡ list_any t xs
any_same s t same [] = refl
any_same s t same (x ∷ xs) = λ k. same x k || any_same s t same xs k

pub class_before : (name : List ℕ) (items : List Item) (found : Bool) →
    found ≡ list_any (λ item. passes (λ class. same_name name class.name) (class_item item)) items →
    found ≡ is_among (class_names items) name
class_before name items found is =
    is ∙ any_of_form class_item (λ class. same_name name class.name) items
    ∙ any_map (same_name name) (λ class. class.name) (class_items items)

pub open_among : (opened : List Opened) (name : List ℕ) (found : Bool) →
    found ≡ list_any (λ pick. same_name name pick.name) opened → found ≡ is_among (map (λ pick. pick.name) opened) name
open_among opened name found is = is ∙ any_map (same_name name) (λ pick. pick.name) opened

step : {A B : Type 0} (f : A → B) (b : Bool) (x : A) (rest : Option A) (any : Bool) →
    is_some (option_map f rest) ≡ any → is_some (option_map f (cond b (Some x) rest)) ≡ b || any
step f true x rest any e = refl
step f false x rest any e = e

-- something is found exactly where something passes
found_any : {A B : Type 0} (t : A → Bool) (f : A → B) (xs : List A) → is_some (option_map f (find t xs)) ≡ list_any t xs
found_any t f [] = refl
found_any t f (x ∷ xs) = step f (t x) x (find t xs) (list_any t xs) (found_any t f xs)

any_flat : {A B : Type 0} (t : B → Bool) (f : A → List B) (xs : List A) →
    list_any (λ x. list_any t (f x)) xs ≡ list_any t (flat_map f xs)
any_flat t f [] = refl
any_flat t f (x ∷ xs) =
    ap (λ b. list_any t (f x) || b) (any_flat t f xs) ∙ sym (any_append t (f x) (flat_map f xs))

-- the names of values and of fields by the tables
terms_are : (items : List Item) (declared : Declared) → Declares items declared → (name : List ℕ) →
    is_term declared name ≡ is_among (term_names items) name
terms_are items declared tables name =
    (λ k. is_some (tables.values name k) || is_some (tables.fields name k))
    ∙ (λ k. found_any (λ kind. is_among kind.values name) (λ kind. kind.name) (kind_items items) k
    || found_any (λ field. same_name name field.name) (λ field. field.kind) (field_items items) k)
    ∙ (λ k. any_flat (same_name name) (λ kind. kind.values) (kind_items items) k
    || any_map (same_name name) (λ field. field.name) (field_items items) k)
    ∙ sym (any_append (same_name name) (flat_map (λ kind. kind.values) (kind_items items))
    (map (λ field. field.name) (field_items items)))

takes_are : (items : List Item) (declared : Declared) → Declares items declared → (used : Use) →
    takes declared used ≡ use_takes items used
takes_are items declared tables (OfAtom opened atom) = refl
takes_are items declared tables (OfPair opened one two) = refl
takes_are items declared tables (OfOutput opened port changes) = refl
takes_are items declared tables (OfPick opened name kind) =
    ap (λ b. b || is_among (map (λ pick. pick.name) opened) name) (terms_are items declared tables name)

-- one of the four holds, or the last decides
first_holds : (a b c d : Bool) → a ≡ true → true ≡ a || b || c || d
first_holds true b c d e = refl
first_holds false b c d e = absurd (cc)

second_holds : (a b c d : Bool) → b ≡ true → true ≡ a || b || c || d
second_holds true b c d e = refl
second_holds false true c d e = refl
second_holds false false c d e = absurd (cc)

third_holds : (a b c d : Bool) → c ≡ true → true ≡ a || b || c || d
third_holds true b c d e = refl
third_holds false true c d e = refl
third_holds false false true d e = refl
third_holds false false false d e = absurd (cc)

last_decides : (a b c d : Bool) → a ≡ false → b ≡ false → c ≡ false → d ≡ a || b || c || d
last_decides a b c d one two three = λ k. ((sym one k || sym two k) || sym three k) || d

module _ (items : List Item) (class : Class) where
  pub class_taken : (found : Bool) → found ≡ is_among (class_names items) class.name → found ≡ true →
      true ≡ class_takes items class
  class_taken found is e = first_holds _ _ _ _ (sym is ∙ e)

  pub ports_taken : (found : Bool) → found ≡ repeats class.ports → found ≡ true → true ≡ class_takes items class
  ports_taken found is e = second_holds (is_among (class_names items) class.name) _ _ _ (sym is ∙ e)

  pub relations_taken : (found : Bool) → found ≡ repeats (map (λ relation. relation.name) class.relations) →
      found ≡ true → true ≡ class_takes items class
  relations_taken found is e =
      third_holds (is_among (class_names items) class.name) (repeats class.ports) _ _ (sym is ∙ e)

  pub uses_taken : (declared : Declared) (one two three found : Bool) → Declares items declared →
      one ≡ is_among (class_names items) class.name → one ≡ false → two ≡ repeats class.ports → two ≡ false →
      three ≡ repeats (map (λ relation. relation.name) class.relations) → three ≡ false →
      found ≡ list_any (takes declared) (uses_of_handlers class.handlers) → found ≡ class_takes items class
  uses_taken declared one two three found tables is_one no_one is_two no_two is_three no_three is =
      is ∙ any_same (takes declared) (use_takes items) (takes_are items declared tables)
      (uses_of_handlers class.handlers)
      ∙ last_decides _ _ _ _ (sym is_one ∙ no_one) (sym is_two ∙ no_two) (sym is_three ∙ no_three)
