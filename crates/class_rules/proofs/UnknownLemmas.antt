-- Names in a class that stand for nothing.
use Rattle.std.proofs.Common.{
  ◌≡◌,
  ℕ,
  ◌+◌,
  ◌<◌,
  ◌≤◌,
  Bool,
  true,
  false,
  ◌||◌,
  not,
  if◌then◌else◌,
  List,
  [],
  ◌∷◌,
  ◌++◌,
  length,
  take,
  get_or,
  is_none,
  refl,
  sym,
  ap,
  ◌∙◌,
}
use Rattle.std.specs.List.{list_any}
use Rattle.std.specs.Cmp.Lexicographic.{bytes_decides}
use Rattle.std.proofs.lemmas.List.{take_more, take_all}
use Rattle.amdl_tree.specs.declared.class.Handler.{Handler}
use Rattle.amdl_tree.specs.declared.class.Relation.{Relation}
use Rattle.name_tables.specs.Names.{same_name, is_among}
use Rattle.tree_rules.specs.Spaces.{kind_names}
use Rattle.tree_rules.specs.Rules.{class_unknown}
use Rattle.class_rules.specs.declared.read.ReadClass.{ReadClass}
use Rattle.class_rules.specs.Reads.{IsRead}
use Rattle.class_rules.proofs.ClassLemmas.{any_same}

or_assoc : (a b c : Bool) → (a || b) || c ≡ a || (b || c)
or_assoc true b c = refl
or_assoc false b c = refl

or_false : (a : Bool) → a || false ≡ a
or_false true = refl
or_false false = refl

among_append : (xs ys : List (List ℕ)) (name : List ℕ) → is_among (xs ++ ys) name ≡ is_among xs name || is_among ys name
among_append [] ys name = refl
among_append (x ∷ xs) ys name =
    ap (λ b. same_name name x || b) (among_append xs ys name)
    ∙ sym (or_assoc (same_name name x) (is_among xs name) (is_among ys name))

among_push : (xs : List (List ℕ)) (x name : List ℕ) →
    is_among (xs ++ x ∷ []) name ≡ is_among xs name || same_name name x
among_push xs x name = among_append xs (x ∷ []) name ∙ ap (λ b. is_among xs name || b) (or_false (same_name name x))

known_once : (known same : Bool) → (same ≡ true → known ≡ true) → known ≡ known || same
known_once true same is = refl
known_once false true is = is refl
known_once false false is = refl

-- the table with one name more
put_one : (names : List (List ℕ)) (x name : List ℕ) (known : Bool) → is_among names x ≡ known →
    is_among (if known then names else names ++ x ∷ []) name ≡ is_among names name || same_name name x
put_one names x name true is = known_once (is_among names name) (same_name name x)
    (λ e. ap (is_among names) ((bytes_decides name x).0 e) ∙ is)
put_one names x name false is = among_push names x name

pub table_more : (names table now : List (List ℕ)) (i : ℕ) (x : List ℕ) → i < length names → x ≡ get_or names i x →
    ((name : List ℕ) → is_among table name ≡ is_among (take i names) name) →
    now ≡ (if is_among table x then table else table ++ x ∷ []) →
    (name : List ℕ) → is_among now name ≡ is_among (take (i + 1) names) name
table_more names table now i x inside here so_far put name =
    ap (λ t. is_among t name) put ∙ put_one table x name (is_among table x) refl
    ∙ ap (λ b. b || same_name name x) (so_far name)
    ∙ sym (among_push (take i names) x name)
    ∙ ap (λ t. is_among t name) (ap (λ v. take i names ++ v ∷ []) here ∙ sym (take_more names i x inside))

pub table_all : (names table : List (List ℕ)) (i : ℕ) → length names ≤ i →
    ((name : List ℕ) → is_among table name ≡ is_among (take i names) name) →
    (name : List ℕ) → is_among table name ≡ is_among names name
table_all names table i all so_far name = so_far name ∙ ap (λ t. is_among t name) (take_all i names all)

-- ports by a table of them
pub ports_by_table : (ports table : List (List ℕ)) (handlers : List Handler) (found : Bool) →
    ((name : List ℕ) → is_among table name ≡ is_among ports name) →
    found ≡ list_any (λ handler. not (is_among table handler.port)) handlers →
    found ≡ list_any (λ handler. not (is_among ports handler.port)) handlers
ports_by_table ports table handlers found tells is =
    is ∙ any_same (λ handler. not (is_among table handler.port)) (λ handler. not (is_among ports handler.port))
    (λ handler. ap not (tells handler.port)) handlers

first_holds : (a b c : Bool) → a ≡ true → true ≡ a || b || c
first_holds true b c e = refl
first_holds false b c e = absurd (cc)

second_holds : (a b c : Bool) → b ≡ true → true ≡ a || b || c
second_holds true b c e = refl
second_holds false true c e = refl
second_holds false false c e = absurd (cc)

last_decides : (a b c : Bool) → a ≡ false → b ≡ false → c ≡ a || b || c
last_decides a b c one two = λ k. (sym one k || sym two k) || c

module _ (read : ReadClass) (is_read : IsRead read) where
  abbrev kind_absent : List (List ℕ) → Relation → Bool
  kind_absent kinds relation = list_any (λ kind. not (is_among kinds kind)) relation.kinds

  kinds_are : list_any (kind_absent read.declared.now.kinds) read.class.now.relations
      ≡ list_any (kind_absent (kind_names read.before.now)) read.class.now.relations
  kinds_are =
      any_same (kind_absent read.declared.now.kinds) (kind_absent (kind_names read.before.now))
      (λ relation. any_same (λ kind. not (is_among read.declared.now.kinds kind))
      (λ kind. not (is_among (kind_names read.before.now) kind))
      (λ kind. ap not (is_read.declares.kinds kind)) relation.kinds)
      read.class.now.relations

  pub kinds_unknown : (found : Bool) →
      found ≡ list_any (kind_absent read.declared.now.kinds) read.class.now.relations → found ≡ true →
      true ≡ class_unknown read.before.now read.class.now
  kinds_unknown found is e = first_holds _ _ _ (sym kinds_are ∙ sym is ∙ e)

  pub ports_unknown : (found : Bool) →
      found ≡ list_any (λ handler. not (is_among read.class.now.ports handler.port)) read.class.now.handlers →
      found ≡ true → true ≡ class_unknown read.before.now read.class.now
  ports_unknown found is e =
      second_holds (list_any (kind_absent (kind_names read.before.now)) read.class.now.relations) _ _ (sym is ∙ e)

  pub bodies_unknown : (one two found : Bool) →
      one ≡ list_any (kind_absent read.declared.now.kinds) read.class.now.relations → one ≡ false →
      two ≡ list_any (λ handler. not (is_among read.class.now.ports handler.port)) read.class.now.handlers →
      two ≡ false → found ≡ is_none read.bodies.now → found ≡ class_unknown read.before.now read.class.now
  bodies_unknown one two found is_one no_one is_two no_two is =
      is ∙ ap is_none is_read.bodies
      ∙ last_decides _ _ _ (sym kinds_are ∙ sym is_one ∙ no_one) (sym is_two ∙ no_two)
