-- The handlers of the network of items that keep the rules.
use Rattle.std.proofs.Common.{
  ◌≡◌,
  ℕ,
  ◌+◌,
  ◌≤◌,
  true,
  false,
  cond,
  ◌||◌,
  nat_lt,
  List,
  [],
  ◌∷◌,
  length,
  map,
  sum_by,
  Some,
  refl,
  sym,
  ap,
  subst,
  ◌∙◌,
  arith,
}
use Rattle.std.specs.List.{All, list_any, AllByRecursion, AllZip}
use Rattle.std.proofs.lemmas.Bool.{or_parts, cond-true, cond-false}
use Rattle.std.proofs.lemmas.List.Elements.{All-from_recursion, All-map, All-nil}
use Rattle.std.proofs.lemmas.List.Sums.{sum_by-cons}
use Rattle.std.proofs.lemmas.Option.{same_Some}
use Rattle.amdl_tree.specs.declared.class.Class.{Class}
use Rattle.amdl_tree.specs.declared.class.Handler.{Handler}
use Rattle.amdl_tree.specs.declared.statement.Stmt.{Stmt}
use Rattle.amdl_tree.specs.declared.tree.Item.{Item}
use Rattle.amdl_tree.specs.declared.tree.Item.TheVariants.{Class as OfClass}
use Rattle.amdl_tree.specs.WellBuilt.{IsBuiltItem, StmtFits, HandlerFits}
use Rattle.box_handlers.specs.declared.act.Act.{Act}
use Rattle.box_handlers.specs.Body.{body_of}
use Rattle.box_handlers.specs.Fits.{Fits}
use Rattle.box_handlers.specs.Size.{statements_of, literals_of, statements_of_all, literals_of_all, paths_of}
use Rattle.net_plan.specs.declared.plan.Plan.{Plan}
use Rattle.net_plan.specs.declared.plan.ClassPlan.{ClassPlan}
use Rattle.net_plan.specs.Plan.{surroundings_of}
use Rattle.net_plan.specs.Sound.{IsHandled}
use Rattle.tree_plan.specs.Names.{same_name}
use Rattle.tree_plan.specs.Handlers.{Known, acts_of, body_for}
use Rattle.tree_plan.specs.Net.{known_of, class_of}
use Rattle.tree_rules.specs.declared.rule.Rule.TheVariants.{NameTaken, TooMany, Arity, KindMismatch, TooManyPaths}
use Rattle.tree_rules.specs.Spaces.{repeats}
use Rattle.tree_rules.specs.Uses.{Use, uses_of_body, uses_of_handlers}
use Rattle.tree_rules.specs.Rules.{bodies_of, use_takes, use_arity, use_mismatch}
use Rattle.tree_soundness.proofs.Prefixes.{KeepsRules}
use Rattle.tree_soundness.proofs.Declared.{takes_none}
use Rattle.tree_soundness.proofs.Lists.{
  come_from,
  zip_each,
  zip_length,
  each_fails,
  each_weaker,
  each_three,
  each_both,
  each_always,
}
use Rattle.tree_soundness.proofs.Existence.{body_comes, class_built, class_known, handlers_fit}
use Rattle.tree_soundness.proofs.Counts.{within, is_small}
use Rattle.tree_soundness.proofs.HeaderSizes.{passes_not}
use Rattle.tree_soundness.proofs.Spelled.{HasParts, IsClassOf, class_parts}
use Rattle.tree_soundness.proofs.Classes.{Stands, handlers_before}
use Rattle.tree_soundness.proofs.Fitting.{IsFree, each_left, each_right, acts_fit}
use Rattle.tree_soundness.proofs.Sums.{sum_map, sums_once, sum_zero}

-- the acts of a port: those of its handler, and none where it has none
abbrev pub acts_for : List Handler → List (List Act) → List ℕ → List Act
acts_for (handler ∷ handlers) (acts ∷ bodies) port =
    cond (same_name handler.port port) acts (acts_for handlers bodies port)
acts_for handlers bodies port = []

pub acts_for_are : (known : Known) (handlers : List Handler) (bodies : List (List Act)) (port : List ℕ) →
    AllZip (λ handler acts. acts_of known handler.body ≡ Some acts) handlers bodies →
    acts_of known (body_for handlers port) ≡ Some (acts_for handlers bodies port)
acts_for_are known [] [] port zip = refl
acts_for_are known [] (acts ∷ bodies) port zip = absurd zip
acts_for_are known (handler ∷ handlers) [] port zip = absurd zip
acts_for_are known (handler ∷ handlers) (acts ∷ bodies) port zip =
    elim (same_name handler.port port) as
    (λ b. acts_of known (cond b handler.body (body_for handlers port))
    ≡ Some (cond b acts (acts_for handlers bodies port))) [
      | true ↦ zip.0
      | false ↦ acts_for_are known handlers bodies port zip.1
    ]

-- what holds of no acts, and of those of each handler, holds of those of each port
pub acts_for_hold : (P : List Act → Type 0) (handlers : List Handler) (bodies : List (List Act)) (port : List ℕ) →
    P [] → AllByRecursion P bodies → P (acts_for handlers bodies port)
acts_for_hold P [] bodies port none each = none
acts_for_hold P (handler ∷ handlers) [] port none each = none
acts_for_hold P (handler ∷ handlers) (acts ∷ bodies) port none each =
    elim (same_name handler.port port) as (λ b. P (cond b acts (acts_for handlers bodies port))) [
      | true ↦ each.0
      | false ↦ acts_for_hold P handlers bodies port none each.1
    ]

-- what the ports have together is no more than what the handlers have
pub ports_within : (weight : List Act → ℕ) (handlers : List Handler) (bodies : List (List Act))
    (ports : List (List ℕ)) → weight [] ≡ 0 → repeats ports ≡ false →
    sum_by (λ port. weight (acts_for handlers bodies port)) ports ≤ sum_by weight bodies
ports_within weight [] bodies ports none once = omega (arith, zero_there)
  where
    zero_there : sum_by (λ port. weight []) ports ≡ 0
    zero_there = ap (λ n. sum_by (λ port. n) ports) none ∙ sum_zero ports
ports_within weight (handler ∷ handlers) [] ports none once = omega (arith, zero_there)
  where
    zero_there : sum_by (λ port. weight []) ports ≡ 0
    zero_there = ap (λ n. sum_by (λ port. n) ports) none ∙ sum_zero ports
ports_within weight (handler ∷ handlers) (acts ∷ bodies) ports none once =
    let rest = ports_within weight handlers bodies ports none once in
    let step : sum_by
    (λ port. weight (acts_for (handler ∷ handlers) (acts ∷ bodies) port)) ports ≤ weight acts + sum_by
    (λ port. weight (acts_for handlers bodies port)) ports =
    sums_once handler.port (weight acts) (λ port. weight (acts_for (handler ∷ handlers) (acts ∷ bodies) port))
    (λ port. weight (acts_for handlers bodies port)) ports once
    (λ port held.
    let e : weight (acts_for (handler ∷ handlers) (acts ∷ bodies) port) ≡ weight acts =
    ap weight (cond-true (same_name handler.port port) acts (acts_for handlers bodies port) held) in
    omega (arith, e))
    (λ port failed.
    let e : weight (acts_for (handler ∷ handlers) (acts ∷ bodies) port) ≡ weight (acts_for handlers bodies port) =
    ap weight (cond-false (same_name handler.port port) acts (acts_for handlers bodies port) failed) in
    omega (arith, e)) in
    omega (arith, rest, step, sum_by-cons weight acts bodies)

-- what is used by each handler
each_handler : (P : Use → Type 0) (handlers : List Handler) → AllByRecursion P (uses_of_handlers handlers) →
    AllByRecursion (λ (handler : Handler). AllByRecursion P (uses_of_body handler.body [])) handlers
each_handler P [] each = tt
each_handler P (handler ∷ handlers) each = (
  each_left P (uses_of_body handler.body []) (uses_of_handlers handlers) each,
  each_handler P handlers (each_right P (uses_of_body handler.body []) (uses_of_handlers handlers) each),
)

zip_self : {A B : Type 0} (f : A → B) (R : A → B → Type 0) (xs : List A) (ys : List B) →
    ((x : A) (y : B) → R x y → f x ≡ y) → AllZip R xs ys → ys ≡ map f xs
zip_self f R [] [] step zip = refl
zip_self f R [] (y ∷ ys) step zip = absurd zip
zip_self f R (x ∷ xs) [] step zip = absurd zip
zip_self f R (x ∷ xs) (y ∷ ys) step zip = λ i. sym (step x y zip.0) i ∷ zip_self f R xs ys step zip.1 i

module _ (items : List Item) (keeps : KeepsRules items) (built : All IsBuiltItem items) (spelled : Plan)
    (parts : HasParts items spelled)
    (class : Class) (at : Stands items (OfClass class)) (found : ClassPlan)
    (came : class_of items class ≡ Some found) where
  abbrev of : IsClassOf items class found
  of = class_parts items class found came

  abbrev before : Known
  before = known_of at.before class

  abbrev bodies : List (List Act)
  bodies = (class_known items keeps built at.before class at.after at.whole).bodies.0

  bodies_are : bodies_of at.before class ≡ Some bodies
  bodies_are = (class_known items keeps built at.before class at.after at.whole).bodies.1

  bodies_zip : AllZip (λ handler acts. acts_of before handler.body ≡ Some acts) class.handlers bodies
  bodies_zip = come_from (λ handler. acts_of before handler.body) class.handlers bodies bodies_are

  ports_zip : AllZip
      (λ port acts. acts_of before (body_for class.handlers port) ≡ Some acts) class.ports found.handlers
  ports_zip =
      come_from (λ port. acts_of before (body_for class.handlers port)) class.ports found.handlers
      (handlers_before items keeps built spelled parts class at found came)

  handlers_are : found.handlers ≡ map (acts_for class.handlers bodies) class.ports
  handlers_are =
      zip_self (acts_for class.handlers bodies)
      (λ port acts. acts_of before (body_for class.handlers port) ≡ Some acts) class.ports found.handlers
      (λ port acts here. same_Some (acts_for class.handlers bodies port) acts
      (sym (acts_for_are before class.handlers bodies port bodies_zip) ∙ here)) ports_zip

  ports_once : repeats class.ports ≡ false
  ports_once = (takes_none at.before class (keeps.each NameTaken at.before (OfClass class) at.after at.whole)).ports

  -- the handlers by ports are no larger than those of the text
  weighed : (weight : List Act → ℕ) → weight [] ≡ 0 → sum_by weight found.handlers ≤ sum_by weight bodies
  weighed weight none =
      let e : sum_by weight found.handlers
      ≡ sum_by (λ port. weight (acts_for class.handlers bodies port)) class.ports =
      ap (sum_by weight) handlers_are ∙ sum_map weight (acts_for class.handlers bodies) class.ports in
      omega (arith, e, ports_within weight class.handlers bodies class.ports none ports_once)

  sizes_kept : (nat_lt 1024 (statements_of_all bodies) ≡ false) × (nat_lt 4096 (literals_of_all bodies) ≡ false)
  sizes_kept =
      or_parts (nat_lt 1024 (statements_of_all bodies)) (nat_lt 4096 (literals_of_all bodies))
      (passes_not (λ bodies. nat_lt 1024 (statements_of_all bodies) || nat_lt 4096 (literals_of_all bodies))
      (bodies_of at.before class) bodies
      (is_small at.before class (keeps.each TooMany at.before (OfClass class) at.after at.whole)).sizes bodies_are)

  -- nothing that is used breaks a rule
  all_free : AllByRecursion (IsFree at.before class) (uses_of_handlers class.handlers)
  all_free =
      let uses = uses_of_handlers class.handlers in
      each_weaker
      (λ one. (use_takes at.before one ≡ false) × (use_arity class.relations one ≡ false)
      × (use_mismatch at.before class.relations one ≡ false)) (IsFree at.before class) uses
      (λ one kept. record { takes = kept.0; arity = kept.1; mismatch = kept.2 })
      (each_three (λ one. use_takes at.before one ≡ false) (λ one. use_arity class.relations one ≡ false)
      (λ one. use_mismatch at.before class.relations one ≡ false) uses
      (each_fails (use_takes at.before) uses
      (takes_none at.before class (keeps.each NameTaken at.before (OfClass class) at.after at.whole)).uses)
      (each_fails (use_arity class.relations) uses (keeps.each Arity at.before (OfClass class) at.after at.whole))
      (each_fails (use_mismatch at.before class.relations) uses
      (keeps.each KindMismatch at.before (OfClass class) at.after at.whole)))

  abbrev depth : ℕ
  depth = (class_built items keeps built at.before class at.after at.whole).0

  abbrev IsGood : List Stmt → Type 0
  IsGood body = All (StmtFits depth) body × AllByRecursion (IsFree at.before class) (uses_of_body body [])

  each_good : AllByRecursion (λ (handler : Handler). IsGood handler.body) class.handlers
  each_good =
      each_weaker
      (λ (handler : Handler). HandlerFits depth handler
      × AllByRecursion (IsFree at.before class) (uses_of_body handler.body []))
      (λ (handler : Handler). IsGood handler.body) class.handlers
      (λ handler both. (both.0.1, both.1))
      (each_both (HandlerFits depth)
      (λ (handler : Handler). AllByRecursion (IsFree at.before class) (uses_of_body handler.body [])) class.handlers
      (handlers_fit items keeps built at.before class at.after at.whole)
      (each_handler (IsFree at.before class) class.handlers all_free))

  ports_good : AllByRecursion (λ port. IsGood (body_for class.handlers port)) class.ports
  ports_good =
      each_always (λ port. IsGood (body_for class.handlers port)) class.ports
      (λ port. body_comes IsGood class.handlers port (All-nil (StmtFits depth), tt) each_good)

  pub class_handled : IsHandled spelled found
  class_handled = record {
    one_each =
        zip_length
        (λ port acts. acts_of before (body_for class.handlers port) ≡ Some acts) class.ports found.handlers ports_zip
        ∙ ap length (sym of.ports);
    fits = All-from_recursion (λ acts. Fits (surroundings_of spelled found) (body_of acts) []) found.handlers
        (zip_each (λ port acts. acts_of before (body_for class.handlers port) ≡ Some acts)
        (λ port. IsGood (body_for class.handlers port))
        (λ acts. Fits (surroundings_of spelled found) (body_of acts) []) class.ports found.handlers
        (λ port acts good here. acts_fit items keeps spelled parts class at found of depth
        (body_for class.handlers port) acts good.0 good.1 here) ports_zip ports_good);
    queries = of.queries;
    statements =
        omega (
          arith,
          weighed (λ acts. statements_of (body_of acts)) refl,
          within 1024 (statements_of_all bodies) sizes_kept.0,
        );
    literals =
        omega
        (arith, weighed (λ acts. literals_of (body_of acts)) refl, within 4096 (literals_of_all bodies) sizes_kept.1);
    paths = subst (All (λ acts. paths_of (body_of acts) ≤ 1024)) (sym handlers_are)
        (All-map (λ acts. paths_of (body_of acts) ≤ 1024) (acts_for class.handlers bodies) class.ports
        (All-from_recursion (λ port. paths_of (body_of (acts_for class.handlers bodies port)) ≤ 1024) class.ports
        (each_always (λ port. paths_of (body_of (acts_for class.handlers bodies port)) ≤ 1024) class.ports
        (λ port. acts_for_hold (λ acts. paths_of (body_of acts) ≤ 1024) class.handlers bodies port (omega arith)
        (each_weaker (λ acts. nat_lt 1024 (paths_of (body_of acts)) ≡ false)
        (λ acts. paths_of (body_of acts) ≤ 1024) bodies
        (λ acts kept. within 1024 (paths_of (body_of acts)) kept)
        (each_fails (λ acts. nat_lt 1024 (paths_of (body_of acts))) bodies
        (passes_not (list_any (λ acts. nat_lt 1024 (paths_of (body_of acts)))) (bodies_of at.before class) bodies
        (keeps.each TooManyPaths at.before (OfClass class) at.after at.whole) bodies_are)))))));
  }
