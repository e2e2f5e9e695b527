-- What names stand for where more types are declared.
use Rattle.std.proofs.Common.{
  ◌≡◌,
  ℕ,
  List,
  [],
  ◌∷◌,
  ◌++◌,
  length,
  map,
  Option,
  Some,
  None,
  option_map,
  option_and_then,
  slice_get,
  sym,
  ap,
  subst,
  ◌∙◌,
}
use Rattle.std.specs.List.{All, AllByRecursion}
use Rattle.std.specs.Option.{option_or}
use Rattle.std.proofs.lemmas.List.{map-append}
use Rattle.std.proofs.lemmas.Option.{none-some, option_and_then_some}
use Rattle.amdl_tree.specs.declared.guard.Atom.{Atom}
use Rattle.amdl_tree.specs.declared.guard.Guard.{Guard}
use Rattle.amdl_tree.specs.declared.guard.Lit.{Lit}
use Rattle.amdl_tree.specs.declared.guard.Lit.TheOpen.{Lit-F}
use Rattle.amdl_tree.specs.declared.guard.Lit.TheViews.{out-Lit}
use Rattle.amdl_tree.specs.declared.statement.Alternative.{Alternative}
use Rattle.amdl_tree.specs.declared.statement.Stmt.{Stmt}
use Rattle.amdl_tree.specs.declared.statement.Stmt.TheOpen.{Stmt-F}
use Rattle.amdl_tree.specs.declared.statement.Stmt.TheViews.{out-Stmt}
use Rattle.amdl_tree.specs.declared.tree.Equal.{Equal}
use Rattle.amdl_tree.specs.Items.{KindItem}
use Rattle.amdl_tree.specs.WellBuilt.{StmtFits}
use Rattle.box_handlers.specs.declared.act.Term.{Term}
use Rattle.box_handlers.specs.declared.act.Term.TheVariants as term
use Rattle.box_handlers.specs.declared.act.Query.{Query}
use Rattle.box_handlers.specs.declared.act.Change.{Change}
use Rattle.box_handlers.specs.declared.act.Probe.{Probe}
use Rattle.box_handlers.specs.declared.act.Probe.TheVariants as probe
use Rattle.box_handlers.specs.declared.act.Test.{Test}
use Rattle.box_handlers.specs.declared.act.Act.{Act}
use Rattle.box_handlers.specs.declared.act.Act.TheVariants as act
use Rattle.box_handlers.specs.declared.act.Branch.{Branch}
use Rattle.tree_plan.specs.Names.{number_of, joined, all_some, kind_number, kind_named, value_number, values_named}
use Rattle.tree_plan.specs.Handlers.{
  Known,
  term_of,
  query_of,
  change_of,
  lit_numbered,
  probe_of,
  test_of,
  all_within,
  stmt_numbered,
  act_of,
  branch_of,
  acts_of,
}
use Rattle.tree_plan.proofs.NumberedLemmas.{numbered}
use Rattle.tree_soundness.proofs.Names.{number_front}
use Rattle.tree_soundness.proofs.Lists.{
  each_weaker,
  joined_some,
  option_map_some,
  come_from,
  all_come,
  zip_weaker,
  get_in_front,
}
use Rattle.tree_soundness.proofs.Trees.{LitParts, StmtParts, guard_holds, body_holds}

-- a type, and a value
pub kind_number_front : (kinds more : List KindItem) (name : List ℕ) (k : ℕ) → kind_number kinds name ≡ Some k →
    kind_number (kinds ++ more) name ≡ Some k
kind_number_front kinds more name k found =
    subst (λ names. number_of names name ≡ Some k) (sym (map-append (λ kind. kind.name) kinds more))
    (number_front (map (λ kind. kind.name) kinds) (map (λ kind. kind.name) more) name k found)

pub kind_named_front : (kinds more : List KindItem) (name : List ℕ) (kind : KindItem) →
    kind_named kinds name ≡ Some kind → kind_named (kinds ++ more) name ≡ Some kind
kind_named_front kinds more name kind found =
    option_and_then_some (slice_get kinds) (kind_number kinds name) kind found
    (λ k number at. ap (option_and_then (slice_get (kinds ++ more))) (kind_number_front kinds more name k number)
    ∙ get_in_front kinds more k kind at)

pub values_named_front : (kinds more : List KindItem) (name : List ℕ) (size : ℕ) →
    values_named kinds name ≡ Some size →
    values_named (kinds ++ more) name ≡ Some size
values_named_front kinds more name size found =
    option_map_some (λ kind. length kind.values) (kind_named kinds name) size found
    (λ kind named counted. ap (option_map (λ kind. length kind.values)) (kind_named_front kinds more name kind named)
    ∙ ap Some counted)

or_some : {A : Type 0} (one two more : Option A) (x : A) → option_or one two ≡ Some x →
    (two ≡ Some x → more ≡ Some x) →
    option_or one more ≡ Some x
or_some (Some y) two more x came step = came
or_some None two more x came step = step came

pub value_number_front : (kinds more : List KindItem) (name : List ℕ) (k : ℕ) → value_number kinds name ≡ Some k →
    value_number (kinds ++ more) name ≡ Some k
value_number_front [] more name k found = absurd (none-some k found)
value_number_front (kind ∷ kinds) more name k found =
    or_some (number_of kind.values name) (value_number kinds name) (value_number (kinds ++ more) name) k found
    (value_number_front kinds more name k)

-- what is known, with more types
abbrev pub with_kinds : Known → List KindItem → Known
with_kinds known more =
    record { kinds = known.kinds ++ more; fields = known.fields; relations = known.relations; ports = known.ports }

mapped_same : {A B : Type 0} (f : A → B) (one two : Option A) (b : B) → ((a : A) → one ≡ Some a → two ≡ Some a) →
    option_map f one ≡ Some b → option_map f two ≡ Some b
mapped_same f one two b step came =
    option_map_some f one b came (λ a here is. ap (option_map f) (step a here) ∙ ap Some is)

joined_same : {A B C : Type 0} (f : A → B → C) (a1 a2 : Option A) (b1 b2 : Option B) (c : C) →
    ((a : A) → a1 ≡ Some a → a2 ≡ Some a) → ((b : B) → b1 ≡ Some b → b2 ≡ Some b) →
    joined f a1 b1 ≡ Some c → joined f a2 b2 ≡ Some c
joined_same f a1 a2 b1 b2 c first second came =
    joined_some f a1 b1 c came (λ a b here there is. (λ i. joined f (first a here i) (second b there i)) ∙ ap Some is)

all_same : {A B : Type 0} (f g : A → Option B) (xs : List A) (ys : List B) →
    ((x : A) (y : B) → f x ≡ Some y → g x ≡ Some y) → all_some f xs ≡ Some ys → all_some g xs ≡ Some ys
all_same f g xs ys step came =
    all_come g xs ys (zip_weaker (λ x y. f x ≡ Some y) (λ x y. g x ≡ Some y) xs ys step (come_from f xs ys came))

-- by what is known of each member
pub each_same : {A B : Type 0} (f g : A → Option B) (xs : List A) (ys : List B) →
    AllByRecursion (λ x. (y : B) → f x ≡ Some y → g x ≡ Some y) xs → all_some f xs ≡ Some ys → all_some g xs ≡ Some ys
each_same f g [] ys each came = came
each_same f g (x ∷ xs) ys each came =
    joined_some (λ y others. y ∷ others) (f x) (all_some f xs) ys came
    (λ y others here later is.
    (λ i. joined (λ y others. y ∷ others) (each.0 y here i) (each_same f g xs others each.1 later i)) ∙ ap Some is)

module _ (known : Known) (more : List KindItem) where
  abbrev after : Known
  after = with_kinds known more

  pub term_front : (picks : List (List ℕ)) (name : List ℕ) (found : Term) → term_of known picks name ≡ Some found →
      term_of after picks name ≡ Some found
  term_front picks name found came =
      or_some (option_map term.Picked (number_of picks name))
      (option_or (option_map term.Field (number_of known.fields name))
      (option_map term.Value (value_number known.kinds name)))
      (option_or (option_map term.Field (number_of known.fields name))
      (option_map term.Value (value_number (known.kinds ++ more) name))) found came
      (λ rest. or_some (option_map term.Field (number_of known.fields name))
      (option_map term.Value (value_number known.kinds name))
      (option_map term.Value (value_number (known.kinds ++ more) name)) found rest
      (mapped_same term.Value (value_number known.kinds name) (value_number (known.kinds ++ more) name) found
      (value_number_front known.kinds more name)))

  query_front : (picks : List (List ℕ)) (atom : Atom) (query : Query) → query_of known picks atom ≡ Some query →
      query_of after picks atom ≡ Some query
  query_front picks atom query came =
      joined_same (λ relation args. record { relation = relation; args = args })
      (number_of known.relations atom.relation) (number_of known.relations atom.relation)
      (all_some (term_of known picks) atom.args) (all_some (term_of after picks) atom.args) query (λ a here. here)
      (λ args. all_same (term_of known picks) (term_of after picks) atom.args args (term_front picks)) came

  change_front : (picks : List (List ℕ)) (change : Equal) (found : Change) →
      change_of known picks change ≡ Some found →
      change_of after picks change ≡ Some found
  change_front picks change found came =
      joined_same (λ field to. record { field = field; to = to }) (number_of known.fields change.field)
      (number_of known.fields change.field)
      (term_of known picks change.value) (term_of after picks change.value) found (λ a here. here)
      (term_front picks change.value) came

  -- a literal, and a guard
  LitStays : Lit → Type 0
  LitStays lit =
      (picks : List (List ℕ)) (found : Probe) → probe_of known picks lit ≡ Some found →
      probe_of after picks lit ≡ Some found

  GuardStays : Guard → Type 0
  GuardStays guard =
      (picks : List (List ℕ)) (found : Test) → test_of known picks guard ≡ Some found →
      test_of after picks guard ≡ Some found

  lit_layer_front : (picks : List (List ℕ)) (layer : Lit-F Lit Guard) → LitParts LitStays GuardStays layer →
      (found : Probe) →
      lit_numbered (probe_of known picks) (test_of known picks) known picks layer ≡ Some found →
      lit_numbered (probe_of after picks) (test_of after picks) after picks layer ≡ Some found
  unfolding LitStays GuardStays
  lit_layer_front picks Lit-F.True parts found came = came
  lit_layer_front picks (Lit-F.Has atom) parts found came =
      mapped_same probe.Has (query_of known picks atom) (query_of after picks atom) found (query_front picks atom) came
  lit_layer_front picks (Lit-F.Same one two) parts found came =
      joined_same probe.Same (term_of known picks one) (term_of after picks one) (term_of known picks two)
      (term_of after picks two) found (term_front picks one) (term_front picks two) came
  lit_layer_front picks (Lit-F.Differ one two) parts found came =
      joined_same probe.Differ (term_of known picks one) (term_of after picks one) (term_of known picks two)
      (term_of after picks two) found (term_front picks one) (term_front picks two) came
  lit_layer_front picks (Lit-F.Not lit) parts found came =
      mapped_same probe.Not (probe_of known picks lit) (probe_of after picks lit) found (parts picks) came
  lit_layer_front picks (Lit-F.Group guard) parts found came =
      mapped_same probe.Group (test_of known picks guard) (test_of after picks guard) found (parts picks) came

  lit_front : (lit : Lit) → LitParts LitStays GuardStays (out-Lit lit) → LitStays lit
  unfolding LitStays
  lit_front lit parts picks found came =
      numbered.literal after picks lit
      ∙ lit_layer_front picks (out-Lit lit) parts found (sym (numbered.literal known picks lit) ∙ came)

  probes_front : (picks : List (List ℕ)) (lits : List Lit) (found : List Probe) → AllByRecursion LitStays lits →
      all_some (probe_of known picks) lits ≡ Some found → all_some (probe_of after picks) lits ≡ Some found
  unfolding LitStays
  probes_front picks lits found each came =
      each_same (probe_of known picks) (probe_of after picks) lits found
      (each_weaker LitStays
      (λ lit. (y : Probe) → probe_of known picks lit ≡ Some y → probe_of after picks lit ≡ Some y) lits
      (λ lit stays. stays picks) each) came

  guard_front : (guard : Guard) → AllByRecursion (AllByRecursion LitStays) guard.any → GuardStays guard
  unfolding GuardStays
  guard_front guard each picks found came =
      numbered.guard after picks guard
      ∙ mapped_same (λ lists. record { any = lists }) (all_some (all_some (probe_of known picks)) guard.any)
      (all_some (all_some (probe_of after picks)) guard.any) found
      (λ lists. each_same (all_some (probe_of known picks)) (all_some (probe_of after picks)) guard.any lists
      (each_weaker (AllByRecursion LitStays)
      (λ lits. (y : List Probe) → all_some (probe_of known picks) lits ≡ Some y →
      all_some (probe_of after picks) lits ≡ Some y) guard.any
      (λ lits stay y. probes_front picks lits y stay) each))
      (sym (numbered.guard known picks guard) ∙ came)

  -- a statement, and an alternative
  StmtStays : Stmt → Type 0
  StmtStays stmt =
      (picks : List (List ℕ)) (found : Act) → act_of known stmt picks ≡ Some found →
      act_of after stmt picks ≡ Some found

  BranchStays : Alternative → Type 0
  BranchStays alternative =
      (picks : List (List ℕ)) (found : Branch) → branch_of known alternative picks ≡ Some found →
      branch_of after alternative picks ≡ Some found

  block_front : (picks : List (List ℕ)) (body : List Stmt) (found : List Act) → AllByRecursion StmtStays body →
      all_within (act_of known) picks body ≡ Some found → all_within (act_of after) picks body ≡ Some found
  unfolding StmtStays
  block_front picks body found each came =
      each_same (λ stmt. act_of known stmt picks) (λ stmt. act_of after stmt picks) body found
      (each_weaker StmtStays
      (λ stmt. (y : Act) → act_of known stmt picks ≡ Some y → act_of after stmt picks ≡ Some y) body
      (λ stmt stays. stays picks) each) came

  branches_front : (picks : List (List ℕ)) (branches : List Alternative) (found : List Branch) →
      AllByRecursion BranchStays branches →
      all_within (branch_of known) picks branches ≡ Some found →
      all_within (branch_of after) picks branches ≡ Some found
  unfolding BranchStays
  branches_front picks branches found each came =
      each_same (λ branch. branch_of known branch picks) (λ branch. branch_of after branch picks) branches found
      (each_weaker BranchStays
      (λ branch. (y : Branch) → branch_of known branch picks ≡ Some y →
      branch_of after branch picks ≡ Some y) branches (λ branch stays. stays picks) each) came

  stmt_layer_front : (layer : Stmt-F Stmt Alternative) (picks : List (List ℕ)) →
      StmtParts StmtStays BranchStays layer →
      (found : Act) →
      stmt_numbered (act_of known) (branch_of known) known layer picks ≡ Some found →
      stmt_numbered (act_of after) (branch_of after) after layer picks ≡ Some found
  stmt_layer_front (Stmt-F.Insert atom) picks parts found came =
      mapped_same act.Insert (query_of known picks atom) (query_of after picks atom) found
      (query_front picks atom) came
  stmt_layer_front (Stmt-F.Remove atom) picks parts found came =
      mapped_same act.Remove (query_of known picks atom) (query_of after picks atom) found
      (query_front picks atom) came
  stmt_layer_front Stmt-F.Abort picks parts found came = came
  stmt_layer_front (Stmt-F.Output port changes) picks parts found came =
      joined_same act.Output (number_of known.ports port) (number_of known.ports port)
      (all_some (change_of known picks) changes) (all_some (change_of after picks) changes) found
      (λ a here. here)
      (λ ys. all_same (change_of known picks) (change_of after picks) changes ys (change_front picks)) came
  stmt_layer_front (Stmt-F.Choose alternatives) picks parts found came =
      mapped_same act.Choose (all_within (branch_of known) picks alternatives)
      (all_within (branch_of after) picks alternatives) found
      (λ ys. branches_front picks alternatives ys parts) came
  stmt_layer_front (Stmt-F.Pick name kind body) picks parts found came =
      joined_same act.Pick (values_named known.kinds kind) (values_named after.kinds kind)
      (all_within (act_of known) (picks ++ name ∷ []) body)
      (all_within (act_of after) (picks ++ name ∷ []) body) found
      (values_named_front known.kinds more kind) (λ ys. block_front (picks ++ name ∷ []) body ys parts) came

  stmt_front : (stmt : Stmt) → StmtParts StmtStays BranchStays (out-Stmt stmt) → StmtStays stmt
  unfolding StmtStays
  stmt_front stmt parts picks found came =
      numbered.statement after stmt picks
      ∙ stmt_layer_front (out-Stmt stmt) picks parts found (sym (numbered.statement known stmt picks) ∙ came)

  branch_front : (alternative : Alternative) → GuardStays alternative.guard →
      AllByRecursion StmtStays alternative.body → BranchStays alternative
  unfolding BranchStays GuardStays
  branch_front alternative guard body picks found came =
      numbered.alternative after alternative picks
      ∙ joined_same (λ test acts. record { guard = test; body = acts }) (test_of known picks alternative.guard)
      (test_of after picks alternative.guard)
      (all_within (act_of known) picks alternative.body) (all_within (act_of after) picks alternative.body) found
      (guard picks) (λ ys. block_front picks alternative.body ys body)
      (sym (numbered.alternative known alternative picks) ∙ came)

  -- the acts of a handler stay what they are
  pub acts_front : (n : ℕ) (body : List Stmt) (found : List Act) → All (StmtFits n) body →
      acts_of known body ≡ Some found → acts_of after body ≡ Some found
  acts_front n body found fits came =
      block_front [] body found
      (body_holds GuardStays StmtStays BranchStays
      (guard_holds LitStays GuardStays lit_front guard_front) stmt_front branch_front n body fits) came
