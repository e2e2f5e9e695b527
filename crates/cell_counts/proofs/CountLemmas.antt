-- The counts of the code go on with an item more.
use Rattle.std.proofs.Common.{◌≡◌, ℕ, ◌+◌, ◌*◌, ◌^◌, ◌<◌, ◌≤◌, false, ◌||◌, if◌then◌else◌, List, [], ◌∷◌, ◌++◌, length}
use Rattle.std.proofs.Common.{map, Some, None, slice_get, inl, inr, refl, sym, ap, subst, ◌∙◌, append-nil, append_assoc}
use Rattle.std.proofs.Common.{length-append, arith}
use Rattle.std.specs.List.{All, list_any, position}
use Rattle.std.specs.Option.{option_map, option_and_then}
use Rattle.std.proofs.lemmas.Bool.{or_parts, cases_lt}
use Rattle.std.proofs.lemmas.Nat.{pow_below}
use Rattle.std.proofs.lemmas.Option.{none-some, same_Some}
use Rattle.std.proofs.lemmas.List.{map-append, get_or_append_left}
use Rattle.std.proofs.lemmas.List.Elements.{filter_map-append}
use Rattle.amdl_tree.specs.declared.class.Class.{Class}
use Rattle.amdl_tree.specs.declared.guard.Atom.{Atom}
use Rattle.amdl_tree.specs.declared.tree.Item.{Item}
use Rattle.amdl_tree.specs.declared.tree.Item.TheVariants.{Field, Class as OfClass, Host, Instance}
use Rattle.amdl_tree.specs.Items.{class_item, class_items, kind_items}
use Rattle.amdl_tree.specs.WellBuilt.{IsBuiltItem}
use Rattle.net_plan.specs.declared.plan.ClassPlan.{ClassPlan}
use Rattle.tree_plan.specs.Names.{same_name, values_named}
use Rattle.tree_plan.specs.Net.{class_of}
use Rattle.tree_rules.specs.declared.rule.Rule.TheVariants.{NameTaken, UnknownName, FieldLate}
use Rattle.tree_rules.specs.Spaces.{class_names, is_among, repeats}
use Rattle.tree_rules.specs.Rules.{box_cells, use_takes}
use Rattle.tree_rules.specs.Uses.{uses_of_handlers}
use Rattle.tree_rules.specs.Checked.{KeepsEach}
use Rattle.tree_soundness.specs.Counting.{AddsNothing, CellsAreCounted, CellsAreTold, KeptIsCounted}
use Rattle.cell_counts.specs.declared.counted.Counted.{Counted}
use Rattle.cell_counts.specs.Counts.{IsCountOf}

classes_more : (before : List Item) (item : Item) →
    class_names (before ++ item ∷ []) ≡ class_names before ++ class_names (item ∷ [])
classes_more before item =
    ap (map (λ class. class.name)) (filter_map-append class_item before (item ∷ []))
    ∙ map-append (λ class. class.name) (class_items before) (class_items (item ∷ []))

same_classes : (before : List Item) (item : Item) → class_names (item ∷ []) ≡ [] →
    class_names before ≡ class_names (before ++ item ∷ [])
same_classes before item none =
    sym (classes_more before item ∙ ap (λ names. class_names before ++ names) none ∙ append-nil (class_names before))

pub nothing_added : (before : List Item) (item : Item) (counted : Counted) → CellsAreCounted → AddsNothing item →
    All IsBuiltItem (before ++ item ∷ []) → IsCountOf before counted → IsCountOf (before ++ item ∷ []) counted
nothing_added before item counted laws none built count = record {
  classes = count.classes ∙ same_classes before item (ap (map (λ class. class.name)) none.no_class);
  counts = laws.stay before item counted.packets counted.nodes counted.cells none built count.counts;
}

-- an item of another form declares nothing that is counted
pub adds_nothing : (item : Item) → ((name kind : List ℕ) → item ≡ Field name kind → ⊥) →
    ((class : Class) → item ≡ OfClass class → ⊥) → ((name : List ℕ) → item ≡ Host name → ⊥) →
    ((name class : List ℕ) (first : List Atom) → item ≡ Instance name class first → ⊥) → AddsNothing item
adds_nothing (Field name kind) no_field no_class no_host no_box = absurd (no_field name kind refl)
adds_nothing (OfClass class) no_field no_class no_host no_box = absurd (no_class class refl)
adds_nothing (Host name) no_field no_class no_host no_box = absurd (no_host name refl)
adds_nothing (Instance name class first) no_field no_class no_host no_box = absurd (no_box name class first refl)
adds_nothing _ no_field no_class no_host no_box =
    record { no_field = refl; no_class = refl; no_host = refl; no_box = refl }

module _ (before : List Item) (old new : Counted) (laws : CellsAreCounted) (count : IsCountOf before old) where
  pub host_added : (name : List ℕ) → new ≡ record old { nodes = old.nodes + 1 } →
      IsCountOf (before ++ Host name ∷ []) new
  host_added name is =
      subst (IsCountOf (before ++ Host name ∷ [])) (sym is)
      (record {
        classes = count.classes ∙ same_classes before (Host name) refl;
        counts = laws.host before name old.packets old.nodes old.cells count.counts;
      })

  pub field_added : (name kind : List ℕ) (size : ℕ) → KeepsEach (before ++ Field name kind ∷ []) →
      Some size ≡ values_named (kind_items before) kind → new ≡ record old { packets = old.packets * size } →
      IsCountOf (before ++ Field name kind ∷ []) new
  field_added name kind size keeps sized is =
      subst (IsCountOf (before ++ Field name kind ∷ [])) (sym is)
      (record {
        classes = count.classes ∙ same_classes before (Field name kind) refl;
        counts =
            laws.field before name kind old.packets old.nodes size old.cells
            (keeps before (Field name kind) [] refl FieldLate) (sym sized) count.counts;
      })

  pub box_added : (told : CellsAreTold) (kept : KeptIsCounted) (name class : List ℕ) (first : List Atom) →
      KeepsEach (before ++ Instance name class first ∷ []) → KeepsEach before → All IsBuiltItem before →
      ((number : ℕ) →
      option_and_then (slice_get old.cells) (position (same_name class) old.classes) ≡ Some number →
      new ≡ record old { nodes = old.nodes + number }) →
      IsCountOf (before ++ Instance name class first ∷ []) new
  box_added told kept name class first keeps front built adds =
      let item = Instance name class first in
      let found = kept.box before name class first (keeps before item [] refl UnknownName) front built in
      let here : option_and_then (slice_get old.cells) (position (same_name class) old.classes) ≡ Some found.0 =
      ap (λ names. option_and_then (slice_get old.cells) (position (same_name class) names)) count.classes
      ∙ sym (told.named before old.packets old.nodes old.cells class count.counts) ∙ found.1 in
      subst (IsCountOf (before ++ item ∷ [])) (sym (adds found.0 here))
      (record {
        classes = count.classes ∙ same_classes before item refl;
        counts = laws.box before name class first old.packets old.nodes found.0 old.cells found.1 count.counts;
      })

  -- the name of the class is new
  name_new : (class : Class) → KeepsEach (before ++ OfClass class ∷ []) → is_among old.classes class.name ≡ false
  name_new class keeps =
      let taken = is_among (class_names before) class.name in
      let ports = repeats class.ports in
      let relations = repeats (map (λ relation. relation.name) class.relations) in
      let uses = list_any (use_takes before) (uses_of_handlers class.handlers) in
      let three = or_parts (taken || ports || relations) uses (keeps before (OfClass class) [] refl NameTaken) in
      let two = or_parts (taken || ports) relations three.0 in
      ap (λ names. is_among names class.name) count.classes ∙ (or_parts taken ports two.0).0

  pub class_added : (class : Class) (plan : ClassPlan) (number : ℕ) → KeepsEach (before ++ OfClass class ∷ []) →
      All IsBuiltItem (before ++ OfClass class ∷ []) → Some plan ≡ class_of before class →
      number ≡ box_cells plan →
      (names : List (List ℕ)) → names ≡ (if is_among old.classes class.name then old.classes else old.classes ++ class.name ∷ []) →
      IsCountOf (before ++ OfClass class ∷ [])
      (record old { classes = names; cells = old.cells ++ number ∷ [] })
  class_added class plan number keeps built planned counted names put = record {
    classes =
        put ∙ ap (λ b. if b then old.classes else old.classes ++ class.name ∷ []) (name_new class keeps)
        ∙ ap (λ list. list ++ class.name ∷ []) count.classes ∙ sym (classes_more before (OfClass class));
    counts =
        laws.class before class old.packets old.nodes number old.cells built
        (ap (option_map box_cells) (sym planned) ∙ ap Some (sym counted)) count.counts;
  }

-- what items in front keep
pub kept_front : (before : List Item) (item : Item) → KeepsEach (before ++ item ∷ []) → KeepsEach before
kept_front before item keeps front other back whole =
    keeps front other (back ++ item ∷ [])
    (ap (λ list. list ++ item ∷ []) whole ∙ append_assoc front (other ∷ back) (item ∷ []))

pub built_front : (before : List Item) (item : Item) → All IsBuiltItem (before ++ item ∷ []) → All IsBuiltItem before
built_front before item built = λ k d inside.
    subst IsBuiltItem (get_or_append_left before (item ∷ []) d k inside)
    (built k d (omega (arith, inside, length-append before (item ∷ []))))

-- that the plan of a class isn't there is against the law
pub plan_there : (before : List Item) (class : Class) → KeptIsCounted → KeepsEach (before ++ OfClass class ∷ []) →
    All IsBuiltItem (before ++ OfClass class ∷ []) → {A : Type 0} → None ≡ class_of before class → A
plan_there before class kept keeps built none =
    absurd (let plan = kept.class before class keeps built in none-some plan.0 (none ∙ plan.1))

pub few_queries : (before : List Item) (class : Class) (plan : ClassPlan) → KeptIsCounted →
    KeepsEach (before ++ OfClass class ∷ []) → All IsBuiltItem (before ++ OfClass class ∷ []) →
    Some plan ≡ class_of before class → length plan.queries ≤ 12
few_queries before class plan kept keeps built planned =
    let found = kept.class before class keeps built in
    subst (λ (plan : ClassPlan). length plan.queries ≤ 12) (same_Some found.0 plan (sym found.1 ∙ sym planned)) found.2

pub size_there : (before : List Item) (name kind : List ℕ) → KeptIsCounted →
    KeepsEach (before ++ Field name kind ∷ []) → {A : Type 0} → None ≡ values_named (kind_items before) kind → A
size_there before name kind kept keeps none =
    absurd
    (let size = kept.field before name kind (keeps before (Field name kind) [] refl UnknownName) in
    none-some size.0 (none ∙ size.1))

-- at most 4,096 masks
pub masks_few : (queries : ℕ) → queries ≤ 12 → 2 ^ queries ≤ 4096
masks_few queries small =
    elim (cases_lt queries 12) [
      | inl less ↦ let below : 2 ^ queries < 4096 = pow_below queries 12 less in omega (arith, below)
      | inr more ↦ subst (λ (j : ℕ). 2 ^ j ≤ 4096) (let same : 12 ≡ queries = omega arith in same) (omega arith)
    ]

pub box_here : (before : List Item) (item : Item) (old new : Counted) → CellsAreCounted → CellsAreTold → KeptIsCounted →
    IsCountOf before old → (name class : List ℕ) (first : List Atom) → item ≡ Instance name class first →
    KeepsEach (before ++ item ∷ []) → All IsBuiltItem (before ++ item ∷ []) →
    ((number : ℕ) →
    option_and_then (slice_get old.cells) (position (same_name class) old.classes) ≡ Some number →
    new ≡ record old { nodes = old.nodes + number }) → IsCountOf (before ++ item ∷ []) new
box_here before item old new laws told kept count name class first is keeps built adds =
    subst (λ (item : Item). IsCountOf (before ++ item ∷ []) new) (sym is)
    (box_added before old new laws count told kept name class first
    (subst (λ (item : Item). KeepsEach (before ++ item ∷ [])) is keeps) (kept_front before item keeps)
    (built_front before item built) adds)
