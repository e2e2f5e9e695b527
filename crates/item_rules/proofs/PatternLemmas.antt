-- The first rule that a `sends` or a `forbid` breaks.
use Rattle.std.proofs.Common.{◌≡◌, ℕ, Bool, true, false, ◌||◌, cond, List, Option, Some, None, is_none, refl}
use Rattle.std.specs.List.{list_any}
use Rattle.std.specs.Option.{option_or}
use Rattle.amdl_tree.specs.declared.tree.Equal.{Equal}
use Rattle.amdl_tree.specs.declared.tree.Item.{Item}
use Rattle.amdl_tree.specs.declared.tree.Item.TheVariants.{Sends, Forbid}
use Rattle.name_tables.specs.Names.{repeats}
use Rattle.tree_rules.specs.Kinds.{differ}
use Rattle.tree_rules.specs.declared.rule.Rule.{Rule}
use Rattle.tree_rules.specs.declared.rule.Rule.TheVariants.{NameTaken, UnknownName, TooMany, KindMismatch, SameItem}
use Rattle.tree_rules.specs.Rules.{fields_named, pattern_unknown, equal_unknown, equal_mismatch, too_many, same_item}
use Rattle.tree_rules.specs.Checked.{first_rule}
use Rattle.declared_names.specs.declared.declared.Declared.{Declared}
use Rattle.declared_names.specs.Declares.{Declares}
use Rattle.item_rules.specs.declared.forms.Form.TheVariants as form
use Rattle.item_rules.specs.ByTables.{equation_unknown, equation_mismatch}
use Rattle.item_rules.specs.Chains.{pattern_rule}

-- the names in equations by the tables
pub unknown_are : (items : List Item) (declared : Declared) (pattern : List Equal) → Declares items declared →
    list_any (equation_unknown declared) pattern ≡ list_any (equal_unknown items) pattern
unknown_are items declared pattern tables =
    λ k. list_any (λ equal. is_none (tables.fields equal.field k) || is_none (tables.values equal.value k)) pattern

pub mismatch_are : (items : List Item) (declared : Declared) (pattern : List Equal) → Declares items declared →
    list_any (equation_mismatch declared) pattern ≡ list_any (equal_mismatch items) pattern
mismatch_are items declared pattern tables =
    λ k. list_any (λ equal. differ (tables.fields equal.field k) (tables.values equal.value k)) pattern

-- the last of five rules
last_of : (a b c d : Bool) (last : Option Rule) →
    cond a (Some NameTaken) (cond b (Some UnknownName) (cond c (Some TooMany) (cond d (Some KindMismatch) last)))
    ≡ option_or
    (cond a (Some NameTaken) (cond b (Some UnknownName) (cond c (Some TooMany) (cond d (Some KindMismatch) None)))) last
last_of true b c d last = refl
last_of false true c d last = refl
last_of false false true d last = refl
last_of false false false true last = refl
last_of false false false false last = refl

module _ (items : List Item) (host : List ℕ) (pattern : List Equal) where
  pub sends_is : first_rule items (Sends host pattern)
      ≡ option_or (pattern_rule items form.Sends host pattern)
      (cond (same_item items (Sends host pattern)) (Some SameItem) None)
  sends_is =
      last_of (repeats (fields_named pattern)) (pattern_unknown items host pattern)
      (too_many items (Sends host pattern)) (list_any (equal_mismatch items) pattern)
      (cond (same_item items (Sends host pattern)) (Some SameItem) None)

  pub forbid_is : first_rule items (Forbid host pattern)
      ≡ option_or (pattern_rule items form.Forbid host pattern)
      (cond (same_item items (Forbid host pattern)) (Some SameItem) None)
  forbid_is =
      last_of (repeats (fields_named pattern)) (pattern_unknown items host pattern)
      (too_many items (Forbid host pattern)) (list_any (equal_mismatch items) pattern)
      (cond (same_item items (Forbid host pattern)) (Some SameItem) None)
