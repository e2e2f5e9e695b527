-- The types of what a class uses.
use Rattle.std.proofs.Common.{◌≡◌, ℕ, Bool, List, Option, Some, None, refl, ap, ◌∙◌}
use Rattle.std.specs.List.{list_any, zip}
use Rattle.std.specs.Option.{option_or}
use Rattle.amdl_tree.specs.declared.class.Relation.{Relation}
use Rattle.amdl_tree.specs.declared.guard.Atom.{Atom}
use Rattle.amdl_tree.specs.declared.tree.Equal.{Equal}
use Rattle.amdl_tree.specs.declared.tree.Item.{Item}
use Rattle.amdl_tree.specs.declared.tree.Item.TheVariants.{Class as OfClass}
use Rattle.tree_rules.specs.Kinds.{kind_of_pick, kind_of_term, differ, relation_named}
use Rattle.tree_rules.specs.Rules.{passes, change_mismatch, use_mismatch, kind_mismatch}
use Rattle.tree_rules.specs.declared.opened.Opened.{Opened}
use Rattle.tree_rules.specs.Uses.{Use, OfAtom, OfPair, OfOutput, OfPick, uses_of_handlers}
use Rattle.declared_names.specs.declared.declared.Declared.{Declared}
use Rattle.declared_names.specs.Declares.{Declares}
use Rattle.class_rules.specs.declared.read.ReadClass.{ReadClass}
use Rattle.class_rules.specs.ByTables.{kind_by, change_differs, differs}
use Rattle.class_rules.specs.Reads.{IsRead}
use Rattle.class_rules.proofs.ClassLemmas.{any_same}

module _ (items : List Item) (declared : Declared) (tables : Declares items declared) where
  kinds_are : (opened : List Opened) (name : List ℕ) → kind_by declared opened name ≡ kind_of_term items opened name
  kinds_are opened name =
      λ k. option_or (kind_of_pick opened name) (option_or (tables.fields name k) (tables.values name k))

  args_are : (opened : List Opened) (kinds args : List (List ℕ)) →
      list_any (λ pair. differ (Some pair.0) (kind_by declared opened pair.1)) (zip kinds args)
      ≡ list_any (λ pair. differ (Some pair.0) (kind_of_term items opened pair.1)) (zip kinds args)
  args_are opened kinds args =
      any_same (λ pair. differ (Some pair.0) (kind_by declared opened pair.1))
      (λ pair. differ (Some pair.0) (kind_of_term items opened pair.1))
      (λ pair. ap (differ (Some pair.0)) (kinds_are opened pair.1)) (zip kinds args)

  atom_of : (opened : List Opened) (atom : Atom) (found : Option Relation) →
      passes (λ relation. list_any (λ pair. differ (Some pair.0) (kind_by declared opened pair.1))
      (zip relation.kinds atom.args)) found
      ≡ passes (λ relation. list_any (λ pair. differ (Some pair.0) (kind_of_term items opened pair.1))
      (zip relation.kinds atom.args)) found
  atom_of opened atom None = refl
  atom_of opened atom (Some relation) = args_are opened relation.kinds atom.args

  change_is : (opened : List Opened) (change : Equal) →
      change_differs declared opened change ≡ change_mismatch items opened change
  change_is opened change = λ k. differ (tables.fields change.field k) (kinds_are opened change.value k)

  differs_are : (relations : List Relation) (used : Use) →
      differs declared relations used ≡ use_mismatch items relations used
  differs_are relations (OfAtom opened atom) = atom_of opened atom (relation_named relations atom.relation)
  differs_are relations (OfPair opened one two) = λ k. differ (kinds_are opened one k) (kinds_are opened two k)
  differs_are relations (OfOutput opened port changes) =
      any_same (change_differs declared opened) (change_mismatch items opened) (change_is opened) changes
  differs_are relations (OfPick opened name kind) = refl

pub types_differ : (read : ReadClass) → IsRead read → (found : Bool) →
    found ≡ list_any (differs read.declared.now read.class.now.relations) (uses_of_handlers read.class.now.handlers) →
    found ≡ kind_mismatch read.before.now (OfClass read.class.now)
types_differ read is_read found is =
    is ∙ any_same (differs read.declared.now read.class.now.relations)
    (use_mismatch read.before.now read.class.now.relations)
    (differs_are read.before.now read.declared.now is_read.declares read.class.now.relations)
    (uses_of_handlers read.class.now.handlers)
