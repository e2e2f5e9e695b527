-- The first rule that a box breaks.
use Rattle.std.proofs.Common.{◌≡◌, ℕ, ◌+◌, Bool, false, ◌||◌, nat_lt, cond, List, Option, Some, None, is_none, length}
use Rattle.std.proofs.Common.{sym, ap, ◌∙◌}
use Rattle.std.specs.List.{list_any}
use Rattle.amdl_tree.specs.declared.class.Class.{Class}
use Rattle.amdl_tree.specs.declared.class.Relation.{Relation}
use Rattle.amdl_tree.specs.declared.guard.Atom.{Atom}
use Rattle.amdl_tree.specs.declared.tree.Item.{Item}
use Rattle.amdl_tree.specs.declared.tree.Item.TheVariants.{Instance}
use Rattle.amdl_tree.specs.Items.{box_items}
use Rattle.name_tables.specs.Names.{is_among}
use Rattle.tree_plan.specs.Net.{class_named}
use Rattle.tree_rules.specs.declared.rule.Rule.{Rule}
use Rattle.tree_rules.specs.declared.rule.Rule.TheVariants.{NameTaken, UnknownName, TooMany, Arity, KindMismatch}
use Rattle.tree_rules.specs.Kinds.{kind_of_value, relation_named}
use Rattle.tree_rules.specs.Spaces.{node_names}
use Rattle.tree_rules.specs.Rules.{passes, atom_unknown, arity_differs, args_mismatch}
use Rattle.declared_names.specs.declared.declared.Declared.{Declared}
use Rattle.declared_names.specs.Declares.{Declares}
use Rattle.item_rules.specs.CellsLast.{first_but_cells}
use Rattle.item_rules.specs.Chains.{tuples_rule}

module _ (items : List Item) (first : List Atom) where
  -- the rules behind that on the box's name, where the class is found or not
  abbrev pub rules_with : Option Class → Option Rule
  rules_with class =
      cond (is_none class || passes (λ found. list_any (atom_unknown items found) first) class) (Some UnknownName)
      (cond (nat_lt 256 (length (box_items items) + 1) || nat_lt 1024 (length first)) (Some TooMany)
      (cond (passes (λ found. list_any (arity_differs found.relations) first) class) (Some Arity)
      (cond (passes (λ found. list_any (args_mismatch (kind_of_value items) found.relations) first) class)
      (Some KindMismatch) None)))

  box_free : (name named : List ℕ) → is_among (node_names items) name ≡ false →
      first_but_cells items (Instance name named first) ≡ rules_with (class_named items named)
  box_free name named free = ap (λ b. cond b (Some NameTaken) (rules_with (class_named items named))) free

  tables_are : (declared : Declared) (class : Class) → Declares items declared →
      tuples_rule declared items class.relations first ≡ rules_with (Some class)
  tables_are declared class tables =
      λ k. cond (list_any (λ atom. is_none (relation_named class.relations atom.relation)
      || list_any (λ arg. is_none (tables.values arg k)) atom.args) first) (Some UnknownName)
      (cond (nat_lt 256 (length (box_items items) + 1) || nat_lt 1024 (length first)) (Some TooMany)
      (cond (list_any (arity_differs class.relations) first) (Some Arity)
      (cond (list_any (args_mismatch (λ name. tables.values name k) class.relations) first) (Some KindMismatch) None)))

  pub box_with : (declared : Declared) (name named : List ℕ) (class : Class) (relations : List Relation)
      (taken : Bool) (found : Option Rule) → Declares items declared →
      taken ≡ is_among (node_names items) name → taken ≡ false → Some class ≡ class_named items named →
      relations ≡ class.relations → found ≡ tuples_rule declared items relations first →
      found ≡ first_but_cells items (Instance name named first)
  box_with declared name named class relations taken found tables is free class_is same found_is =
      found_is ∙ ap (λ these. tuples_rule declared items these first) same
      ∙ tables_are declared class tables ∙ ap rules_with class_is ∙ sym (box_free name named (sym is ∙ free))

  pub box_without : (name named : List ℕ) (taken : Bool) → taken ≡ is_among (node_names items) name → taken ≡ false →
      None ≡ class_named items named → Some UnknownName ≡ first_but_cells items (Instance name named first)
  box_without name named taken is free none =
      ap rules_with none ∙ sym (box_free name named (sym is ∙ free))
