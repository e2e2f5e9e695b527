-- The rules of some forms of items, each tried only where no earlier one holds.
use Rattle.std.specs.Prelude.{ℕ, ◌+◌, ◌||◌, nat_lt, cond, List, Option, Some, None, length}
use Rattle.std.specs.List.{list_any}
use Rattle.amdl_tree.specs.declared.class.Relation.{Relation}
use Rattle.amdl_tree.specs.declared.guard.Atom.{Atom}
use Rattle.amdl_tree.specs.declared.tree.Equal.{Equal}
use Rattle.amdl_tree.specs.declared.tree.Item.{Item}
use Rattle.amdl_tree.specs.Items.{box_items}
use Rattle.name_tables.specs.Names.{repeats}
use Rattle.tree_rules.specs.declared.rule.Rule.{Rule}
use Rattle.tree_rules.specs.declared.rule.Rule.TheVariants.{NameTaken, UnknownName, TooMany, Arity, KindMismatch}
use Rattle.tree_rules.specs.Rules.{fields_named, pattern_unknown, equal_mismatch, arity_differs}
use Rattle.declared_names.specs.declared.declared.Declared.{Declared}
use Rattle.item_rules.specs.declared.forms.Form.{Form}
use Rattle.item_rules.specs.Counts.{count_of}
use Rattle.item_rules.specs.ByTables.{tuple_unknown, tuple_mismatch}

-- the rules of a pattern, but for that on the same item
abbrev pub pattern_rule : List Item → Form → List ℕ → List Equal → Option Rule
pattern_rule before form host pattern =
    cond (repeats (fields_named pattern)) (Some NameTaken)
    (cond (pattern_unknown before host pattern) (Some UnknownName)
    (cond (nat_lt 1024 (count_of form before + 1)) (Some TooMany)
    (cond (list_any (equal_mismatch before) pattern) (Some KindMismatch) None)))

-- the rules of the tuples of a box and on their number and that of boxes, where its class has these relations
abbrev pub tuples_rule : Declared → List Item → List Relation → List Atom → Option Rule
tuples_rule declared before relations first =
    cond (list_any (tuple_unknown declared relations) first) (Some UnknownName)
    (cond (nat_lt 256 (length (box_items before) + 1) || nat_lt 1024 (length first)) (Some TooMany)
    (cond (list_any (arity_differs relations) first) (Some Arity)
    (cond (list_any (tuple_mismatch declared relations) first) (Some KindMismatch) None)))
