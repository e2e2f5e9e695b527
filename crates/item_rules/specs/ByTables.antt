-- What the rules ask of names, by the tables of the declared names.
use Rattle.std.specs.Prelude.{ℕ, Bool, ◌||◌, List, is_some, is_none}
use Rattle.std.specs.List.{list_any}
use Rattle.amdl_tree.specs.declared.class.Relation.{Relation}
use Rattle.amdl_tree.specs.declared.guard.Atom.{Atom}
use Rattle.amdl_tree.specs.declared.tree.Equal.{Equal}
use Rattle.name_tables.specs.Names.{is_among, repeats, told}
use Rattle.tree_rules.specs.Kinds.{differ, relation_named}
use Rattle.tree_rules.specs.Rules.{args_mismatch}
use Rattle.declared_names.specs.declared.declared.Declared.{Declared}

-- a value or a field has the name
abbrev pub is_term : Declared → List ℕ → Bool
is_term declared name = is_some (told declared.values name) || is_some (told declared.fields name)

-- the name of a type or of a value of it is taken, or a value stands twice
abbrev pub kind_takes : Declared → List ℕ → List (List ℕ) → Bool
kind_takes declared name values =
    is_among declared.kinds name || list_any (is_term declared) values || repeats values

-- a tuple is of no relation, or has something that is no value
abbrev pub tuple_unknown : Declared → List Relation → Atom → Bool
tuple_unknown declared relations atom =
    is_none (relation_named relations atom.relation)
    || list_any (λ arg. is_none (told declared.values arg)) atom.args

-- a tuple has a value of another type than its relation asks
abbrev pub tuple_mismatch : Declared → List Relation → Atom → Bool
tuple_mismatch declared relations atom = args_mismatch (told declared.values) relations atom

-- an equation names no field, or no value
abbrev pub equation_unknown : Declared → Equal → Bool
equation_unknown declared equal =
    is_none (told declared.fields equal.field) || is_none (told declared.values equal.value)

-- the value of an equation is of another type than its field
abbrev pub equation_mismatch : Declared → Equal → Bool
equation_mismatch declared equal = differ (told declared.fields equal.field) (told declared.values equal.value)
