-- What the rules ask of the names that handlers use, by the tables of the declared names.
use Rattle.std.specs.Prelude.{ℕ, Bool, false, ◌||◌, nat_lt, List, Option, is_some, map}
use Rattle.std.specs.Borrow.{Bor}
use Rattle.std.specs.List.{list_any}
use Rattle.std.specs.Option.{option_or}
use Rattle.header_set.specs.Headers.{product}
use Rattle.amdl_tree.specs.Items.{KindItem}
use Rattle.amdl_tree.specs.declared.class.Relation.{Relation}
use Rattle.amdl_tree.specs.declared.tree.Equal.{Equal}
use Rattle.name_tables.specs.Names.{is_among, repeats, told}
use Rattle.tree_plan.specs.Names.{all_some, values_named}
use Rattle.tree_rules.specs.Kinds.{kind_of_pick, differ}
use Rattle.tree_rules.specs.Rules.{passes, args_mismatch, fields_named}
use Rattle.tree_rules.specs.declared.opened.Opened.{Opened}
use Rattle.tree_rules.specs.Uses.{Use, OfAtom, OfPair, OfOutput, OfPick}
use Rattle.declared_names.specs.declared.declared.Declared.{Declared}

-- a value or a field has the name
abbrev pub is_term : Declared → List ℕ → Bool
is_term declared name = is_some (told declared.values name) || is_some (told declared.fields name)

-- the name of a pick is taken, or an output names a field twice
abbrev pub takes : Declared → Use → Bool
takes declared (OfPick opened name kind) = is_term declared name || is_among (map (λ pick. pick.name) opened) name
takes declared (OfOutput opened port changes) = repeats (fields_named changes)
takes declared _ = false

-- the type of an expression
abbrev pub kind_by : Declared → List Opened → List ℕ → Option (List ℕ)
kind_by declared opened name =
    option_or (kind_of_pick opened name) (option_or (told declared.fields name) (told declared.values name))

abbrev pub change_differs : Declared → List Opened → Equal → Bool
change_differs declared opened change =
    differ (told declared.fields change.field) (kind_by declared opened change.value)

-- two types differ where they must be one
abbrev pub differs : Declared → List Relation → Use → Bool
differs declared relations (OfAtom opened atom) = args_mismatch (kind_by declared opened) relations atom
differs declared relations (OfPair opened one two) = differ (kind_by declared opened one) (kind_by declared opened two)
differs declared relations (OfOutput opened port changes) = list_any (change_differs declared opened) changes
differs declared relations (OfPick opened name kind) = false

-- a relation that is borrowed
abbrev pub relation_lent : Bor Relation → Relation
relation_lent relation = relation.now

-- the product of the numbers of values of the argument types
abbrev pub too_large : List KindItem → Relation → Bool
too_large kinds relation =
    passes (λ sizes. nat_lt 65536 (product sizes)) (all_some (values_named kinds) relation.kinds)
