-- Each rule, as a test of an item and of the items before it. A name is declared by an item before, or, for a port and
-- a relation, by the
-- class itself. A test of something whose names stand for nothing fails, since then an earlier rule holds.
use Rattle.std.specs.Prelude.{ℕ, ◌+◌, ◌*◌, ◌^◌, Bool, true, false, ◌||◌, ◌&&◌, not, nat_eq, nat_lt, List, [], ◌∷◌, ◌++◌}
use Rattle.std.specs.Prelude.{Option, Some, None, is_none, length, map, sum_by}
use Rattle.std.specs.List.{list_any, zip}
use Rattle.std.specs.Option.{option_map, option_and_then}
use Rattle.std.specs.Cmp.Lexicographic.{pointwise}
use Rattle.header_set.specs.Headers.{product}
use Rattle.amdl_tree.specs.declared.guard.Atom.{Atom}
use Rattle.amdl_tree.specs.declared.class.Class.{Class}
use Rattle.amdl_tree.specs.declared.class.Relation.{Relation}
use Rattle.amdl_tree.specs.declared.tree.Equal.{Equal}
use Rattle.amdl_tree.specs.declared.tree.End.{End}
use Rattle.amdl_tree.specs.declared.tree.End.TheVariants.{Host as AtHost, Port as AtPort}
use Rattle.amdl_tree.specs.declared.tree.Item.{Item}
use Rattle.amdl_tree.specs.declared.tree.Item.TheVariants.{
  Kind,
  Field,
  Class as OfClass,
  Host,
  Instance,
  Link,
  Sends,
  Forbid,
}
use Rattle.amdl_tree.specs.Items.{
  BoxItem,
  LinkItem,
  PatternItem,
  kind_items,
  field_items,
  class_items,
  host_items,
  box_items,
  link_items,
  sends_items,
  forbid_items,
}
use Rattle.box_handlers.specs.declared.act.Act.{Act}
use Rattle.box_handlers.specs.Body.{body_of}
use Rattle.box_handlers.specs.Queries.{queries_of}
use Rattle.box_handlers.specs.Size.{statements_of_all, literals_of_all, paths_of}
use Rattle.net_plan.specs.declared.plan.ClassPlan.{ClassPlan}
use Rattle.tree_plan.specs.Names.{same_name, joined, all_some, values_named}
use Rattle.tree_plan.specs.Handlers.{acts_of, handlers_of}
use Rattle.tree_plan.specs.Net.{known_of, class_of, class_named, place_of}
use Rattle.tree_rules.specs.Spaces.{kind_names, term_names, class_names, node_names, is_among, repeats}
use Rattle.tree_rules.specs.Uses.{Opened, Use, OfAtom, OfPair, OfOutput, OfPick, uses_of_handlers}
use Rattle.tree_rules.specs.Kinds.{kind_of_field, kind_of_value, kind_of_term, differ, relation_named}

-- there is something, and it passes the test
abbrev pub passes : {A : Type 0} → (A → Bool) → Option A → Bool
passes test (Some x) = test x
passes test None = false

-- the bodies of the handlers by numbers, in the order of the text, where each name in them stands for something
abbrev pub bodies_of : List Item → Class → Option (List (List Act))
bodies_of before class = all_some (λ handler. acts_of (known_of before class) handler.body) class.handlers

-- the fields that a pattern, or an output, names
abbrev pub fields_named : List Equal → List (List ℕ)
fields_named equals = map (λ equal. equal.field) equals

-- a name is declared a second time

abbrev pub use_takes : List Item → Use → Bool
use_takes before (OfPick opened name kind) =
    is_among (term_names before) name || is_among (map (λ pick. pick.name) opened) name
use_takes before (OfOutput opened port changes) = repeats (fields_named changes)
use_takes before _ = false

abbrev pub class_takes : List Item → Class → Bool
class_takes before class =
    is_among (class_names before) class.name
    || repeats class.ports
    || repeats (map (λ relation. relation.name) class.relations)
    || list_any (use_takes before) (uses_of_handlers class.handlers)

abbrev pub name_taken : List Item → Item → Bool
name_taken before (Kind name values) =
    is_among (kind_names before) name || list_any (is_among (term_names before)) values || repeats values
name_taken before (Field name kind) = is_among (term_names before) name
name_taken before (OfClass class) = class_takes before class
name_taken before (Host name) = is_among (node_names before) name
name_taken before (Instance name class first) = is_among (node_names before) name
name_taken before (Sends host pattern) = repeats (fields_named pattern)
name_taken before (Forbid host pattern) = repeats (fields_named pattern)
name_taken before _ = false

-- a name stands for nothing

abbrev pub class_unknown : List Item → Class → Bool
class_unknown before class =
    list_any (λ relation. list_any (λ kind. not (is_among (kind_names before) kind)) relation.kinds) class.relations
    || list_any (λ handler. not (is_among class.ports handler.port)) class.handlers
    || is_none (bodies_of before class)

-- a tuple of a box is of a relation of its class, and has values
abbrev pub atom_unknown : List Item → Class → Atom → Bool
atom_unknown before class atom =
    is_none (relation_named class.relations atom.relation)
    || list_any (λ arg. is_none (kind_of_value before arg)) atom.args

abbrev pub equal_unknown : List Item → Equal → Bool
equal_unknown before equal = is_none (kind_of_field before equal.field) || is_none (kind_of_value before equal.value)

abbrev pub pattern_unknown : List Item → List ℕ → List Equal → Bool
pattern_unknown before host pattern = not (is_among (host_items before) host) || list_any (equal_unknown before) pattern

abbrev pub name_unknown : List Item → Item → Bool
name_unknown before (Field name kind) = not (is_among (kind_names before) kind)
name_unknown before (OfClass class) = class_unknown before class
name_unknown before (Instance name class first) =
    is_none (class_named before class)
    || passes (λ found. list_any (atom_unknown before found) first) (class_named before class)
name_unknown before (Link one two) = is_none (place_of before one) || is_none (place_of before two)
name_unknown before (Sends host pattern) = pattern_unknown before host pattern
name_unknown before (Forbid host pattern) = pattern_unknown before host pattern
name_unknown before _ = false

-- a count is over its limit, the item itself counted

abbrev pub class_too_many : List Item → Class → Bool
class_too_many before class =
    nat_lt 64 (length (class_items before) + 1)
    || nat_lt 32 (length class.ports)
    || nat_lt 16 (length class.relations)
    || list_any (λ relation. nat_lt 4 (length relation.kinds)) class.relations
    || passes (λ bodies. nat_lt 1024 (statements_of_all bodies) || nat_lt 4096 (literals_of_all bodies))
    (bodies_of before class)

abbrev pub too_many : List Item → Item → Bool
too_many before (Kind name values) = nat_lt 32 (length (kind_items before) + 1) || nat_lt 256 (length values)
too_many before (Field name kind) = nat_lt 8 (length (field_items before) + 1)
too_many before (OfClass class) = class_too_many before class
too_many before (Host name) = nat_lt 256 (length (host_items before) + 1)
too_many before (Instance name class first) = nat_lt 256 (length (box_items before) + 1) || nat_lt 1024 (length first)
too_many before (Sends host pattern) = nat_lt 1024 (length (sends_items before) + 1)
too_many before (Forbid host pattern) = nat_lt 1024 (length (forbid_items before) + 1)
too_many before _ = false

-- the sizes of the fields
abbrev pub sizes_of : List Item → Option (List ℕ)
sizes_of items = all_some (λ field. values_named (kind_items items) field.kind) (field_items items)

-- the product of the sizes of the fields, with this one
abbrev pub header_too_large : List Item → Item → Bool
header_too_large before (Field name kind) =
    passes (λ sizes. nat_lt 65536 (product sizes)) (sizes_of (before ++ Field name kind ∷ []))
header_too_large before _ = false

-- neither a type nor a field
abbrev pub follows_fields : Item → Bool
follows_fields (Kind name values) = false
follows_fields (Field name kind) = false
follows_fields _ = true

abbrev pub field_late : List Item → Item → Bool
field_late before (Field name kind) = list_any follows_fields before
field_late before _ = false

-- an atom has another number of arguments than its relation

abbrev pub arity_differs : List Relation → Atom → Bool
arity_differs relations atom =
    passes (λ relation. not (nat_eq (length atom.args) (length relation.kinds)))
    (relation_named relations atom.relation)

abbrev pub use_arity : List Relation → Use → Bool
use_arity relations (OfAtom opened atom) = arity_differs relations atom
use_arity relations _ = false

abbrev pub arity : List Item → Item → Bool
arity before (OfClass class) = list_any (use_arity class.relations) (uses_of_handlers class.handlers)
arity before (Instance name class first) =
    passes (λ found. list_any (arity_differs found.relations) first) (class_named before class)
arity before _ = false

-- two types differ where they must be one

-- of an argument and its place in the relation, where `kind_of` gives the type of an argument
abbrev pub args_mismatch : (List ℕ → Option (List ℕ)) → List Relation → Atom → Bool
args_mismatch kind_of relations atom =
    passes (λ relation. list_any (λ pair. differ (Some pair.0) (kind_of pair.1)) (zip relation.kinds atom.args))
    (relation_named relations atom.relation)

abbrev pub change_mismatch : List Item → List Opened → Equal → Bool
change_mismatch before opened change =
    differ (kind_of_field before change.field) (kind_of_term before opened change.value)

abbrev pub use_mismatch : List Item → List Relation → Use → Bool
use_mismatch before relations (OfAtom opened atom) = args_mismatch (kind_of_term before opened) relations atom
use_mismatch before relations (OfPair opened one two) =
    differ (kind_of_term before opened one) (kind_of_term before opened two)
use_mismatch before relations (OfOutput opened port changes) = list_any (change_mismatch before opened) changes
use_mismatch before relations (OfPick opened name kind) = false

abbrev pub equal_mismatch : List Item → Equal → Bool
equal_mismatch before equal = differ (kind_of_field before equal.field) (kind_of_value before equal.value)

abbrev pub kind_mismatch : List Item → Item → Bool
kind_mismatch before (OfClass class) = list_any (use_mismatch before class.relations) (uses_of_handlers class.handlers)
kind_mismatch before (Instance name class first) =
    passes (λ found. list_any (args_mismatch (kind_of_value before) found.relations) first) (class_named before class)
kind_mismatch before (Sends host pattern) = list_any (equal_mismatch before) pattern
kind_mismatch before (Forbid host pattern) = list_any (equal_mismatch before) pattern
kind_mismatch before _ = false

-- the product of the numbers of values of the argument types
abbrev pub tuples_too_many : List Item → Relation → Bool
tuples_too_many before relation =
    passes (λ sizes. nat_lt 65536 (product sizes)) (all_some (values_named (kind_items before)) relation.kinds)

abbrev pub relation_too_large : List Item → Item → Bool
relation_too_large before (OfClass class) = list_any (tuples_too_many before) class.relations
relation_too_large before _ = false

abbrev pub handler_twice : List Item → Item → Bool
handler_twice before (OfClass class) = repeats (map (λ handler. handler.port) class.handlers)
handler_twice before _ = false

abbrev pub too_many_paths : List Item → Item → Bool
too_many_paths before (OfClass class) =
    passes (list_any (λ acts. nat_lt 1024 (paths_of (body_of acts)))) (bodies_of before class)
too_many_paths before _ = false

abbrev pub too_many_queries : List Item → Item → Bool
too_many_queries before (OfClass class) =
    passes (λ handlers. nat_lt 12 (length (queries_of handlers))) (handlers_of (known_of before class) class.handlers)
too_many_queries before _ = false

-- two ends are the same
abbrev pub same_end : End → End → Bool
same_end (AtHost one) (AtHost two) = same_name one two
same_end (AtPort one port) (AtPort two other) = same_name one two && same_name port other
same_end _ _ = false

abbrev pub end_to_itself : List Item → Item → Bool
end_to_itself before (Link one two) = same_end one two
end_to_itself before _ = false

-- the link has the end
abbrev pub has_end : End → LinkItem → Bool
has_end end link = same_end end link.one || same_end end link.two

-- a link before has the end
abbrev pub end_taken_before : List Item → End → Bool
end_taken_before before end = list_any (has_end end) (link_items before)

abbrev pub end_taken : List Item → Item → Bool
end_taken before (Link one two) = end_taken_before before one || end_taken_before before two
end_taken before _ = false

-- two items of one form are the same as they are written
abbrev pub same_equal : Equal → Equal → Bool
same_equal one two = same_name one.field two.field && same_name one.value two.value

abbrev pub same_pattern : List ℕ → List Equal → PatternItem → Bool
same_pattern host pattern item = same_name host item.host && pointwise same_equal pattern item.pattern

abbrev pub same_item : List Item → Item → Bool
same_item before (Sends host pattern) = list_any (same_pattern host pattern) (sends_items before)
same_item before (Forbid host pattern) = list_any (same_pattern host pattern) (forbid_items before)
same_item before _ = false

-- how many ends a box has, and masks, and one cell more, for each packet
abbrev pub box_cells : ClassPlan → ℕ
box_cells class = length class.ports + 2 ^ length class.queries + 1

abbrev pub cells_of_box : List Item → BoxItem → Option ℕ
cells_of_box items box = option_map box_cells (option_and_then (class_of items) (class_named items box.class))

-- the cells of all packets, of the ends of all hosts and of all boxes
abbrev pub cells_of : List Item → Option ℕ
cells_of items =
    joined (λ sizes boxes. product sizes * (length (host_items items) + sum_by (λ cells. cells) boxes))
    (sizes_of items) (all_some (cells_of_box items) (box_items items))

abbrev pub cells_too_many : List Item → Bool
cells_too_many items = passes (nat_lt 4194304) (cells_of items)

abbrev pub too_many_cells : List Item → Item → Bool
too_many_cells before (Host name) = cells_too_many (before ++ Host name ∷ [])
too_many_cells before (Instance name class first) = cells_too_many (before ++ Instance name class first ∷ [])
too_many_cells before _ = false
