-- What a term, a query and a change come to at a packet, of which the value of each field is known, and the values of
-- the
-- enclosing picks, the outermost first. A number that a body names means something where the body fits (Fits.antt).
use Rattle.std.specs.Prelude.{ℕ, ◌+◌, ◌*◌, List, [], ◌∷◌, map, fold, slice_index, slice_index_or, slice_set}
use Rattle.box_contents.specs.declared.entry.Entry.{Entry}
use Rattle.box_handlers.specs.declared.act.Term.{Term}
use Rattle.box_handlers.specs.declared.act.Term.TheVariants.{Field, Value, Picked}
use Rattle.box_handlers.specs.declared.act.Query.{Query}
use Rattle.box_handlers.specs.declared.act.Change.{Change}

-- the value of a term
abbrev pub value_of : List ℕ → List ℕ → Term → ℕ
value_of fields picked (Field k) = slice_index fields k
value_of fields picked (Value x) = x
value_of fields picked (Picked i) = slice_index picked i

-- the product of the sizes: how many tuples there are
abbrev pub tuples_over : List ℕ → ℕ
tuples_over [] = 1
tuples_over (size ∷ sizes) = size * tuples_over sizes

-- the number of a tuple over types of these sizes: the mixed radix of its values, the first one most significant
abbrev pub tuple_number : List ℕ → List ℕ → ℕ
tuple_number (size ∷ sizes) (value ∷ values) = value * tuples_over sizes + tuple_number sizes values
tuple_number sizes values = 0

-- the sizes of the argument types of each relation, and the values of the terms, give the tuple of a query
abbrev pub tuple_of : List (List ℕ) → List ℕ → List ℕ → Query → Entry
tuple_of relations fields picked query = record {
  relation = query.relation;
  tuple = tuple_number (slice_index_or relations query.relation []) (map (value_of fields picked) query.args);
}

-- the values of the fields with one field changed; the new value is read from the packet as it came
abbrev pub with_change : List ℕ → List ℕ → List ℕ → Change → List ℕ
with_change fields picked now change = slice_set now change.field (value_of fields picked change.to)

-- the values of the fields after some changes, all of whose new values are read from the packet as it came
abbrev pub fields_after : List ℕ → List ℕ → List Change → List ℕ
fields_after fields picked changes = fold (with_change fields picked) fields changes
