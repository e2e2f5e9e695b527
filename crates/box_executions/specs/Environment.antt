-- What a handler runs on, and what its terms, queries and changes come to there.
use Rattle.std.specs.Prelude.{◌≡◌, ℕ, ◌<◌, List, [], ◌∷◌, ◌++◌, length, map}
use Rattle.std.specs.List.{range_with_len}
use Rattle.header_set.specs.Headers.{product, field_of}
use Rattle.box_contents.specs.declared.entry.Entry.{Entry}
use Rattle.box_handlers.specs.declared.act.Term.{Term}
use Rattle.box_handlers.specs.declared.act.Query.{Query}
use Rattle.box_handlers.specs.declared.act.Change.{Change}
use Rattle.box_handlers.specs.Tuple.{value_of, tuple_of, fields_after}

-- what stays the same while a block runs
pub record Environment : Type 0 where
  -- how many values each field of a packet has
  pub headers : List ℕ
  -- how many values each argument of each relation has
  pub relations : List (List ℕ)
  -- the packet, as it was received
  pub packet : ℕ
  -- the values of the picks around the block, the outermost first
  pub picked : List ℕ

-- the values of the fields of a packet
abbrev pub fields_of : List ℕ → ℕ → List ℕ
fields_of headers packet = map (field_of headers packet) (range_with_len 0 (length headers))

-- the value of a term, and the tuple of a query
abbrev pub value_in : Environment → Term → ℕ
value_in env term = value_of (fields_of env.headers env.packet) env.picked term

abbrev pub entry_in : Environment → Query → Entry
entry_in env query = tuple_of env.relations (fields_of env.headers env.packet) env.picked query

-- the environment of a pick's block, where the pick has this value
abbrev pub with_pick : Environment → ℕ → Environment
with_pick env value = record env { picked = env.picked ++ value ∷ [] }

-- the packet after the changes: all new values are read from the packet as it was received
pub record IsChanged (env : Environment) (changes : List Change) (changed : ℕ) : Type 0 where
  pub in_range : changed < product env.headers
  pub fields : fields_of env.headers changed ≡ fields_after (fields_of env.headers env.packet) env.picked changes
