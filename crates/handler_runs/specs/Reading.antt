-- What the code reads off while it runs a handler: the values of terms, tuples, the truth of guards and changed
-- packets.
-- Each of them is a number also where it doesn't fit, so that nothing has to be known of a handler to read it.
use Rattle.std.specs.Prelude.{ℕ, ◌+◌, ◌*◌, ◌-◌, ◌^◌, Bool, true, false, not, ◌&&◌, ◌||◌, List, [], ◌∷◌, ◌++◌, map, min}
use Rattle.std.specs.Prelude.{nat_eq, slice_index_or}
use Rattle.box_contents.specs.declared.entry.Entry.{Entry}
use Rattle.box_contents.specs.Contents.{holds_entry}
use Rattle.box_handlers.specs.declared.act.Term.{Term}
use Rattle.box_handlers.specs.declared.act.Query.{Query}
use Rattle.box_handlers.specs.declared.act.Change.{Change}
use Rattle.box_handlers.specs.Body.{Formula, Truth, Holds, Alike, Unlike, Denied, Grouped, Both, Every, Either, Neither}
use Rattle.box_handlers.specs.Body.{Branches, NoBranch, OneBranch}
use Rattle.box_handlers.specs.Tuple.{value_of, fields_after}
use Rattle.box_executions.specs.Environment.{Environment, fields_of}

-- what is read from while a block runs
pub record Scene : Type 0 where
  -- how many values each field has
  pub sizes : List ℕ
  -- how many values each argument of each relation has
  pub relations : List (List ℕ)
  -- the value of each field of the packet, as it was received
  pub fields : List ℕ
  -- the values of the picks around the block, the outermost first
  pub picked : List ℕ

abbrev pub scene_of : Environment → Scene
scene_of env = record {
  sizes = env.headers;
  relations = env.relations;
  fields = fields_of env.headers env.packet;
  picked = env.picked;
}

-- the scene of a pick's block, where the pick has this value
abbrev pub with_value : Scene → ℕ → Scene
with_value scene value = record scene { picked = scene.picked ++ value ∷ [] }

-- a number of 32 bits, and a larger one is cut down to the largest
abbrev pub capped : ℕ → ℕ
capped n = min n (2 ^ 32 - 1)

-- the mixed radix of values over sizes, behind the number so far
unfoldable pub number_by : ℕ → List ℕ → List ℕ → ℕ
number_by number (size ∷ sizes) (value ∷ values) = number_by (capped (capped (number * size) + value)) sizes values
number_by number sizes values = number

abbrev pub value_by : Scene → Term → ℕ
value_by scene term = value_of scene.fields scene.picked term

-- the tuple of a query
abbrev pub entry_by : Scene → Query → Entry
entry_by scene query = record {
  relation = query.relation;
  tuple = number_by 0 (slice_index_or scene.relations query.relation []) (map (value_by scene) query.args);
}

-- the packet after some changes
abbrev pub packet_by : Scene → List Change → ℕ
packet_by scene changes = number_by 0 scene.sizes (fields_after scene.fields scene.picked changes)

-- whether a guard is true
abbrev pub holds_by : Scene → List Entry → Formula → Bool
holds_by scene contents Truth = true
holds_by scene contents (Holds query) = holds_entry contents (entry_by scene query)
holds_by scene contents (Alike one two) = nat_eq (value_by scene one) (value_by scene two)
holds_by scene contents (Unlike one two) = not (nat_eq (value_by scene one) (value_by scene two))
holds_by scene contents (Denied formula) = not (holds_by scene contents formula)
holds_by scene contents (Grouped formula) = holds_by scene contents formula
holds_by scene contents (Both one two) = holds_by scene contents one && holds_by scene contents two
holds_by scene contents Every = true
holds_by scene contents (Either one two) = holds_by scene contents one || holds_by scene contents two
holds_by scene contents Neither = false

-- whether some guard of the branches is true
abbrev pub any_holds : Scene → List Entry → Branches → Bool
any_holds scene contents NoBranch = false
any_holds scene contents (OneBranch guard body more) = holds_by scene contents guard || any_holds scene contents more
