-- What terms, queries and changes of a plan's handlers come to at a packet, while some picks are open.
use Rattle.std.specs.Prelude.{ℕ, ◌<◌, List, length, map}
use Rattle.box_contents.specs.declared.entry.Entry.{Entry}
use Rattle.box_handlers.specs.declared.act.Term.{Term}
use Rattle.box_handlers.specs.declared.act.Term.TheVariants.{Field, Value, Picked}
use Rattle.box_handlers.specs.declared.act.Change.{Change}
use Rattle.box_handlers.specs.declared.act.Query.{Query}
use Rattle.box_handlers.specs.Fits.{TermsFit, QueryFits, ChangesFit, ArePicked}
use Rattle.box_handlers.specs.Tuple.{tuple_of, fields_after}
use Rattle.net_plan.specs.declared.plan.Plan.{Plan}
use Rattle.net_plan.specs.declared.plan.ClassPlan.{ClassPlan}
use Rattle.net_plan.specs.Plan.{arguments_of, surroundings_of, fields_at}

-- the field of the term is there, or the pick
abbrev pub IsRead : Plan → List ℕ → Term → Type 0
IsRead plan picked (Field k) = k < length plan.fields
IsRead plan picked (Value x) = Unit {0}
IsRead plan picked (Picked i) = i < length picked

-- the terms fit these types of the plan, the query its class, or the changes the plan, while some picks are open of
-- which these
-- are values
abbrev pub TermsFitAt : Plan → List ℕ → List ℕ → List Term → Type 0
TermsFitAt plan picked kinds terms =
    (class : ClassPlan) × (picks : List ℕ) × ArePicked picks picked
    × TermsFit (surroundings_of plan class) picks kinds terms

abbrev pub QueryFitsAt : Plan → ClassPlan → List ℕ → Query → Type 0
QueryFitsAt plan class picked query =
    (picks : List ℕ) × ArePicked picks picked × QueryFits (surroundings_of plan class) picks query

abbrev pub ChangesFitAt : Plan → List ℕ → List Change → Type 0
ChangesFitAt plan picked changes =
    (class : ClassPlan) × (picks : List ℕ) × ArePicked picks picked
    × ChangesFit (surroundings_of plan class) picks changes

-- the tuple of a query of the class at the packet
abbrev pub tuple_at : Plan → ClassPlan → ℕ → List ℕ → Query → Entry
tuple_at plan class packet picked query =
    tuple_of (map (arguments_of plan) class.relations) (fields_at plan packet) picked query

-- the values of the fields of the packet after the changes
abbrev pub changed_at : Plan → ℕ → List ℕ → List Change → List ℕ
changed_at plan packet picked changes = fields_after (fields_at plan packet) picked changes
