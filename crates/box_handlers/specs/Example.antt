-- Handlers by hand: what they ask, in which order, and how large they are.
use Rattle.std.specs.Prelude.{◌≡◌, ℕ, List, [], ◌∷◌}
use Rattle.box_handlers.specs.declared.act.Term.{Term}
use Rattle.box_handlers.specs.declared.act.Term.TheVariants.{Field, Value, Picked}
use Rattle.box_handlers.specs.declared.act.Query.{Query}
use Rattle.box_handlers.specs.declared.act.Probe.{Probe}
use Rattle.box_handlers.specs.declared.act.Probe.TheVariants.{Has, Not}
use Rattle.box_handlers.specs.declared.act.Act.{Act}
use Rattle.box_handlers.specs.declared.act.Act.TheVariants.{Insert, Abort, Choose, Pick}
use Rattle.box_handlers.specs.Body.{body_of}
use Rattle.box_handlers.specs.Queries.{queries_of}
use Rattle.box_handlers.specs.Size.{literals_of, statements_of, paths_of}
use Rattle.box_handlers.specs.Tuple.{tuple_of, fields_after}

-- a query of a relation of one argument, and of one of two
abbrev pub of_one : ℕ → Term → Query
of_one relation one = record { relation = relation; args = one ∷ [] }

abbrev pub of_two : ℕ → Term → Term → Query
of_two relation one two = record { relation = relation; args = one ∷ two ∷ [] }

-- an `if` with one alternative, whose guard is one probe
abbrev pub asks : Probe → List Act → Act
asks probe body = Choose (record { guard = record { any = (probe ∷ []) ∷ [] }; body = body } ∷ [])

-- pick x of two { if has q(x) -> { pick y of two { if not has r(x, y) -> { } fi } } fi } if has q(value 1) -> { } fi
abbrev pub nested : List Act
nested =
    Pick 2 (asks (Has (of_one 0 (Picked 0))) (Pick 2 (asks (Not (Has (of_two 1 (Picked 0) (Picked 1)))) [] ∷ []) ∷ [])
    ∷ [])
    ∷ asks (Has (of_one 0 (Value 1))) []
    ∷ []

-- a handler for the port before: if has r(field 0, field 1) -> { abort; } fi insert q(field 0)
abbrev pub plain : List Act
plain = asks (Has (of_two 1 (Field 0) (Field 1))) (Abort ∷ []) ∷ Insert (of_one 0 (Field 0)) ∷ []

-- the handlers go by their ports; a pick is expanded value by value, with its whole block; a query that was asked
-- before comes once
abbrev pub NestedQueries : Type 0
NestedQueries =
    queries_of (plain ∷ nested ∷ [])
    ≡ of_two 1 (Field 0) (Field 1)
    ∷ of_one 0 (Value 0) ∷ of_two 1 (Value 0) (Value 0) ∷ of_two 1 (Value 0) (Value 1)
    ∷ of_one 0 (Value 1) ∷ of_two 1 (Value 1) (Value 0) ∷ of_two 1 (Value 1) (Value 1)
    ∷ []

-- an `if` and a `pick` are statements beside those within them, a denial is a literal beside what it denies; a choice
-- of one block has a
-- path more, so the inner block has 2 paths, its pick 4, the `if` around it 5, the outer pick 10, and the last `if`
-- doubles them
pub record NestedSizes : Type 0 where
  pub statements : statements_of (body_of nested) ≡ 5
  pub literals : literals_of (body_of nested) ≡ 4
  pub paths : paths_of (body_of nested) ≡ 20

-- the first argument of a tuple is the most significant one, and each new value of a field is read from the packet as
-- it came
pub record TuplesByHand : Type 0 where
  pub tuple : tuple_of ((2 ∷ []) ∷ (2 ∷ 3 ∷ []) ∷ []) (1 ∷ 2 ∷ []) (2 ∷ []) (of_two 1 (Field 0) (Picked 0))
      ≡ record { relation = 1; tuple = 5 }
  pub swapped : fields_after (1 ∷ 2 ∷ []) []
      (record { field = 0; to = Field 1 } ∷ record { field = 1; to = Field 0 } ∷ []) ≡ 2 ∷ 1 ∷ []
