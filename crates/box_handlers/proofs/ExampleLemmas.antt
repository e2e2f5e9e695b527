-- The handlers of the examples, read as plain data.
use Rattle.std.proofs.Common.{◌≡◌, true, List, [], ◌∷◌, ◌++◌, refl, ap, ◌∙◌}
use Rattle.box_handlers.specs.declared.act.Term.TheVariants.{Field, Value, Picked}
use Rattle.box_handlers.specs.declared.act.Probe.{Probe}
use Rattle.box_handlers.specs.declared.act.Probe.TheVariants.{Has, Not}
use Rattle.box_handlers.specs.declared.act.Act.{Act}
use Rattle.box_handlers.specs.declared.act.Act.TheVariants.{Insert, Abort, Pick}
use Rattle.box_handlers.specs.Body.{Formula, Holds, Denied, Both, Every, Either, Neither, Body, Stop, Writes, Halt}
use Rattle.box_handlers.specs.Body.{Fork, Each, NoBranch, OneBranch, formula_of, formula_of_probe, body_of}
use Rattle.box_handlers.specs.Example.{of_one, of_two, asks, nested, plain, NestedQueries, NestedSizes, TuplesByHand}
use Rattle.box_handlers.specs.Queries.{asked_by, first_occurrences}
use Rattle.box_handlers.specs.Size.{literals_of, statements_of, paths_of}
use Rattle.box_handlers.proofs.BodyLemmas.{bodies_read, formulas_read}

-- a guard of one probe
abbrev one_of : Formula → Formula
one_of formula = Either (Both formula Every) Neither

guard_read : (probe : Probe) → formula_of (record { any = (probe ∷ []) ∷ [] }) ≡ one_of (formula_of_probe probe)
guard_read probe = formulas_read.test (record { any = (probe ∷ []) ∷ [] })

asks_read : (probe : Probe) (formula : Formula) (body rest : List Act) → formula_of_probe probe ≡ formula →
    body_of (asks probe body ∷ rest) ≡ Fork (OneBranch (one_of formula) (body_of body) NoBranch) (body_of rest)
asks_read probe formula body rest e =
    bodies_read.choose (record { guard = record { any = (probe ∷ []) ∷ [] }; body = body } ∷ []) rest
    ∙ ap (λ branches. Fork branches (body_of rest))
    (bodies_read.branch (record { guard = record { any = (probe ∷ []) ∷ [] }; body = body }) []
    ∙ ap (λ guard. OneBranch guard (body_of body) NoBranch) (guard_read probe ∙ ap one_of e))

-- the inner pick of `nested`
inner : List Act
inner = asks (Not (Has (of_two 1 (Picked 0) (Picked 1)))) [] ∷ []

inner_body : Body
inner_body = Fork (OneBranch (one_of (Denied (Holds (of_two 1 (Picked 0) (Picked 1))))) Stop NoBranch) Stop

inner_read : body_of inner ≡ inner_body
unfolding inner inner_body
inner_read =
    asks_read (Not (Has (of_two 1 (Picked 0) (Picked 1)))) (Denied (Holds (of_two 1 (Picked 0) (Picked 1)))) [] []
    (formulas_read.deny (Has (of_two 1 (Picked 0) (Picked 1)))
    ∙ ap Denied (formulas_read.has (of_two 1 (Picked 0) (Picked 1))))

outer_read : body_of (asks (Has (of_one 0 (Picked 0))) (Pick 2 inner ∷ []) ∷ [])
    ≡ Fork (OneBranch (one_of (Holds (of_one 0 (Picked 0)))) (Each 2 inner_body Stop) NoBranch) Stop
outer_read =
    asks_read (Has (of_one 0 (Picked 0))) (Holds (of_one 0 (Picked 0))) (Pick 2 inner ∷ []) []
    (formulas_read.has (of_one 0 (Picked 0)))
    ∙ ap (λ body. Fork (OneBranch (one_of (Holds (of_one 0 (Picked 0)))) body NoBranch) Stop)
    (bodies_read.pick 2 inner [] ∙ ap (λ body. Each 2 body Stop) inner_read)

-- the handlers as plain data
abbrev pub nested_body : Body
nested_body =
    Each 2 (Fork
    (OneBranch (one_of (Holds (of_one 0 (Picked 0))))
    (Each 2
    (Fork
    (OneBranch (one_of (Denied (Holds (of_two 1 (Picked 0) (Picked 1))))) Stop NoBranch) Stop) Stop) NoBranch) Stop)
    (Fork (OneBranch (one_of (Holds (of_one 0 (Value 1)))) Stop NoBranch) Stop)

pub nested_read : body_of nested ≡ nested_body
unfolding inner inner_body
nested_read =
    bodies_read.pick 2 (asks (Has (of_one 0 (Picked 0))) (Pick 2 inner ∷ []) ∷ [])
    (asks (Has (of_one 0 (Value 1))) [] ∷ [])
    ∙ (λ i. Each 2 (outer_read i)
    (asks_read (Has (of_one 0 (Value 1))) (Holds (of_one 0 (Value 1))) [] []
    (formulas_read.has (of_one 0 (Value 1))) i))

abbrev pub plain_body : Body
plain_body =
    Fork (OneBranch (one_of (Holds (of_two 1 (Field 0) (Field 1)))) (Halt Stop) NoBranch)
    (Writes (of_one 0 (Field 0)) true Stop)

pub plain_read : body_of plain ≡ plain_body
plain_read =
    asks_read (Has (of_two 1 (Field 0) (Field 1))) (Holds (of_two 1 (Field 0) (Field 1))) (Abort ∷ [])
    (Insert (of_one 0 (Field 0)) ∷ []) (formulas_read.has (of_two 1 (Field 0) (Field 1)))
    ∙ (λ i. Fork (OneBranch (one_of (Holds (of_two 1 (Field 0) (Field 1)))) (bodies_read.abort [] i) NoBranch)
    (bodies_read.insert (of_one 0 (Field 0)) [] i))

pub queries_by_hand : NestedQueries
queries_by_hand = λ i. first_occurrences (asked_by (plain_read i) [] ++ (asked_by (nested_read i) [] ++ []))

pub sizes_by_hand : NestedSizes
sizes_by_hand = record {
  statements = ap statements_of nested_read;
  literals = ap literals_of nested_read;
  paths = ap paths_of nested_read;
}

pub tuples_known : TuplesByHand
tuples_known = record { tuple = refl; swapped = refl }
