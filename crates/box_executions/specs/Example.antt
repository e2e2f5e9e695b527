-- Executions by hand: packets have two fields of two values each, and the class has one relation over the same values.
use Rattle.std.specs.Prelude.{◌≡◌, ℕ, ◌<◌, ◌↔◌, List, [], ◌∷◌}
use Rattle.box_contents.specs.declared.entry.Entry.{Entry}
use Rattle.box_handlers.specs.declared.act.Term.TheVariants.{Field, Picked}
use Rattle.box_handlers.specs.declared.act.Probe.TheVariants.{Has}
use Rattle.box_handlers.specs.declared.act.Act.{Act}
use Rattle.box_handlers.specs.declared.act.Act.TheVariants.{Insert, Remove, Output, Abort, Pick}
use Rattle.box_handlers.specs.Example.{of_one, asks}
use Rattle.box_executions.specs.Environment.{Environment}
use Rattle.box_executions.specs.Execution.{Outcome, Done, Aborted, Emission, Executes}

-- packet 1 has the values 0 and 1 in its fields
abbrev pub setting : Environment
setting = record { headers = 2 ∷ 2 ∷ []; relations = (2 ∷ []) ∷ []; packet = 1; picked = [] }

abbrev pub tuple : ℕ → Entry
tuple number = record { relation = 0; tuple = number }

abbrev pub out : ℕ → ℕ → Emission
out port packet = record { port = port; packet = packet }

-- from these contents there is one execution, by these choices and with this outcome
abbrev pub HasOnly : List Act → List Entry → List ℕ → Outcome → Type 0
HasOnly handler contents used end =
    (choices : List ℕ) (outcome : Outcome) →
    Executes setting handler contents choices outcome ↔ ((choices ≡ used) × (outcome ≡ end))

-- if has r(field 0) -> { remove r(field 0); output 1; } fi
abbrev pub gate : List Act
gate = asks (Has (of_one 0 (Field 0))) (Remove (of_one 0 (Field 0)) ∷ Output 1 [] ∷ []) ∷ []

-- the packet passes once: its tuple is taken out, and then no guard is true and no choice is used
pub record GateOpensOnce : Type 0 where
  pub passes : HasOnly gate (tuple 0 ∷ []) (0 ∷ []) (Done [] (out 1 1 ∷ []))
  pub stays : HasOnly gate [] [] (Done [] [])
  -- another tuple doesn't open it
  pub other : HasOnly gate (tuple 1 ∷ []) [] (Done (tuple 1 ∷ []) [])

-- insert r(field 0); if has r(field 0) -> { output 0; } fi output 1;
abbrev pub noted : List Act
noted = Insert (of_one 0 (Field 0)) ∷ asks (Has (of_one 0 (Field 0))) (Output 0 [] ∷ []) ∷ Output 1 [] ∷ []

-- the test sees what was inserted before it, and what is put out stands in the order of the statements
abbrev pub InsertionIsSeen : Type 0
InsertionIsSeen = HasOnly noted [] (0 ∷ []) (Done (tuple 0 ∷ []) (out 0 1 ∷ out 1 1 ∷ []))

-- pick x of two values { insert r(x); }
abbrev pub either : List Act
either = Pick 2 (Insert (of_one 0 (Picked 0)) ∷ []) ∷ []

-- each value, and no other number
abbrev pub EachValueIsPicked : Type 0
EachValueIsPicked =
    (choices : List ℕ) (outcome : Outcome) →
    Executes setting either [] choices outcome
    ↔ ((value : ℕ) × (value < 2) × (choices ≡ value ∷ []) × (outcome ≡ Done (tuple value ∷ []) []))

-- insert r(field 0); output 0; abort; pick x of two values { }
abbrev pub failing : List Act
failing = Insert (of_one 0 (Field 0)) ∷ Output 0 [] ∷ Abort ∷ Pick 2 [] ∷ []

-- what stands before the abort comes to nothing, and what stands behind it uses no choice
abbrev pub AbortEndsAll : Type 0
AbortEndsAll = HasOnly failing [] [] Aborted

-- output 1 [field 0 := field 1, field 1 := field 0];
abbrev pub swapping : List Act
swapping = Output 1 (record { field = 0; to = Field 1 } ∷ record { field = 1; to = Field 0 } ∷ []) ∷ []

-- packet 2 has the values 1 and 0
abbrev pub ChangesSwap : Type 0
ChangesSwap = HasOnly swapping [] [] (Done [] (out 1 2 ∷ []))
