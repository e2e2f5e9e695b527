-- The ledger of the call is that of its blank.
use Rattle.step_tests.proofs.twins.twins_step.Given as goal

abbrev pub ghosts-steps_so : goal.ghosts-steps_so
ghosts-steps_so g a = record { name = a.blank.name; parts = a.blank.parts }
