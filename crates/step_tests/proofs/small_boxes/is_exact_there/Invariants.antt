-- The ledger of the call is that of its blank.
use Rattle.step_tests.proofs.small_boxes.is_exact_there.Given as goal

abbrev pub ghosts-counted : goal.ghosts-counted
ghosts-counted a = record { name = a.blank.name; parts = a.blank.parts }
