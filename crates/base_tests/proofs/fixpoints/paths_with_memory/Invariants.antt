-- The ledger of each call is that of its blank.
use Rattle.base_tests.proofs.fixpoints.paths_with_memory.Given as goal

abbrev pub ghosts-finds_again : goal.ghosts-finds_again
ghosts-finds_again g a = record { name = a.blank.name; parts = a.blank.parts }

abbrev pub ghosts-finds_again-2 : goal.ghosts-finds_again-2
ghosts-finds_again-2 g a = record { name = a.blank.name; parts = a.blank.parts }
