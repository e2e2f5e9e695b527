-- The ledger of each call is that of its blank.
use Rattle.base_tests.proofs.fixpoints.paths_without_memory.Given as goal

abbrev pub ghosts-finds : goal.ghosts-finds
ghosts-finds g a = record { name = a.blank.name; parts = a.blank.parts }

abbrev pub ghosts-finds-2 : goal.ghosts-finds-2
ghosts-finds-2 g a = record { name = a.blank.name; parts = a.blank.parts }
