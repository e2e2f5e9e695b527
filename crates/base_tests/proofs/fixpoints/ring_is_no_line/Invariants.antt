-- The ledger of each call is that of its blank.
use Rattle.base_tests.proofs.fixpoints.ring_is_no_line.Given as goal

abbrev pub ghosts-acyclic : goal.ghosts-acyclic
ghosts-acyclic g a = record { name = a.blank.name; parts = a.blank.parts }

abbrev pub ghosts-acyclic-2 : goal.ghosts-acyclic-2
ghosts-acyclic-2 g a = record { name = a.blank.name; parts = a.blank.parts }
