-- The ledger of the call is that of its blank.
use Rattle.domain_tests.proofs.comparing.report.Given as goal

abbrev pub ghosts-compared : goal.ghosts-compared
ghosts-compared a = record { name = a.blank.name; parts = a.blank.parts }
