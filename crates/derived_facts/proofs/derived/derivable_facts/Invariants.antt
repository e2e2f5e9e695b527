-- The ledger of the call is that of its blank.
use Rattle.derived_facts.proofs.derived.derivable_facts.Given as goal

abbrev pub ghosts-found : goal.ghosts-found
ghosts-found g a = record { name = a.blank.name; parts = a.blank.parts }
