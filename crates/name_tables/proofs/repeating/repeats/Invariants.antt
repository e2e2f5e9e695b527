use Rattle.std.proofs.Common.{◌≡◌, drop}
use Rattle.name_tables.specs.Names.{repeats}
use Rattle.name_tables.proofs.RepeatLemmas.{repeats_after}
use Rattle.name_tables.proofs.repeating.repeats.Given as goal

-- no name so far stands twice
abbrev pub invariant-loop-name : goal.invariant-loop-name
invariant-loop-name l = repeats l.names ≡ repeats_after l.table (drop l.name-index l.names)
