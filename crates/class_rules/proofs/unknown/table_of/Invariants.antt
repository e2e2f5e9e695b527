use Rattle.std.proofs.Common.{◌≡◌, ℕ, List, take}
use Rattle.name_tables.specs.Names.{is_among}
use Rattle.class_rules.proofs.unknown.table_of.Given as goal

-- the names so far are in the table
abbrev pub invariant-loop-name : goal.invariant-loop-name
invariant-loop-name l = (name : List ℕ) → is_among l.table name ≡ is_among (take l.name-index l.names) name
