use Rattle.query_tables.specs.Stored.{AreTables}
use Rattle.query_tables.proofs.tables.QueryTables.new.Given as goal

abbrev pub invariant-loop-b : goal.invariant-loop-b
invariant-loop-b l = AreTables l.net l.b l.boxes.items
