use Rattle.std.proofs.Common.{◌+◌, sym, subst}
use Rattle.query_tables.specs.Stored.{AreTables}
use Rattle.query_tables.proofs.StoredLemmas.{tables_more}
use Rattle.query_tables.proofs.tables.QueryTables.new.Goals as goal

pub loop-b-preserved : goal.loop-b-preserved
loop-b-preserved c =
    subst (AreTables c.args.net.now (c.loop-b.b + 1)) (sym c.in-Ok.ensures.items)
    (tables_more c.args.net.now c.loop-b.b c.loop-b.boxes.items c.in_ok-table_of.field-0 c.loop-b.invariant
    c.in_ok-table_of.ensures)
