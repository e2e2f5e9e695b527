-- The tables of the code by which names are looked up, as what they stand for.
pub use Rattle.tree_plan.specs.Numbers.{kind_back, kind_lent, kinds_back}
use Rattle.tree_plan.specs.Handlers.{Known}
use Rattle.tree_plan.specs.declared.known.Tables.{Tables}

-- what the handlers of a class may name
abbrev pub known_by : Tables → Known
known_by tables = record {
  kinds = kinds_back tables.kinds.now;
  fields = tables.fields.now;
  relations = tables.relations.now;
  ports = tables.ports.now;
}
