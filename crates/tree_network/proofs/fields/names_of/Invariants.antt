use Rattle.std.proofs.Common.{◌≡◌, take}
use Rattle.tree_plan.specs.Net.{field_names}
use Rattle.tree_network.specs.Reads.{fields_back}
use Rattle.tree_network.proofs.fields.names_of.Given as goal

abbrev pub invariant-loop-field : goal.invariant-loop-field
invariant-loop-field l = l.names ≡ field_names (fields_back (take l.field-index l.fields))
