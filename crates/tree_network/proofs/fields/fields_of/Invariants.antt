use Rattle.std.proofs.Common.{◌≡◌, drop}
use Rattle.tree_plan.specs.Names.{all_some}
use Rattle.tree_plan.specs.Net.{field_of}
use Rattle.tree_plan.specs.Tables.{kinds_back}
use Rattle.tree_network.specs.Reads.{fields_back}
use Rattle.tree_plan.proofs.StepLemmas.{with_front}
use Rattle.tree_network.proofs.fields.fields_of.Given as goal

-- the fields so far stand in front of the others
abbrev pub invariant-loop-field : goal.invariant-loop-field
invariant-loop-field l =
    all_some (field_of (kinds_back l.kinds)) (fields_back l.fields)
    ≡ with_front l.plans (all_some (field_of (kinds_back l.kinds)) (fields_back (drop l.field-index l.fields)))
