use Rattle.box_executions.proofs.ExampleLemmas as lemmas
use Rattle.box_executions.proofs.examples.insertion_is_seen.Goals as goal

pub returns : goal.returns
returns c =
    lemmas.insertion_seen c.fields_determine_packet.ensures c.bodies_are_read.ensures c.formulas_are_read.ensures
