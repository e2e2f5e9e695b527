use Rattle.box_executions.proofs.ExampleLemmas as lemmas
use Rattle.box_executions.proofs.examples.each_value_is_picked.Goals as goal

pub returns : goal.returns
returns c = lemmas.each_picked c.fields_determine_packet.ensures c.bodies_are_read.ensures c.formulas_are_read.ensures
