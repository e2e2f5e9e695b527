use Rattle.box_executions.proofs.ExampleLemmas as lemmas
use Rattle.box_executions.proofs.examples.gate_opens_once.Goals as goal

pub returns : goal.returns
returns c = lemmas.gate_once c.fields_determine_packet.ensures c.bodies_are_read.ensures c.formulas_are_read.ensures
