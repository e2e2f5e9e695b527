use Rattle.box_executions.proofs.ExampleLemmas as lemmas
use Rattle.box_executions.proofs.examples.changes_swap.Goals as goal

pub returns : goal.returns
returns c = lemmas.changes_swap c.fields_determine_packet.ensures c.bodies_are_read.ensures c.formulas_are_read.ensures
