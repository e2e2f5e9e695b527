use Rattle.box_executions.proofs.OnceLemmas.{execution_once}
use Rattle.box_executions.proofs.laws.execution_is_determined.Goals as goal

pub returns : goal.returns
returns c = execution_once c.fields_determine_packet.ensures
