use Rattle.box_executions.proofs.FrontLemmas.{execution_front}
use Rattle.box_executions.proofs.laws.execution_uses_front.Goals as goal

pub returns : goal.returns
returns c = execution_front
