use Rattle.box_executions.proofs.KeepLemmas.{outcome_in_range}
use Rattle.box_executions.proofs.laws.outcome_is_in_range.Goals as goal

pub returns : goal.returns
returns c = outcome_in_range c.fields_are_below_sizes.ensures c.with_keeps_rising.ensures c.without_keeps_rising.ensures
