use Rattle.box_executions.proofs.ExistLemmas as lemmas
use Rattle.box_executions.proofs.laws.value_begins.Goals as goal

pub returns : goal.returns
returns c =
    lemmas.value_executes c.bodies_are_read.ensures c.fields_are_below_sizes.ensures c.fields_are_free.ensures
    c.held_is_member.ensures c.with_keeps_rising.ensures c.without_keeps_rising.ensures
