use Rattle.box_executions.proofs.ExistLemmas as lemmas
use Rattle.box_executions.proofs.laws.branch_begins.Goals as goal

pub returns : goal.returns
returns c =
    lemmas.branch_executes c.bodies_are_read.ensures c.fields_are_below_sizes.ensures c.fields_are_free.ensures
    c.held_is_member.ensures c.with_keeps_rising.ensures c.without_keeps_rising.ensures
