use Rattle.handler_sizes.proofs.SizeLemmas.{block_more, branches_more}
use Rattle.handler_sizes.proofs.measure.+acts.Goals as goal

pub block_size-loop-act-preserved : goal.block_size-loop-act-preserved
block_size-loop-act-preserved t c =
    block_more c.args.acts.now c.loop-act.act-index c.act-item.result c.loop-act.size c.act_size.result
    c.then-size.result
    c.loop-act-test.true c.act-item.is c.loop-act.invariant c.act_size.ensures c.then-size.ensures

pub branches_size-loop-branch-preserved : goal.branches_size-loop-branch-preserved
branches_size-loop-branch-preserved t c =
    branches_more c.args.branches.now c.loop-branch.branch-index c.branch-item.result c.loop-branch.size
    c.branch_size.result c.beside-size.result c.loop-branch-test.true c.branch-item.is c.loop-branch.invariant
    c.branch_size.ensures c.beside-size.ensures
