use Rattle.std.proofs.Common.{◌≡◌, take}
use Rattle.box_handlers.specs.Body.{body_of, branches_of}
use Rattle.handler_sizes.specs.Capped.{size_of, size_of_branches}
use Rattle.handler_sizes.proofs.measure.+acts.Given as goal

-- the size of the statements so far
abbrev pub invariant-block_size-loop-act : goal.invariant-block_size-loop-act
invariant-block_size-loop-act l = l.size ≡ size_of (body_of (take l.act-index l.acts))

-- the size of the branches so far
abbrev pub invariant-branches_size-loop-branch : goal.invariant-branches_size-loop-branch
invariant-branches_size-loop-branch l = l.size ≡ size_of_branches (branches_of (take l.branch-index l.branches))
