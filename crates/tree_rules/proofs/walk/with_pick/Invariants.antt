use Rattle.std.proofs.Common.{◌≡◌, take}
use Rattle.tree_rules.proofs.walk.with_pick.Given as goal

abbrev pub invariant-loop-pick : goal.invariant-loop-pick
invariant-loop-pick l = l.within ≡ take l.pick-index l.opened
