use Rattle.std.proofs.Common.{rules}
use Rattle.tree_rules.proofs.WalkLemmas.{no_list_passes}
use Rattle.tree_rules.proofs.walk.+guards.Goals as goal

pub guard_uses-returns : goal.guard_uses-returns
guard_uses-returns g t c =
    no_list_passes (g.T.UseTest.test c.args.test.now) c.args.opened.now c.args.guard.now c.loop-lits.lits-index
    (search rules) c.loop-lits.invariant
