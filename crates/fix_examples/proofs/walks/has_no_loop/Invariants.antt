use Rattle.std.proofs.Common.{◌≡◌, ℕ, ◌<◌, ◌+◌, ◌*◌, false, get_or}
use Rattle.fix_examples.proofs.walks.has_no_loop.Given as goal

abbrev pub invariant-loop-node : goal.invariant-loop-node
invariant-loop-node g l =
    (node : ℕ) → node < l.node → get_or (g.S.CellSet.marks l.set) (node * l.nodes + node) false ≡ false
