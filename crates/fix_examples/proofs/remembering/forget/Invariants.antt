use Rattle.std.proofs.Common.{◌≡◌, ℕ, ◌<◌, false, get_or}
use Rattle.fix_examples.proofs.remembering.forget.Given as goal

abbrev pub invariant-loop-mark : goal.invariant-loop-mark
invariant-loop-mark l = (node : ℕ) → node < l.mark-index → get_or l.begins node false ≡ false
