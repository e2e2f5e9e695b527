use Rattle.std.proofs.Common.{◌<◌, ℕ, slice_index_or}
use Rattle.amdl_tree.specs.declared.token.Lexed.{Lexed}
use Rattle.schedule_text.specs.Readings.{IsNamed}
use Rattle.schedule_text.proofs.primitive.show_names.Given as goal

abbrev pub invariant-loop-lexed : goal.invariant-loop-lexed
invariant-loop-lexed l = (k : ℕ) (d : Lexed) → k < l.lexed-index → IsNamed (slice_index_or l.tokens k d).token
