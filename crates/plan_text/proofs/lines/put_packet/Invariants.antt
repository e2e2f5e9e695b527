use Rattle.std.proofs.Common.{◌≡◌, ◌++◌}
use Rattle.plan_text.specs.Text.{text_of_field}
use Rattle.plan_text.proofs.ListedLemmas.{up_to}
use Rattle.plan_text.proofs.lines.put_packet.Given as goal

abbrev pub invariant-loop-k : goal.invariant-loop-k
invariant-loop-k l = l.out.items ≡ l.fn.out.items ++ up_to (text_of_field l.network l.packet) l.k
