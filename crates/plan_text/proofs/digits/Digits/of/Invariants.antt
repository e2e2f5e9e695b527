use Rattle.std.proofs.Common.{◌≡◌, ◌≤◌, ◌++◌, decimal, length, drop}
use Rattle.plan_text.proofs.digits.Digits.of.Given as goal

abbrev pub invariant-loop-left : goal.invariant-loop-left
invariant-loop-left l = record {
  digits : decimal l.n ≡ decimal l.left ++ drop l.start l.bytes;
  room : length (decimal l.left) ≤ l.start;
  within : l.start ≤ 20;
  size : length l.bytes ≡ 20;
}

abbrev pub decreases-loop-left : goal.decreases-loop-left
decreases-loop-left l = l.left
