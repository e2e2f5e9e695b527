use Rattle.std.proofs.Common.{◌≡◌, ◌≤◌, ◌++◌, ℕ, List, length}
use Rattle.std.specs.Io.KnownBytes.{append_known}
use Rattle.amdl_app.proofs.output.put_text.Given as goal

-- a front of the text was put out, and the rest is left
abbrev pub invariant-loop-piece : goal.invariant-loop-piece
invariant-loop-piece g l = record {
  later : g.S.Sink.faults l.initial.out ≤ g.S.Sink.faults l.out;
  front : (front : List ℕ) × (l.text ≡ front ++ l.rest)
      × (g.S.Sink.written l.out ≡ append_known (g.S.Sink.written l.initial.out) front);
}

abbrev pub decreases-loop-piece : goal.decreases-loop-piece
decreases-loop-piece g l = length l.rest
