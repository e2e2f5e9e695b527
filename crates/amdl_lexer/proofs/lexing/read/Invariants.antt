use Rattle.std.proofs.Common.{◌≤◌, ◌-◌, length}
use Rattle.amdl_tree.specs.Lexical.{Reads}
use Rattle.amdl_lexer.proofs.lexing.read.Given as goal

-- the bytes before the place are read as the tokens so far, which are not too many
abbrev pub invariant-loop-at : goal.invariant-loop-at
invariant-loop-at l = record {
  read : Reads l.bytes l.at l.tokens;
  few : length l.tokens ≤ 1000000;
}

-- what is left
abbrev pub decreases-loop-at : goal.decreases-loop-at
decreases-loop-at l = length l.bytes - l.at
