use Rattle.std.proofs.Common.{◌<◌, length}
use Rattle.amdl_tree.specs.declared.token.Token.TheVariants.{Sign as Signed}
use Rattle.amdl_tree.specs.declared.token.Sign.TheVariants.{Comma}
use Rattle.amdl_parser.proofs.Loops.{Listing}
use Rattle.schedule_text.specs.Readings.{number_at, numbers_at}
use Rattle.schedule_text.proofs.primitive.Tokens.numbers.Given as goal

abbrev pub invariant-loop-self : goal.invariant-loop-self
invariant-loop-self l = record {
  listing : Listing numbers_at (Signed Comma) number_at l.fn.self.left.now l.self.left.now l.numbers;
  shorter : length l.self.left.now < length l.fn.self.left.now;
}

abbrev pub decreases-loop-self : goal.decreases-loop-self
decreases-loop-self l = length l.self.left.now
