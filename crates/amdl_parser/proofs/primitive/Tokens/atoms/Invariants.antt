use Rattle.std.proofs.Common.{◌<◌, length}
use Rattle.amdl_tree.specs.declared.token.Token.TheVariants.{Sign as Signed}
use Rattle.amdl_tree.specs.declared.token.Sign.TheVariants.{Comma}
use Rattle.amdl_parser.specs.Grammar.{atoms_at, atom_at}
use Rattle.amdl_parser.proofs.Loops.{Listing}
use Rattle.amdl_parser.proofs.primitive.Tokens.atoms.Given as goal

abbrev pub invariant-loop-alloc : goal.invariant-loop-alloc
invariant-loop-alloc l = record {
  listing : Listing atoms_at (Signed Comma) atom_at l.fn.self.left.now l.self.left.now l.atoms;
  shorter : length l.self.left.now < length l.fn.self.left.now;
}

abbrev pub decreases-loop-alloc : goal.decreases-loop-alloc
decreases-loop-alloc l = length l.self.left.now
