use Rattle.std.proofs.Common.{ap, get_or, ◌/◌, ◌%◌, ◌==◌}
use Rattle.std.proofs.lemmas.Nat.Bits.{shr_and_one}
use Rattle.cell_sets.specs.Words.{is_marked}
use Rattle.cell_sets.proofs.words.read_mark.Goals as goal

pub returns : goal.returns
unfolding is_marked
returns c = ap (λ b. b == 1) (shr_and_one (get_or c.args.words.now (c.args.cell / 64) 0) (c.args.cell % 64))
