use Rattle.box_moves.proofs.MoveLemmas.{kept_few}
use Rattle.box_moves.proofs.numbers.kept_fits.Goals as goal

pub returns : goal.returns
returns c = kept_few c.args.net.now c.args.b c.requires.boxed c.requires.kept
