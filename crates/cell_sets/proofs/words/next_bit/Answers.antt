use Rattle.cell_sets.proofs.BitLemmas.{no_bit_left, first_bit_left}
use Rattle.cell_sets.proofs.words.next_bit.Goals as goal

pub returns-then-rest-eq0 : goal.returns-then-rest-eq0
returns-then-rest-eq0 c = no_bit_left c.args.word c.args.low 64 c.if-rest-eq0.true

pub returns-else-rest-eq0 : goal.returns-else-rest-eq0
returns-else-rest-eq0 c = first_bit_left c.args.word c.args.low c.ranges.word.fits c.if-rest-eq0.false
