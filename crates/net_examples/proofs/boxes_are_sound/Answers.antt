use Rattle.net_examples.proofs.BoxLemmas.{boxes_are_sound}
use Rattle.net_examples.proofs.boxes_are_sound.Goals as goal

pub returns : goal.returns
returns c = boxes_are_sound c.bodies_are_read.ensures c.formulas_are_read.ensures
