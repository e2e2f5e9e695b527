use Rattle.net_examples.proofs.ForgetfulSound.{forgetful_sound}
use Rattle.net_examples.proofs.forgetful_is_sound.Goals as goal

pub returns : goal.returns
returns c = forgetful_sound c.bodies_are_read.ensures c.formulas_are_read.ensures
