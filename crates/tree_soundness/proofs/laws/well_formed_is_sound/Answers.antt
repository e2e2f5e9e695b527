use Rattle.tree_soundness.proofs.Soundness.{all_sound}
use Rattle.tree_soundness.proofs.laws.well_formed_is_sound.Goals as goal

pub returns : goal.returns
returns c = all_sound c.with_keeps_rising.ensures
