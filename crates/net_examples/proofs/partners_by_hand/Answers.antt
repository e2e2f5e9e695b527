use Rattle.std.proofs.Common.{refl}
use Rattle.net_examples.proofs.partners_by_hand.Goals as goal

pub returns : goal.returns
returns c = refl
