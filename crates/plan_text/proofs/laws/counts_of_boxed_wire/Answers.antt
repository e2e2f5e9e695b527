use Rattle.std.proofs.Common.{refl}
use Rattle.std.specs.Fmt.{digits}
use Rattle.plan_text.proofs.laws.counts_of_boxed_wire.Goals as goal

pub returns : goal.returns
unfolding digits
returns c = refl
