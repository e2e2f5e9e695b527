use Rattle.std.proofs.Common.{refl}
use Rattle.std.specs.Fmt.{digits}
use Rattle.header_set.specs.Headers.{field_of}
use Rattle.plan_text.proofs.laws.report_of_boxed_wire.Goals as goal

pub returns : goal.returns
unfolding digits field_of
returns c = refl
