use Rattle.std.proofs.Common.{refl}
use Rattle.std.specs.Fmt.{digits}
use Rattle.header_set.specs.Headers.{field_of}
use Rattle.schedule.specs.Texts.{is_forbidden}
use Rattle.schedule.proofs.laws.text_of_wire.Goals as goal

pub returns : goal.returns
unfolding digits field_of is_forbidden
returns c = refl
