use Rattle.std.proofs.Common.{refl}
use Rattle.std.specs.Fmt.{digits}
use Rattle.schedule_file.proofs.laws.refusal_texts.Goals as goal

pub returns : goal.returns
unfolding digits
returns c = record {
  too_long = refl;
  bad_byte = refl;
  overlong = refl;
  too_many = refl;
  syntax = refl;
  unknown = refl;
  outside = refl;
  no_such = refl;
  not_sent = refl;
  no_copy = refl;
  not_head = refl;
  bad_choice = refl;
}
