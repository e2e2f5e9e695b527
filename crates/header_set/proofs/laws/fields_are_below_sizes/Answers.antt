use Rattle.header_set.proofs.Radix.{positive_sizes, field_below}
use Rattle.header_set.proofs.laws.fields_are_below_sizes.Goals as goal

pub returns : goal.returns
returns c = λ sizes p k headers h. field_below sizes p k (positive_sizes sizes headers) h
