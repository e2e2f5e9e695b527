use Rattle.header_set.proofs.Radix.{positive_sizes, packet_of_values}
use Rattle.header_set.proofs.laws.fields_are_free.Goals as goal

pub returns : goal.returns
returns c = λ sizes values headers len below. packet_of_values sizes values (positive_sizes sizes headers) len below
