use Rattle.header_set.proofs.Radix.{positive_sizes, packet_from_fields}
use Rattle.header_set.proofs.laws.fields_determine_packet.Goals as goal

pub returns : goal.returns
returns c = λ sizes p q headers hp hq same. packet_from_fields sizes p q (positive_sizes sizes headers) hp hq same
