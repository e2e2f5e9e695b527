use Rattle.header_set.proofs.Radix.{positive_sizes, same_replaced}
use Rattle.header_set.proofs.laws.replaced_is_unique.Goals as goal

pub returns : goal.returns
returns c = λ sizes p k x q r headers one other. same_replaced sizes p k x q r (positive_sizes sizes headers) one other
