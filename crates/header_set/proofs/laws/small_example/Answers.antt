use Rattle.header_set.proofs.Example.{small_fields, small_match}
use Rattle.header_set.proofs.laws.small_example.Goals as goal

pub returns-clause-fields : goal.returns-clause-fields
returns-clause-fields c = small_fields

pub returns-clause-pattern : goal.returns-clause-pattern
returns-clause-pattern c = small_match
