use Rattle.std.proofs.Common.{not}
use Rattle.std.proofs.lemmas.List.Kept.{IsStrictlySortedBy-filter}
use Rattle.box_contents.specs.Contents.{entry_cmp, same_entry}
use Rattle.box_contents.proofs.laws.without_keeps_rising.Goals as goal

pub returns : goal.returns
returns c =
    λ entries entry rising. IsStrictlySortedBy-filter entry_cmp (λ other. not (same_entry entry other)) entries rising
