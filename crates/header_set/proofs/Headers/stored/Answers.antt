use Rattle.std.proofs.Common.{ℕ, List, ◌++◌, length, drop, replicate, sym, subst}
use Rattle.header_set.specs.Stored.{IsStored}
use Rattle.header_set.proofs.StoredLemmas.{stored_padded}
use Rattle.header_set.proofs.Headers.stored.Goals as goal

pub invariant_of-result : goal.invariant_of-result
invariant_of-result c =
    let count = length c.args.sizes.now in
    subst (λ (front : List ℕ). IsStored (front ++ drop count (replicate 8 0)) count)
    (sym c.copy_from_slice.ensures.after) (stored_padded c.args.sizes.now c.requires)
