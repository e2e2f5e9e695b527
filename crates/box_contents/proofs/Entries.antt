-- The order of entries.
use Rattle.std.proofs.Common.{◌≡◌, ℕ, ◌<◌, refl, subst}
use Rattle.std.specs.declared.cmp.Ordering.{Ordering}
use Rattle.std.specs.declared.cmp.Ordering.TheVariants.{Less, Equal, Greater}
use Rattle.std.specs.Ordering.{nat_cmp, ordering_then, MatchOrdering}
use Rattle.std.specs.Cmp.{IsTotalOrder, then_total, on_total, nat_cmp_total, ranks}
use Rattle.box_contents.specs.declared.entry.Entry.{Entry}
use Rattle.box_contents.specs.Contents.{entry_cmp}

pub entries_total : IsTotalOrder entry_cmp
entries_total =
    then_total (on_total (λ (entry : Entry). entry.relation) nat_cmp_total)
    (on_total (λ (entry : Entry). entry.tuple) nat_cmp_total)

first_equal : (a b : Ordering) → ordering_then a b ≡ Equal → a ≡ Equal
first_equal Less b e = absurd (cc)
first_equal Equal b e = refl
first_equal Greater b e = absurd (cc)

second_equal : (a b : Ordering) → ordering_then a b ≡ Equal → b ≡ Equal
second_equal Less b e = absurd (cc)
second_equal Equal b e = e
second_equal Greater b e = absurd (cc)

same_number : (a b : ℕ) → nat_cmp a b ≡ Equal → a ≡ b
same_number a b e = subst (λ (r : Ordering). MatchOrdering r (a < b) (a ≡ b) (b < a)) e (ranks a b)

pub exact : (x y : Entry) → entry_cmp x y ≡ Equal → x ≡ y
exact x y e =
    let relation : x.relation ≡ y.relation =
    same_number x.relation y.relation (first_equal (nat_cmp x.relation y.relation) (nat_cmp x.tuple y.tuple) e) in
    let tuple : x.tuple ≡ y.tuple =
    same_number x.tuple y.tuple (second_equal (nat_cmp x.relation y.relation) (nat_cmp x.tuple y.tuple) e) in
    λ i. record { relation = relation i; tuple = tuple i }
