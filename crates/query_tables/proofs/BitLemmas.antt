-- The queries that have a tuple, and the places at which lists have the same one, as bits.
use Rattle.std.proofs.Common.{◌≡◌, ℕ, zero, suc, ◌+◌, ◌*◌, ◌%◌, ◌<◌, Bool, true, false, cond, List, [], ◌∷◌, length}
use Rattle.std.proofs.Common.{Some, None, refl, sym, ap, subst, ◌∙◌, inl, inr, arith}
use Rattle.std.specs.Prelude.{slice_get}
use Rattle.std.specs.Int.{bit_at}
use Rattle.std.specs.List.{Contains}
use Rattle.std.specs.Ordering.{is_eq}
use Rattle.std.specs.Cmp.{tied_itself}
use Rattle.std.specs.declared.cmp.Ordering.{Ordering}
use Rattle.std.specs.declared.cmp.Ordering.TheVariants.{Less, Equal, Greater}
use Rattle.std.proofs.lemmas.Nat.Bits.{bit_at_lowest, bit_at-suc, bit_at-zero}
use Rattle.std.proofs.lemmas.Option.{slice_get-get_or}
use Rattle.box_contents.specs.declared.entry.Entry.{Entry}
use Rattle.box_contents.specs.Contents.{entry_cmp, same_entry}
use Rattle.box_contents.proofs.Entries.{entries_total, exact}
use Rattle.box_executions.proofs.RangeLemmas.{some_inside}
use Rattle.net_plan.proofs.Rising.{head_contained, tail_contained, contained_cases, none_contained}
use Rattle.box_masks.specs.Bits.{with_bit}
use Rattle.box_masks.proofs.BitLemmas.{half_with_bit}
use Rattle.query_tables.specs.Sites.{bits_of}
use Rattle.query_tables.specs.Spots.{alike}

same_true : (one other : Entry) → one ≡ other → same_entry one other ≡ true
same_true one other e = ap (same_entry one) (sym e) ∙ ap is_eq (tied_itself entries_total one)

same_is : (one other : Entry) → same_entry one other ≡ true → one ≡ other
same_is one other e = exact one other (tied (entry_cmp one other) e)
  where
    tied : (r : Ordering) → is_eq r ≡ true → r ≡ Equal
    tied Less e = absurd (cc)
    tied Equal e = refl
    tied Greater e = absurd (cc)

one_from : (b : Bool) → cond {A = ℕ} b 1 0 ≡ 1 → b ≡ true
one_from true e = refl
one_from false e = absurd (let clash : 0 ≡ 1 = e in omega (arith, clash))

low_bit : (mask : ℕ) (b : Bool) → bit_at (with_bit mask b) 0 ≡ cond {A = ℕ} b 1 0
low_bit mask true = bit_at_lowest (with_bit mask true) ∙ (let e : (2 * mask + 1) % 2 ≡ 1 = omega arith in e)
low_bit mask false = bit_at_lowest (with_bit mask false) ∙ (let e : (2 * mask + 0) % 2 ≡ 0 = omega arith in e)

high_bit : (mask k : ℕ) (b : Bool) → bit_at (with_bit mask b) (suc k) ≡ bit_at mask k
high_bit mask k b = bit_at-suc (with_bit mask b) k ∙ ap (λ (n : ℕ). bit_at n k) (half_with_bit mask b)

no_bit : {P : Type 0} (k : ℕ) → bit_at 0 k ≡ 1 → P
no_bit k e = absurd (let clash : 0 ≡ 1 = sym (bit_at-zero k) ∙ e in omega (arith, clash))

some_more : (mask : ℕ) (b : Bool) → 0 < mask → 0 < with_bit mask b
some_more mask true less = let l : 0 < 2 * mask + 1 = omega arith in l
some_more mask false less = let l : 0 < 2 * mask + 0 = omega (arith, less) in l

some_less : (mask : ℕ) → 0 < with_bit mask false → 0 < mask
some_less mask less = let l : 0 < 2 * mask + 0 = less in omega (arith, l)

-- a query of the bits has the tuple
pub bits_own : (entry : Entry) (tuples : List Entry) (k : ℕ) → bit_at (bits_of entry tuples) k ≡ 1 →
    slice_get tuples k ≡ Some entry
bits_own entry [] k e = no_bit k e
bits_own entry (tuple ∷ tuples) zero e =
    ap Some
    (sym (same_is entry tuple
    (one_from (same_entry entry tuple) (sym (low_bit (bits_of entry tuples) (same_entry entry tuple)) ∙ e))))
bits_own entry (tuple ∷ tuples) (suc k) e =
    bits_own entry tuples k (sym (high_bit (bits_of entry tuples) k (same_entry entry tuple)) ∙ e)

-- some query has the tuple where there are bits
pub bits_some : (entry : Entry) (tuples : List Entry) → Contains tuples entry → 0 < bits_of entry tuples
bits_some entry [] has = absurd (none_contained entry has)
bits_some entry (tuple ∷ tuples) has =
    elim (contained_cases tuple entry tuples has) [
      | inl here ↦ subst (λ b. 0 < with_bit (bits_of entry tuples) b) (sym (same_true entry tuple (sym here)))
          (let l : 0 < 2 * bits_of entry tuples + 1 = omega arith in l)
      | inr later ↦ some_more (bits_of entry tuples) (same_entry entry tuple) (bits_some entry tuples later)
    ]

pub bits_from : (entry : Entry) (tuples : List Entry) → 0 < bits_of entry tuples → Contains tuples entry
bits_from entry [] some = absurd (let l : 0 < 0 = some in omega (arith, l))
bits_from entry (tuple ∷ tuples) some = by (same_entry entry tuple) refl (bits_from entry tuples)
  where
    by : (b : Bool) → same_entry entry tuple ≡ b → (0 < bits_of entry tuples → Contains tuples entry) →
        Contains (tuple ∷ tuples) entry
    by true e rest = subst (Contains (tuple ∷ tuples)) (sym (same_is entry tuple e)) (head_contained tuple tuples)
    by false e rest =
        tail_contained tuple entry tuples
        (rest (some_less (bits_of entry tuples) (subst (λ b. 0 < with_bit (bits_of entry tuples) b) e some)))

-- the lists have the same tuples at these places
pub alike_at : (one other : List Entry) (k : ℕ) → bit_at (alike one other) k ≡ 1 → slice_get one k ≡ slice_get other k
alike_at [] other k e = no_bit k e
alike_at (tuple ∷ tuples) [] k e = no_bit k e
alike_at (tuple ∷ tuples) (other ∷ others) zero e =
    ap Some
    (same_is tuple other
    (one_from (same_entry tuple other) (sym (low_bit (alike tuples others) (same_entry tuple other)) ∙ e)))
alike_at (tuple ∷ tuples) (other ∷ others) (suc k) e =
    alike_at tuples others k (sym (high_bit (alike tuples others) k (same_entry tuple other)) ∙ e)

-- and at no others
pub alike_has : (one other : List Entry) (k : ℕ) → k < length one → slice_get one k ≡ slice_get other k →
    bit_at (alike one other) k ≡ 1
alike_has [] other k less e = absurd (let l : k < 0 = less in omega (arith, l))
alike_has (tuple ∷ tuples) [] zero less e = absurd (let clash : Some tuple ≡ None = e in cc)
alike_has (tuple ∷ tuples) [] (suc k) less e =
    let inside : k < length tuples = (let l : suc k < suc (length tuples) = less in omega (arith, l)) in
    absurd (let clash : Some _ ≡ None = sym (slice_get-get_or tuples k tuple inside) ∙ e in cc)
alike_has (tuple ∷ tuples) (other ∷ others) zero less e =
    low_bit (alike tuples others) (same_entry tuple other)
    ∙ ap (λ b. cond {A = ℕ} b 1 0) (same_true tuple other (some_inside e))
alike_has (tuple ∷ tuples) (other ∷ others) (suc k) less e =
    high_bit (alike tuples others) k (same_entry tuple other)
    ∙ alike_has tuples others k (let l : suc k < suc (length tuples) = less in omega (arith, l)) e
