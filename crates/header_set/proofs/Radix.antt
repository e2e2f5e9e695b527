-- Products, weights and fields of lists of sizes.
use Rattle.std.proofs.Common.{◌≡◌, ◌≢◌, ℕ, zero, suc, ◌≤◌, ◌<◌, ◌+◌, ◌-◌, ◌*◌, ◌/◌, ◌%◌, add-one, List, [], ◌∷◌, length}
use Rattle.std.proofs.Common.{take, drop, get_or, ◌∙◌, sym, ap, refl, arith, subst, drop-cons, ◌⊎◌, inl, inr}
use Rattle.std.proofs.lemmas.List.{get_or-drop, drop_all, drop-drop, length-drop}
use Rattle.std.proofs.lemmas.Nat.{div-mul-add, mod-mul-add, mul-add-lt, div_below, div-add-mod'}
use Rattle.std.proofs.Math.Seq.{take-length}
use Rattle.std.proofs.Math.Arith.{mod-mul}
use Rattle.std.proofs.Math.Nat.{mod-mod_of_dvd, div-div-eq-div-mul, dvd-mul_right, mul_comm, mul_assoc, mul-pos, mod-lt}
use Rattle.std.proofs.Math.Nat.{mod-eq_of_lt, le-mul_of_pos_right, mul-le-mul_left, mul-le-mul_right}
use Rattle.header_set.specs.Headers.{product, weight, field_of, FirstSizesFit, IsHeaders, IsWith}

-- each size of the list is at least 1
pub record EachPositive (sizes : List ℕ) : Type 0 where
  pub positive : (k : ℕ) → k < length sizes → 0 < get_or sizes k 0

pub positive_of_fit : (sizes : List ℕ) → FirstSizesFit sizes (length sizes) → EachPositive sizes
positive_of_fit sizes fit = record { positive = λ k h. omega (arith, (fit k h).0) }

pub positive_sizes : (sizes : List ℕ) → IsHeaders sizes → EachPositive sizes
positive_sizes sizes headers = record { positive = λ k h. omega (arith, (headers.fit k h).0) }

positive_tail : (size : ℕ) (sizes : List ℕ) → EachPositive (size ∷ sizes) → EachPositive sizes
positive_tail size sizes all = record { positive = λ k h. all.positive (suc k) (omega (arith, h)) }

pub product_positive : (sizes : List ℕ) → EachPositive sizes → 0 < product sizes
product_positive [] all = omega arith
product_positive (size ∷ sizes) all =
    mul-pos (all.positive 0 (omega arith)) (product_positive sizes (positive_tail size sizes all))

pub positive_drop : (n : ℕ) (sizes : List ℕ) → EachPositive sizes → EachPositive (drop n sizes)
positive_drop n sizes all = record {
  positive = λ k h.
      rw get_or-drop (all.positive (n + k) (omega (arith, h, length-drop n sizes)));
}

-- the product of the sizes from one place on is positive
pub rest_positive : (sizes : List ℕ) (n : ℕ) → EachPositive sizes → 0 < product (drop n sizes)
rest_positive sizes n all = product_positive (drop n sizes) (positive_drop n sizes all)

-- the product from one place on is that size times the product from the next on
pub product-drop : (sizes : List ℕ) (k : ℕ) → k < length sizes →
    product (drop k sizes) ≡ get_or sizes k 0 * product (drop (k + 1) sizes)
product-drop sizes k h = rw (add-one, drop-cons sizes k 0) refl

-- the product of the sizes is a multiple of that from one place on
multiple_of_rest : (sizes : List ℕ) (n : ℕ) → (m : ℕ) × (product sizes ≡ product (drop n sizes) * m)
multiple_of_rest sizes zero = (1, omega arith)
multiple_of_rest [] (suc n) = (1, refl)
multiple_of_rest (size ∷ sizes) (suc n) =
    let later = multiple_of_rest sizes n in
    let rest = product (drop n sizes) in
    let swapped : size * (rest * later.0) ≡ rest * (size * later.0) = omega arith in
    (size * later.0, ap (λ (m : ℕ). size * m) later.1 ∙ swapped)

pub multiple_of_later : (sizes : List ℕ) (j k : ℕ) → j ≤ k →
    (m : ℕ) × (product (drop j sizes) ≡ product (drop k sizes) * m)
multiple_of_later sizes j k h =
    let later = multiple_of_rest (drop j sizes) (k - j) in
    let same : drop (k - j) (drop j sizes) ≡ drop k sizes =
    drop-drop (k - j) j sizes ∙ ap (λ (n : ℕ). drop n sizes) (omega (arith, h)) in
    (later.0, later.1 ∙ ap (λ (rest : List ℕ). product rest * later.0) same)

-- a quotient's remainder is read off the remainder by the product
div-mod : (p m c : ℕ) → 0 < m → 0 < c → p / c % m ≡ p % (m * c) / c
div-mod p m c hm hc =
    sym (ap (λ (n : ℕ). n / c) (mod-mul p hm hc) ∙ div-mul-add (p / c % m) c (p % c) (mod-lt p hc))

-- a field depends on the remainder by the product from its place on alone
field_by_rest : (sizes : List ℕ) (p k : ℕ) → EachPositive sizes → k < length sizes →
    field_of sizes p k ≡ p % product (drop k sizes) / product (drop (k + 1) sizes)
unfolding field_of
field_by_rest sizes p k all h =
    div-mod p (get_or sizes k 0) (product (drop (k + 1) sizes)) (all.positive k h) (rest_positive sizes (k + 1) all)
    ∙ ap (λ (n : ℕ). p % n / product (drop (k + 1) sizes)) (sym (product-drop sizes k h))

mod-mod_multiple : (p a m : ℕ) → p % (a * m) % a ≡ p % a
mod-mod_multiple p a m = mod-mod_of_dvd a p (dvd-mul_right a m)

-- numbers with one remainder by the product from n on have the fields from n on in common
pub later_fields_agree : (sizes : List ℕ) (p q n k : ℕ) → EachPositive sizes → k < length sizes → n ≤ k →
    p % product (drop n sizes) ≡ q % product (drop n sizes) → field_of sizes p k ≡ field_of sizes q k
later_fields_agree sizes p q n k all h le same =
    let later = multiple_of_later sizes n k le in
    let rest = product (drop k sizes) in
    let shown : (r : ℕ) → r % product (drop n sizes) % rest ≡ r % rest =
    λ (r : ℕ). ap (λ (w : ℕ). r % w % rest) later.1 ∙ mod-mod_multiple r rest later.0 in
    field_by_rest sizes p k all h
    ∙ ap (λ (r : ℕ). r / product (drop (k + 1) sizes)) (sym (shown p) ∙ ap (λ (r : ℕ). r % rest) same ∙ shown q)
    ∙ sym (field_by_rest sizes q k all h)

-- numbers with one quotient by the product from n on have the fields before n in common
pub earlier_fields_agree : (sizes : List ℕ) (p q n k : ℕ) → k < n →
    p / product (drop n sizes) ≡ q / product (drop n sizes) → field_of sizes p k ≡ field_of sizes q k
unfolding field_of
earlier_fields_agree sizes p q n k lt same =
    let later = multiple_of_later sizes (k + 1) n (omega (arith, lt)) in
    let rest = product (drop n sizes) in
    let shown : (r : ℕ) → r / product (drop (k + 1) sizes) ≡ r / rest / later.0 =
    λ (r : ℕ). ap (λ (w : ℕ). r / w) later.1 ∙ sym (div-div-eq-div-mul r rest later.0) in
    ap (λ (r : ℕ). r % get_or sizes k 0) (shown p ∙ ap (λ (r : ℕ). r / later.0) same ∙ sym (shown q))

pub field_below : (sizes : List ℕ) (p k : ℕ) → EachPositive sizes → k < length sizes →
    field_of sizes p k < get_or sizes k 0
unfolding field_of
field_below sizes p k all h = mod-lt (p / weight sizes k) (all.positive k h)

field_of-zero : (size : ℕ) (sizes : List ℕ) (p : ℕ) → field_of (size ∷ sizes) p 0 ≡ p / product sizes % size
unfolding field_of
field_of-zero size sizes p = refl

field_of-suc : (size : ℕ) (sizes : List ℕ) (p k : ℕ) → field_of (size ∷ sizes) p (suc k) ≡ field_of sizes p k
unfolding field_of
field_of-suc size sizes p k =
    let next : suc k + 1 ≡ suc (k + 1) = omega arith in
    ap (λ (n : ℕ). p / product (drop n (size ∷ sizes)) % get_or sizes k 0) next

-- numbers with equal fields have one remainder by the product of the sizes
same_remainder : (sizes : List ℕ) (p q : ℕ) → EachPositive sizes →
    ((k : ℕ) → k < length sizes → field_of sizes p k ≡ field_of sizes q k) → p % product sizes ≡ q % product sizes
same_remainder [] p q all same = omega arith
same_remainder (size ∷ sizes) p q all same =
    let tail = positive_tail size sizes all in
    let rest = product sizes in
    let rest_pos : 0 < rest = product_positive sizes tail in
    let size_pos : 0 < size = all.positive 0 (omega arith) in
    let first : p / rest % size ≡ q / rest % size =
    sym (field_of-zero size sizes p) ∙ same 0 (omega arith) ∙ field_of-zero size sizes q in
    let others : p % rest ≡ q % rest = same_remainder sizes p q tail (λ k h.
    sym (field_of-suc size sizes p k) ∙ same (suc k) (omega (arith, h)) ∙ field_of-suc size sizes q k) in
    mod-mul p size_pos rest_pos
    ∙ ap (λ (n : ℕ). n * rest + p % rest) first
    ∙ ap (λ (n : ℕ). q / rest % size * rest + n) others
    ∙ sym (mod-mul q size_pos rest_pos)

-- packets with equal fields are equal
pub packet_from_fields : (sizes : List ℕ) (p q : ℕ) → EachPositive sizes → p < product sizes → q < product sizes →
    ((k : ℕ) → k < length sizes → field_of sizes p k ≡ field_of sizes q k) → p ≡ q
packet_from_fields sizes p q all hp hq same =
    sym (mod-eq_of_lt hp) ∙ same_remainder sizes p q all same ∙ mod-eq_of_lt hq

eq_or_not : (j k : ℕ) → (j ≡ k) ⊎ (j ≢ k)
eq_or_not j k = grind arith

-- q and r are one packet with a field replaced by one value
pub same_replaced : (sizes : List ℕ) (p k x q r : ℕ) → EachPositive sizes →
    IsWith sizes p k x q → IsWith sizes p k x r → q ≡ r
same_replaced sizes p k x q r all one other =
    packet_from_fields sizes q r all one.below other.below (λ j h.
    elim (eq_or_not j k) [
      | inl same ↦ ap (λ (n : ℕ). field_of sizes q n) same ∙ one.changed ∙ sym other.changed
          ∙ sym (ap (λ (n : ℕ). field_of sizes r n) same)
      | inr differ ↦ one.others j h differ ∙ sym (other.others j h differ)
    ])

all_fields : (size : ℕ) (sizes : List ℕ) (value : ℕ) (values : List ℕ) (p : ℕ) →
    field_of (size ∷ sizes) p 0 ≡ value →
    ((k : ℕ) → k < length sizes → field_of (size ∷ sizes) p (suc k) ≡ get_or values k 0) →
    (k : ℕ) → k < length (size ∷ sizes) → field_of (size ∷ sizes) p k ≡ get_or (value ∷ values) k 0
all_fields size sizes value values p first others zero h = first
all_fields size sizes value values p first others (suc k) h = others k (omega (arith, h))

-- each choice of field values is the fields of a packet
pub packet_of_values : (sizes values : List ℕ) → EachPositive sizes → length values ≡ length sizes →
    ((k : ℕ) → k < length sizes → get_or values k 0 < get_or sizes k 0) →
    (p : ℕ) × (p < product sizes) × ((k : ℕ) → k < length sizes → field_of sizes p k ≡ get_or values k 0)
packet_of_values [] values all len below = (0, omega arith, λ k h. absurd (omega (arith, h)))
packet_of_values (size ∷ sizes) [] all len below = absurd (omega (arith, len))
packet_of_values (size ∷ sizes) (value ∷ values) all len below =
    let tail = positive_tail size sizes all in
    let later = packet_of_values sizes values tail (omega (arith, len)) (λ k h. below (suc k) (omega (arith, h))) in
    let rest = product sizes in
    let p = value * rest + later.0 in
    let fits : value < size = below 0 (omega arith) in
    let in_packets : p < rest * size = mul-add-lt value rest later.0 size fits later.1 in
    let first : field_of (size ∷ sizes) p 0 ≡ value =
    field_of-zero size sizes p
    ∙ ap (λ (n : ℕ). n % size) (div-mul-add value rest later.0 later.1)
    ∙ mod-eq_of_lt fits in
    let others : (k : ℕ) → k < length sizes → field_of (size ∷ sizes) p (suc k) ≡ get_or values k 0 =
    λ (k : ℕ) (h : k < length sizes).
    field_of-suc size sizes p k
    ∙ later_fields_agree sizes p later.0 0 k tail h (omega arith)
    (mod-mul-add value rest later.0 later.1 ∙ sym (mod-eq_of_lt later.1))
    ∙ later.2 k h in
    (p, subst (λ (n : ℕ). p < n) (mul_comm rest size) in_packets, all_fields size sizes value values p first others)

-- ---- the packet with a field replaced

replaced_field : (sizes : List ℕ) (q k x high : ℕ) → q / weight sizes k ≡ high * get_or sizes k 0 + x →
    x < get_or sizes k 0 → field_of sizes q k ≡ x
unfolding field_of
replaced_field sizes q k x high digits fits =
    ap (λ (n : ℕ). n % get_or sizes k 0) digits ∙ mod-mul-add high (get_or sizes k 0) x fits

lt_or_gt : (j k : ℕ) → j ≢ k → (j < k) ⊎ (k < j)
lt_or_gt j k differ = grind arith

-- a packet in three parts: the fields before k, field k, and the fields after it
pub packet_in_parts : (sizes : List ℕ) (p k : ℕ) → EachPositive sizes → k < length sizes →
    p ≡ p / product (drop k sizes) * product (drop k sizes) + (field_of sizes p k * weight sizes k + p % weight sizes k)
unfolding field_of
packet_in_parts sizes p k all h =
    let size = get_or sizes k 0 in
    let step = weight sizes k in
    let lower : p % product (drop k sizes) ≡ p / step % size * step + p % step =
    ap (λ (n : ℕ). p % n) (product-drop sizes k h)
    ∙ mod-mul p (all.positive k h) (rest_positive sizes (k + 1) all) in
    sym (div-add-mod' p (product (drop k sizes)))
    ∙ ap (λ (n : ℕ). p / product (drop k sizes) * product (drop k sizes) + n) lower

-- the parts of p with x in place of field k make the packet that is p with that field replaced
pub replaced_parts : (sizes : List ℕ) (p k x q : ℕ) → EachPositive sizes → p < product sizes → k < length sizes →
    x < get_or sizes k 0 →
    q ≡ p / product (drop k sizes) * product (drop k sizes) + (x * weight sizes k + p % weight sizes k) →
    IsWith sizes p k x q
replaced_parts sizes p k x q all packet h fits parts =
    let size = get_or sizes k 0 in
    let step = weight sizes k in
    let whole = product (drop k sizes) in
    let high = p / whole in
    let low = p % step in
    let step_pos : 0 < step = rest_positive sizes (k + 1) all in
    let whole_pos : 0 < whole = rest_positive sizes k all in
    let whole_is : whole ≡ size * step = product-drop sizes k h in
    let low_fits : low < step = mod-lt p step_pos in
    let middle_fits : x * step + low < whole =
    subst (λ (n : ℕ). x * step + low < n) (mul_comm step size ∙ sym whole_is)
    (mul-add-lt x step low size fits low_fits) in
    let by_step : q ≡ (high * size + x) * step + low =
    parts ∙ ap (λ (n : ℕ). high * n + (x * step + low)) whole_is ∙ omega arith in
    let quotient : q / whole ≡ high =
    ap (λ (n : ℕ). n / whole) parts ∙ div-mul-add high whole (x * step + low) middle_fits in
    let remainder : q % step ≡ low =
    ap (λ (n : ℕ). n % step) by_step ∙ mod-mul-add (high * size + x) step low low_fits in
    let digits : q / step ≡ high * size + x =
    ap (λ (n : ℕ). n / step) by_step ∙ div-mul-add (high * size + x) step low low_fits in
    let all_multiple = multiple_of_rest sizes k in
    let high_fits : high < all_multiple.0 =
    div_below p whole all_multiple.0 whole_pos
    (subst (λ (n : ℕ). p < n) (all_multiple.1 ∙ mul_comm whole all_multiple.0) packet) in
    record {
      below = subst (λ (n : ℕ). n < product sizes) (sym parts)
          (subst (λ (n : ℕ). high * whole + (x * step + low) < n) (sym all_multiple.1)
          (mul-add-lt high whole (x * step + low) all_multiple.0 high_fits middle_fits));
      changed = replaced_field sizes q k x high digits fits;
      others = λ j hj differ. elim (lt_or_gt j k differ) [
        | inl before ↦ earlier_fields_agree sizes q p k j before quotient
        | inr after ↦ later_fields_agree sizes q p (k + 1) j all hj (omega (arith, after)) remainder
      ];
    }

-- ---- the loops over the sizes

-- what was multiplied so far, times the product of the others, is the product of all
pub multiplied_more : (sizes : List ℕ) (i total : ℕ) → i < length sizes →
    total * product (drop i sizes) ≡ product sizes →
    total * get_or sizes i 0 * product (drop (i + 1) sizes) ≡ product sizes
multiplied_more sizes i total h so_far =
    mul_assoc total (get_or sizes i 0) (product (drop (i + 1) sizes))
    ∙ ap (λ (n : ℕ). total * n) (sym (product-drop sizes i h)) ∙ so_far

pub multiplied_all : (sizes : List ℕ) (i total : ℕ) → length sizes ≤ i →
    total * product (drop i sizes) ≡ product sizes → total ≡ product sizes
multiplied_all sizes i total h so_far =
    let none : product (drop i sizes) ≡ 1 = ap product (drop_all i sizes h) in
    omega (arith, sym (ap (λ (n : ℕ). total * n) none) ∙ so_far)

-- a part of a product is at most the whole
pub part_within : (sizes : List ℕ) (i total : ℕ) → EachPositive sizes →
    total * product (drop i sizes) ≡ product sizes → total ≤ product sizes
part_within sizes i total all so_far =
    subst (λ (n : ℕ). total ≤ n) so_far (le-mul_of_pos_right total (rest_positive sizes i all))

-- a step from within the limit by a size stays far below 2 ^ 32
pub step_fits : (total size : ℕ) → total ≤ 65536 → size ≤ 256 → total * size ≤ 16777216
step_fits total size h1 h2 = omega (arith, mul-le-mul_right size h1, mul-le-mul_left 65536 h2)

pos_of_product : (n a m : ℕ) → 0 < n → n ≡ a * m → 0 < m
pos_of_product n a zero h same = absurd (omega (arith, h, same, mul_comm a 0))
pos_of_product n a (suc m) h same = omega arith

-- the product from the next place on is at most the whole, and so is that with one size more
pub rest_within : (sizes : List ℕ) (n : ℕ) → EachPositive sizes → product (drop n sizes) ≤ product sizes
rest_within sizes n all =
    let multiple = multiple_of_rest sizes n in
    let some : 0 < multiple.0 =
    pos_of_product (product sizes) (product (drop n sizes)) multiple.0 (product_positive sizes all) multiple.1 in
    subst (λ (m : ℕ). product (drop n sizes) ≤ m) (sym multiple.1) (le-mul_of_pos_right (product (drop n sizes)) some)

pub block_within : (sizes : List ℕ) (k : ℕ) → EachPositive sizes → k < length sizes →
    get_or sizes k 0 * weight sizes k ≤ product sizes
block_within sizes k all h =
    subst (λ (m : ℕ). m ≤ product sizes) (product-drop sizes k h) (rest_within sizes k all)

-- more than the limit so far is more than the limit in the end
pub over_limit : (sizes : List ℕ) (i total : ℕ) → EachPositive sizes → 65536 < total →
    total * product (drop i sizes) ≡ product sizes → 65536 < product sizes
over_limit sizes i total all over so_far = omega (arith, part_within sizes i total all so_far)

-- a slice from one place on is the rest of the list
pub whole_rest : (sizes : List ℕ) (n : ℕ) → take (length sizes - n) (drop n sizes) ≡ drop n sizes
whole_rest sizes n =
    ap (λ (m : ℕ). take m (drop n sizes)) (sym (length-drop n sizes)) ∙ take-length (drop n sizes)
