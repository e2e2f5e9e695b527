-- The product of the sizes of the fields, as far as 64 bits hold it.
use Rattle.std.proofs.Common.{◌≡◌, ℕ, suc, zero, ◌+◌, ◌*◌, ◌<◌, ◌≤◌, true, false, nat_lt, List, [], ◌∷◌, ◌++◌}
use Rattle.std.proofs.Common.{Option, Some, None, length, drop, get_or, refl, sym, ap, ◌∙◌, append-nil, arith, inl, inr}
use Rattle.std.specs.List.{cons_option}
use Rattle.std.specs.Option.{option_map, unwrap_or}
use Rattle.std.proofs.lemmas.List.{drop_all}
use Rattle.std.proofs.lemmas.List.Elements.{filter_map-append}
use Rattle.std.proofs.lemmas.Bool.Decides.{leb_tells}
use Rattle.std.proofs.Math.Nat.{mul-zero, mul-suc, mul_assoc}
use Rattle.header_set.specs.Headers.{product}
use Rattle.amdl_tree.specs.declared.tree.Item.{Item}
use Rattle.amdl_tree.specs.declared.tree.Item.TheVariants.{Field}
use Rattle.amdl_tree.specs.Items.{FieldItem, kind_item, field_item, kind_items, field_items}
use Rattle.tree_plan.specs.Names.{joined, all_some, values_named}
use Rattle.tree_plan.proofs.StepLemmas.{next_part}
use Rattle.tree_rules.specs.Rules.{passes, sizes_of, header_too_large}
use Rattle.item_rules.specs.Found.{capped, factor_with, product_with}

-- a capped factor changes nothing of a capped product
capped_mul : (a r : ℕ) → capped (capped a * r) ≡ capped (a * r)
capped_mul a zero = ap capped (mul-zero (capped a) ∙ sym (mul-zero a))
capped_mul a (suc r) =
    elim (leb_tells a 18446744073709551615) [
      | inl (tested, low) ↦ ap (λ n. capped (n * suc r)) (omega (arith, low))
      | inr (tested, high) ↦
          let one = mul-suc (capped a) r in
          let two = mul-suc a r in
          omega (arith, high, one, two)
    ]

over_capped : (n : ℕ) → nat_lt 65536 (capped n) ≡ nat_lt 65536 n
over_capped n =
    elim (leb_tells n 18446744073709551615) [
      | inl (tested, low) ↦ ap (nat_lt 65536) (omega (arith, low))
      | inr (tested, high) ↦
          over (capped n) (omega (arith, high)) ∙ sym (over n (omega (arith, high)))
    ]
  where
    over : (m : ℕ) → 65536 < m → nat_lt 65536 m ≡ true
    over m large =
        elim (leb_tells 65537 m) [
          | inl (tested, above) ↦ tested
          | inr (tested, below) ↦ absurd (omega (arith, large, below))
        ]

-- the loop over the fields
once : (all : Option ℕ) → option_map capped all ≡ option_map (λ rest. capped (1 * rest)) all
once None = refl
once (Some n) = ap (λ m. Some (capped m)) (omega arith)

module _ (before : List Item) where
  abbrev pub total : Option ℕ
  total = option_map capped (product_with before before)

  abbrev pub ahead : ℕ → List Item → Option ℕ
  ahead packets items = option_map (λ rest. capped (packets * rest)) (product_with before items)

  pub begun : total ≡ ahead 1 before
  begun = once (product_with before before)

  here_is : (i : ℕ) (item : Item) (packets : ℕ) → i < length before → item ≡ get_or before i item →
      total ≡ ahead packets (drop i before) → (factor : Option ℕ) → factor ≡ factor_with before (field_item item) →
      total
      ≡ option_map (λ rest. capped (packets * rest))
      (joined (λ size sizes. size * sizes) factor (product_with before (drop (i + 1) before)))
  here_is i item packets inside here so_far factor is =
      so_far ∙ ap (ahead packets) (next_part before i item inside here)
      ∙ ap (λ found. option_map (λ rest. capped (packets * rest))
      (joined (λ size sizes. size * sizes) found (product_with before (drop (i + 1) before)))) (sym is)

  grown : (packets size new : ℕ) → new ≡ capped (packets * size) → (rest : Option ℕ) →
      option_map (λ r. capped (packets * r)) (joined (λ size sizes. size * sizes) (Some size) rest)
      ≡ option_map (λ r. capped (new * r)) rest
  grown packets size new is None = refl
  grown packets size new is (Some r) =
      ap Some (ap capped (sym (mul_assoc packets size r)) ∙ sym (capped_mul (packets * size) r)
      ∙ ap (λ n. capped (n * r)) (sym is))

  pub more : (i : ℕ) (item : Item) (packets size new : ℕ) → i < length before → item ≡ get_or before i item →
      total ≡ ahead packets (drop i before) → Some size ≡ factor_with before (field_item item) →
      new ≡ capped (packets * size) → total ≡ ahead new (drop (i + 1) before)
  more i item packets size new inside here so_far is multiplied =
      here_is i item packets inside here so_far (Some size) is
      ∙ grown packets size new multiplied (product_with before (drop (i + 1) before))

  pub lost : (i : ℕ) (item : Item) (packets : ℕ) → i < length before → item ≡ get_or before i item →
      total ≡ ahead packets (drop i before) → None ≡ factor_with before (field_item item) → None ≡ total
  lost i item packets inside here so_far is = sym (here_is i item packets inside here so_far None is)

  pub came : (i packets : ℕ) → length before ≤ i → total ≡ ahead packets (drop i before) →
      packets ≤ 18446744073709551615 → Some packets ≡ total
  came i packets past so_far low =
      sym (so_far ∙ ap (ahead packets) (drop_all i before past) ∙ ap Some (omega (arith, low)))

-- the product over the items is that of the sizes
product_more : (size : Option ℕ) (sizes : Option (List ℕ)) (rest : Option ℕ) → option_map product sizes ≡ rest →
    option_map product (joined (λ y ys. y ∷ ys) size sizes) ≡ joined (λ x y. x * y) size rest
product_more None sizes rest is = refl
product_more (Some s) None rest is = ap (joined (λ x y. x * y) (Some s)) is
product_more (Some s) (Some sizes) rest is = ap (joined (λ x y. x * y) (Some s)) is

times_one : (rest : Option ℕ) → rest ≡ joined (λ x y. x * y) (Some 1) rest
times_one None = refl
times_one (Some n) = ap Some (omega arith)

module _ (before : List Item) where
  abbrev size_in : FieldItem → Option ℕ
  size_in field = values_named (kind_items before) field.kind

  one_more : (field : Option FieldItem) (fields : List FieldItem) (rest : Option ℕ) →
      option_map product (all_some size_in fields) ≡ rest →
      option_map product (all_some size_in (cons_option field fields))
      ≡ joined (λ x y. x * y) (factor_with before field) rest
  one_more None fields rest is = is ∙ times_one rest
  one_more (Some field) fields rest is = product_more (size_in field) (all_some size_in fields) rest is

  product_is : (items : List Item) →
      option_map product (all_some size_in (field_items items)) ≡ product_with before items
  product_is [] = refl
  product_is (item ∷ items) =
      one_more (field_item item) (field_items items) (product_with before items) (product_is items)

-- one size more behind the others
abbrev with_last : {B : Type 0} → Option (List B) → Option B → Option (List B)
with_last front last = joined (λ ys y. ys ++ y ∷ []) front last

last_more : {B : Type 0} (one : Option B) (front : Option (List B)) (last : Option B) →
    joined (λ y ys. y ∷ ys) one (with_last front last) ≡ with_last (joined (λ y ys. y ∷ ys) one front) last
last_more None front last = refl
last_more (Some y) None last = refl
last_more (Some y) (Some ys) None = refl
last_more (Some y) (Some ys) (Some z) = refl

alone : {B : Type 0} (last : Option B) → joined (λ y ys. y ∷ ys) last (Some []) ≡ with_last (Some []) last
alone None = refl
alone (Some y) = refl

all_last : {A B : Type 0} (f : A → Option B) (xs : List A) (x : A) →
    all_some f (xs ++ x ∷ []) ≡ with_last (all_some f xs) (f x)
all_last f [] x = alone (f x)
all_last f (y ∷ xs) x =
    ap (joined (λ y ys. y ∷ ys) (f y)) (all_last f xs x) ∙ last_more (f y) (all_some f xs) (f x)

product_last : (sizes : List ℕ) (size : ℕ) → product (sizes ++ size ∷ []) ≡ product sizes * size
product_last [] size = omega arith
product_last (s ∷ sizes) size = ap (λ n. s * n) (product_last sizes size) ∙ sym (mul_assoc s (product sizes) size)

module _ (before : List Item) (name kind : List ℕ) where
  abbrev this : FieldItem
  this = record { name = name; kind = kind }

  with_this : sizes_of (before ++ Field name kind ∷ [])
      ≡ with_last (sizes_of before) (values_named (kind_items before) kind)
  with_this =
      (λ k. all_some (λ field. values_named (kinds k) field.kind)
      (filter_map-append field_item before (Field name kind ∷ []) k))
      ∙ all_last (size_in before) (field_items before) this
    where
      kinds : kind_items (before ++ Field name kind ∷ []) ≡ kind_items before
      kinds = filter_map-append kind_item before (Field name kind ∷ []) ∙ append-nil (kind_items before)

  is_large : header_too_large before (Field name kind)
      ≡ passes (λ sizes. nat_lt 65536 (product sizes))
      (with_last (sizes_of before) (values_named (kind_items before) kind))
  is_large = ap (passes (λ sizes. nat_lt 65536 (product sizes))) with_this

  no_type : (front : Option (List ℕ)) → passes (λ sizes. nat_lt 65536 (product sizes)) (with_last front None) ≡ false
  no_type None = refl
  no_type (Some sizes) = refl

  pub type_unknown : None ≡ values_named (kind_items before) kind → false ≡ header_too_large before (Field name kind)
  type_unknown is =
      sym (is_large ∙ ap (λ last. passes (λ sizes. nat_lt 65536 (product sizes)) (with_last (sizes_of before) last))
      (sym is) ∙ no_type (sizes_of before))

  sizes_are : (found : Option ℕ) → found ≡ option_map capped (product_with before before) →
      found ≡ option_map capped (option_map product (sizes_of before))
  sizes_are found is = is ∙ ap (option_map capped) (sym (product_is before before))

  no_product : (front : Option (List ℕ)) (last : Option ℕ) → None ≡ option_map capped (option_map product front) →
      passes (λ sizes. nat_lt 65536 (product sizes)) (with_last front last) ≡ false
  no_product None last is = refl
  no_product (Some sizes) last is = absurd (cc)

  pub product_unknown : None ≡ option_map capped (product_with before before) →
      false ≡ header_too_large before (Field name kind)
  product_unknown is =
      sym (is_large ∙ no_product (sizes_of before) (values_named (kind_items before) kind) (sizes_are None is))

  all_known : (front : Option (List ℕ)) (packets size : ℕ) →
      Some packets ≡ option_map capped (option_map product front) →
      nat_lt 65536 (capped (packets * size))
      ≡ passes (λ sizes. nat_lt 65536 (product sizes)) (with_last front (Some size))
  all_known None packets size is = absurd (cc)
  all_known (Some sizes) packets size is =
      ap (λ n. nat_lt 65536 (capped (n * size))) (ap (λ found. unwrap_or found 0) is)
      ∙ ap (nat_lt 65536) (capped_mul (product sizes) size) ∙ over_capped (product sizes * size)
      ∙ ap (nat_lt 65536) (sym (product_last sizes size))

  pub large : (packets size all : ℕ) → Some size ≡ values_named (kind_items before) kind →
      Some packets ≡ option_map capped (product_with before before) → all ≡ capped (packets * size) →
      nat_lt 65536 all ≡ header_too_large before (Field name kind)
  large packets size all is_size is_packets multiplied =
      ap (nat_lt 65536) multiplied ∙ all_known (sizes_of before) packets size (sizes_are (Some packets) is_packets)
      ∙ ap (λ last. passes (λ sizes. nat_lt 65536 (product sizes)) (with_last (sizes_of before) last)) is_size
      ∙ sym is_large
