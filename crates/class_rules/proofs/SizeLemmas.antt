-- How many tuples a relation has.
use Rattle.std.proofs.Common.{◌≡◌, ℕ, ◌+◌, ◌*◌, ◌-◌, ◌^◌, ◌<◌, ◌≤◌, Bool, true, false, ◌||◌, List, [], ◌∷◌, ◌++◌}
use Rattle.std.proofs.Common.{length, take, drop, get_or, min, sym, ap, ◌∙◌}
use Rattle.std.specs.List.{list_any}
use Rattle.std.proofs.lemmas.List.{take_more, take_all, drop_all}
use Rattle.std.proofs.Math.Nat.{one-mul, mul-one, mul_assoc}
use Rattle.header_set.specs.Headers.{product}
use Rattle.amdl_tree.specs.declared.tree.Item.TheVariants.{Class as OfClass}
use Rattle.tree_plan.specs.Tables.{kinds_back}
use Rattle.tree_plan.proofs.StepLemmas.{next_part}
use Rattle.tree_rules.specs.Rules.{relation_too_large}
use Rattle.handler_sizes.specs.Capped.{capped}
use Rattle.handler_sizes.proofs.CapLemmas.{mul_by}
use Rattle.class_rules.specs.declared.read.ReadClass.{ReadClass}
use Rattle.class_rules.specs.ByTables.{too_large}
use Rattle.class_rules.specs.Reads.{IsRead}

product_push : (sizes : List ℕ) (size : ℕ) → product (sizes ++ size ∷ []) ≡ product sizes * size
product_push [] size = mul-one size ∙ sym (one-mul size)
product_push (x ∷ sizes) size = ap (λ n. x * n) (product_push sizes size) ∙ sym (mul_assoc x (product sizes) size)

-- one size more
pub tuples_more : (sizes : List ℕ) (i size tuples : ℕ) → i < length sizes → size ≡ get_or sizes i 0 →
    tuples ≡ capped (product (take i sizes)) →
    min (tuples * size) (2 ^ 64 - 1) ≡ capped (product (take (i + 1) sizes))
tuples_more sizes i size tuples inside here so_far =
    ap (λ n. min (n * size) (2 ^ 64 - 1)) so_far
    ∙ mul_by (2 ^ 64 - 1) (product (take i sizes)) size
    ∙ ap capped (sym (product_push (take i sizes) size))
    ∙ ap (λ s. capped (product (take i sizes ++ s ∷ []))) here
    ∙ ap (λ s. capped (product s)) (sym (take_more sizes i 0 inside))

pub tuples_all : (sizes : List ℕ) (i tuples : ℕ) → length sizes ≤ i → tuples ≡ capped (product (take i sizes)) →
    tuples ≡ capped (product sizes)
tuples_all sizes i tuples all so_far = so_far ∙ ap (λ s. capped (product s)) (take_all i sizes all)

-- one of a list passes
module _ {A : Type 0} (t : A → Bool) (xs : List A) where
  next : (i : ℕ) (x : A) → i < length xs → x ≡ get_or xs i x →
      list_any t (drop i xs) ≡ t x || list_any t (drop (i + 1) xs)
  next i x inside here = ap (list_any t) (next_part xs i x inside here)

  pub large_here : (i : ℕ) (x : A) (passed : Bool) → i < length xs → x ≡ get_or xs i x →
      list_any t xs ≡ list_any t (drop i xs) → passed ≡ t x → passed ≡ true → true ≡ list_any t xs
  large_here i x passed inside here so_far is e =
      sym (so_far ∙ next i x inside here ∙ ap (λ b. b || list_any t (drop (i + 1) xs)) (sym is ∙ e))

  pub large_later : (i : ℕ) (x : A) (passed : Bool) → i < length xs → x ≡ get_or xs i x →
      list_any t xs ≡ list_any t (drop i xs) → passed ≡ t x → passed ≡ false →
      list_any t xs ≡ list_any t (drop (i + 1) xs)
  large_later i x passed inside here so_far is e =
      so_far ∙ next i x inside here ∙ ap (λ b. b || list_any t (drop (i + 1) xs)) (sym is ∙ e)

  pub large_nowhere : (i : ℕ) → length xs ≤ i → list_any t xs ≡ list_any t (drop i xs) → false ≡ list_any t xs
  large_nowhere i all so_far = sym (so_far ∙ ap (list_any t) (drop_all i xs all))

pub sizes_are : (read : ReadClass) → IsRead read → (found : Bool) →
    found ≡ list_any (too_large (kinds_back read.tables.now.kinds.now)) read.class.now.relations →
    found ≡ relation_too_large read.before.now (OfClass read.class.now)
sizes_are read is_read found is =
    is ∙ ap (λ known. list_any (too_large known.kinds) read.class.now.relations) is_read.known
