-- What `==` says of names and equations.
use Rattle.std.proofs.Common.{◌≡◌, ℕ, Bool, true, ◌&&◌, List, nat_eq}
use Rattle.std.specs.Cmp.Lexicographic.{pointwise, pointwise_decides, bytes_decides}
use Rattle.std.proofs.lemmas.Bool.{and_parts}
use Rattle.amdl_tree.specs.declared.tree.Equal.{Equal}

pub names_decide : (name other : List ℕ) →
    (pointwise nat_eq name other ≡ true → name ≡ other) × (name ≡ other → pointwise nat_eq name other ≡ true)
names_decide = bytes_decides

-- the test of two equations
abbrev pub equal_test : Equal → Equal → Bool
equal_test x y = pointwise nat_eq x.field y.field && pointwise nat_eq x.value y.value

both_true : (a b : Bool) → a ≡ true → b ≡ true → (a && b) ≡ true
both_true a b p q = rw p q

pub equals_decide : (x y : Equal) → (equal_test x y ≡ true → x ≡ y) × (x ≡ y → equal_test x y ≡ true)
equals_decide x y = (
  (λ e.
      let parts = and_parts (pointwise nat_eq x.field y.field) (pointwise nat_eq x.value y.value) e in
      let field = (names_decide x.field y.field).0 parts.0 in
      let value = (names_decide x.value y.value).0 parts.1 in
      (λ i. record { field = field i; value = value i })),
  (λ e. both_true (pointwise nat_eq x.field y.field) (pointwise nat_eq x.value y.value)
      ((names_decide x.field y.field).1 (λ i. (e i).field)) ((names_decide x.value y.value).1 (λ i. (e i).value))),
)

pub patterns_decide : (xs ys : List Equal) →
    (pointwise equal_test xs ys ≡ true → xs ≡ ys) × (xs ≡ ys → pointwise equal_test xs ys ≡ true)
patterns_decide = pointwise_decides equals_decide
