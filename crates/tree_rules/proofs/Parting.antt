-- Two ways to part one list at a member: at the same place, or one of them within the front of the other.
use Rattle.std.proofs.Common.{◌≡◌, List, [], ◌∷◌, ◌++◌, refl, sym, ◌⊎◌}
use mathlib.Core.Logic.{inl, inr}

-- the lists are parted at one place, at equal members
pub record AtOnePlace {A : Type 0} (front : List A) (x : A) (other : List A) (y : A) : Type 0 where
  pub fronts : front ≡ other
  pub members : x ≡ y

-- the first front reaches, with its member, into the second one
abbrev pub Within : {A : Type 0} → List A → A → List A → Type 0
Within {A} front x other = (rest : List A) × (other ≡ front ++ x ∷ rest)

abbrev pub Parted : {A : Type 0} → List A → A → List A → A → Type 0
Parted front x other y = AtOnePlace front x other y ⊎ (Within front x other ⊎ Within other y front)

begun : {A : Type 0} (u v x : A) (front other : List A) → u ≡ v → Within front x other →
    Within (u ∷ front) x (v ∷ other)
begun u v x front other same within = (within.0, λ i. sym same i ∷ within.1 i)

deeper : {A : Type 0} (u v x y : A) (front other : List A) → u ≡ v → Parted front x other y →
    Parted (u ∷ front) x (v ∷ other) y
deeper u v x y front other same parted =
    elim parted [
      | inl here ↦ inl (record { fronts = λ i. same i ∷ here.fronts i; members = here.members })
      | inr apart ↦ inr (elim apart [
        | inl first ↦ inl (begun u v x front other same first)
        | inr second ↦ inr (begun v u y other front (sym same) second)
      ])
    ]

pub parting : {A : Type 0} (front : List A) (x : A) (rest other : List A) (y : A) (others : List A) →
    front ++ x ∷ rest ≡ other ++ y ∷ others → Parted front x other y
parting [] x rest [] y others e = inl (record { fronts = refl; members = cc })
parting [] x rest (v ∷ other) y others e =
    let same : v ≡ x = cc in inr (inl (other, λ i. same i ∷ other))
parting (u ∷ front) x rest [] y others e =
    let same : u ≡ y = cc in inr (inr (front, λ i. same i ∷ front))
parting (u ∷ front) x rest (v ∷ other) y others e =
    let same : u ≡ v = cc in
    let tail : front ++ x ∷ rest ≡ other ++ y ∷ others = cc in
    deeper u v x y front other same (parting front x rest other y others tail)

-- where the one is parted at its last member, the other one can't reach further
pub parting_last : {A : Type 0} (front : List A) (x : A) (other : List A) (y : A) (others : List A) →
    front ++ x ∷ [] ≡ other ++ y ∷ others → AtOnePlace front x other y ⊎ Within other y front
parting_last [] x [] y others e = inl (record { fronts = refl; members = cc })
parting_last [] x (v ∷ []) y others e = absurd (cc)
parting_last [] x (v ∷ w ∷ other) y others e = absurd (cc)
parting_last (u ∷ front) x [] y others e =
    let same : u ≡ y = cc in inr (front, λ i. same i ∷ front)
parting_last (u ∷ front) x (v ∷ other) y others e =
    let same : u ≡ v = cc in
    let tail : front ++ x ∷ [] ≡ other ++ y ∷ others = cc in
    elim (parting_last front x other y others tail) [
      | inl here ↦ inl (record { fronts = λ i. same i ∷ here.fronts i; members = here.members })
      | inr second ↦ inr (begun v u y other front (sym same) second)
    ]
