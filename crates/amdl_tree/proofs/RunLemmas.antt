-- The bytes at the front of a text that pass a test.
use Rattle.std.proofs.Common.{◌≡◌, ◌≤◌, ◌<◌, ℕ, Bool, true, false, List, [], ◌∷◌, ◌++◌, length, take, drop, refl, arith}
use Rattle.std.proofs.Common.{one-add, inl, inr}
use Rattle.std.specs.List.{list_all, prefix_len}
use Rattle.std.proofs.lemmas.Bool.{and_parts, cases_Bool}

-- what stands behind them: nothing, or a byte that fails
abbrev pub StopsRun : (ℕ → Bool) → List ℕ → Type 0
StopsRun p [] = Unit {0}
StopsRun p (byte ∷ bytes) = p byte ≡ false

pub run_passes : (p : ℕ → Bool) (xs : List ℕ) → list_all p (take (prefix_len p xs) xs) ≡ true
run_passes p [] = refl
run_passes p (x ∷ xs) =
    elim (cases_Bool (p x)) [
      | inl passes ↦ rw (passes, one-add) (rw passes (run_passes p xs))
      | inr fails ↦ rw fails refl
    ]

pub run_stops : (p : ℕ → Bool) (xs : List ℕ) → StopsRun p (drop (prefix_len p xs) xs)
run_stops p [] = tt
run_stops p (x ∷ xs) =
    elim (cases_Bool (p x)) [
      | inl passes ↦ rw (passes, one-add) (run_stops p xs)
      | inr fails ↦ rw fails fails
    ]

-- a run that stops is as long as each front that passes
pub front_le : (p : ℕ → Bool) (bytes after other behind : List ℕ) → StopsRun p after → list_all p other ≡ true →
    bytes ++ after ≡ other ++ behind → length other ≤ length bytes
front_le p bytes after [] behind stops all e = omega arith
front_le p [] [] (o ∷ other) behind stops all e = absurd (cc)
front_le p [] (a ∷ after) (o ∷ other) behind stops all e =
    let parts = and_parts (p o) (list_all p other) all in
    let same : a ≡ o = cc in
    absurd (cc)
front_le p (b ∷ bytes) after (o ∷ other) behind stops all e =
    let parts = and_parts (p o) (list_all p other) all in
    let rest : bytes ++ after ≡ other ++ behind = cc in
    omega (arith, front_le p bytes after other behind stops parts.1 rest)

-- fronts of one length are one
pub fronts_alike : (a x b y : List ℕ) → a ++ x ≡ b ++ y → length a ≡ length b → (a ≡ b) × (x ≡ y)
fronts_alike [] x [] y e size = (refl, e)
fronts_alike [] x (c ∷ b) y e size = absurd (omega arith)
fronts_alike (c ∷ a) x [] y e size = absurd (omega arith)
fronts_alike (c ∷ a) x (d ∷ b) y e size =
    let tail : a ++ x ≡ b ++ y = cc in
    let rest = fronts_alike a x b y tail (omega arith) in
    (cc, rest.1)

-- the first byte, and 0 where there is none
abbrev pub first : List ℕ → ℕ
first [] = 0
first (byte ∷ bytes) = byte

pub firsts_alike : (a x b y : List ℕ) → 0 < length a → 0 < length b → a ++ x ≡ b ++ y → first a ≡ first b
firsts_alike [] x b y p q e = absurd (omega arith)
firsts_alike (c ∷ a) x [] y p q e = absurd (omega arith)
firsts_alike (c ∷ a) x (d ∷ b) y p q e = cc
