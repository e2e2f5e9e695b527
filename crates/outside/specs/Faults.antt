-- A count of faults: a number that never falls and that stays once it has reached 2 ^ 64 - 1.
use Rattle.std.specs.Prelude.{◌≡◌, ℕ, ◌+◌, ◌-◌, ◌^◌, ◌<◌, ◌≤◌, ◌↔◌, ◌⊎◌, min}

-- the count after one more fault
abbrev pub one_more : ℕ → ℕ
one_more count = min (count + 1) (2 ^ 64 - 1)

-- the count is greater now than it was before, or it stands at 2 ^ 64 - 1
abbrev pub Rose : ℕ → ℕ → Type 0
Rose before now = one_more before ≤ now

-- of counts up to 2 ^ 64 - 1 one rose exactly where it is greater than before or stands there
abbrev pub RisesOrStands : Type 0
RisesOrStands =
    (before now : ℕ) → now ≤ 2 ^ 64 - 1 → Rose before now ↔ ((before < now) ⊎ (now ≡ 2 ^ 64 - 1))

-- a count that rose in an earlier call and doesn't fall has risen
abbrev pub RiseLasts : Type 0
RiseLasts = (before between now : ℕ) → Rose before between → between ≤ now → Rose before now
