-- What a load that gave no text comes to, and what loads come to in a longer call.
use Rattle.std.proofs.Common.{◌≡◌, ℕ, ◌+◌, ◌-◌, ◌^◌, ◌≤◌, List, [], ◌∷◌, ◌∙◌, arith}
use Rattle.std.proofs.Math.Nat.{le-min, min-le_left, min-le_right}
use Rattle.outside.specs.Faults.{Rose, one_more}
use Rattle.amdl_app.specs.Answer.{AfterNetwork}
use Rattle.amdl_app.specs.Command.{Input}
use Rattle.amdl_app.specs.Loaded.{Loaded, Found, Over, Lacking, Failed, MayCome, EachComes}
use Rattle.amdl_app.specs.Replaying.{AfterSchedule}
use Rattle.amdl_app.specs.Reply.{Reply}
use Rattle.amdl_app.specs.Seen.{FilesSeen}

-- where no text can have been found, what would be replied to one doesn't matter
pub after_stop : (name : List ℕ) (goes_on : List ℕ → List Loaded → Reply → Type 0) (loads : List Loaded)
    (reply : Reply) →
    AfterNetwork name (λ text others reply. ⊥) loads reply → AfterNetwork name goes_on loads reply
after_stop name goes_on [] reply p = absurd p
after_stop name goes_on (Found text ∷ others) reply p = absurd p
after_stop name goes_on (Over ∷ others) reply p = p
after_stop name goes_on (Lacking ∷ others) reply p = p
after_stop name goes_on (Failed ∷ others) reply p = p

-- nor do the loads behind it
pub alone : (name : List ℕ) (loaded : Loaded) (others : List Loaded) (reply : Reply) →
    AfterNetwork name (λ text others reply. ⊥) (loaded ∷ []) reply →
    AfterNetwork name (λ text others reply. ⊥) (loaded ∷ others) reply
alone name (Found text) others reply p = absurd p
alone name Over others reply p = p
alone name Lacking others reply p = p
alone name Failed others reply p = p

pub after_schedule_stop : (name : List ℕ) (goes_on : List ℕ → Reply → Type 0) (loads : List Loaded) (reply : Reply) →
    AfterSchedule name (λ text reply. ⊥) loads reply → AfterSchedule name goes_on loads reply
after_schedule_stop name goes_on [] reply p = absurd p
after_schedule_stop name goes_on (Found text ∷ others) reply p = absurd p
after_schedule_stop name goes_on (Over ∷ others) reply p = p
after_schedule_stop name goes_on (Lacking ∷ others) reply p = p
after_schedule_stop name goes_on (Failed ∷ others) reply p = p

-- a rise of a count in a part of a call is one in the call
rose_after : (a b c : ℕ) → b ≤ c → Rose a b → Rose a c
rose_after a b c later rose = let step : one_more a ≤ b = rose in omega (arith, step, later)

rose_before : (a b c : ℕ) → a ≤ b → Rose b c → Rose a c
rose_before a b c later rose =
    let step : one_more b ≤ c = rose in
    let left : one_more a ≤ a + 1 = min-le_left (a + 1) (2 ^ 64 - 1) in
    let right : one_more a ≤ 2 ^ 64 - 1 = min-le_right (a + 1) (2 ^ 64 - 1) in
    let grows : a + 1 ≤ b + 1 = omega (arith, later) in
    let first : one_more a ≤ b + 1 = omega (arith, left, grows) in
    let both : one_more a ≤ one_more b = le-min first right in
    omega (arith, both, step)

-- what a load comes to in the first part of a call, and in the last, it comes to in the call
pub come_first : (before mid after : FilesSeen) → mid.faults ≤ after.faults → (input : Input) (loaded : Loaded) →
    MayCome before mid input loaded → MayCome before after input loaded
come_first before mid after later input (Found text) may = may
come_first before mid after later input Over may = may
come_first before mid after later input Lacking may = record {
  absent = may.absent;
  untold = λ none. rose_after before.faults mid.faults after.faults later (may.untold none);
}
come_first before mid after later input Failed may = rose_after before.faults mid.faults after.faults later may

pub come_last : (before mid after : FilesSeen) → mid.told ≡ before.told → before.faults ≤ mid.faults →
    (input : Input) (loaded : Loaded) → MayCome mid after input loaded → MayCome before after input loaded
come_last before mid after same later input (Found text) may = (may.0, λ files is. may.1 files (same ∙ is))
come_last before mid after same later input Over may = λ files is. may files (same ∙ is)
come_last before mid after same later input Lacking may = record {
  absent = λ files is. may.absent files (same ∙ is);
  untold = λ none. rose_before before.faults mid.faults after.faults later (may.untold (same ∙ none));
}
come_last before mid after same later input Failed may = rose_before before.faults mid.faults after.faults later may

pub each_last : (before mid after : FilesSeen) → mid.told ≡ before.told → before.faults ≤ mid.faults →
    (inputs : List Input) (loads : List Loaded) → EachComes (MayCome mid after) inputs loads →
    EachComes (MayCome before after) inputs loads
each_last before mid after same later [] [] each = tt
each_last before mid after same later (input ∷ inputs) [] each = absurd each
each_last before mid after same later [] (loaded ∷ loads) each = absurd each
each_last before mid after same later (input ∷ inputs) (loaded ∷ loads) each = (
  come_last before mid after same later input loaded each.0,
  each_last before mid after same later inputs loads each.1,
)
