-- What a fire needs: long lists, much room, and laws.
use Rattle.std.specs.Prelude.{◌≡◌, ℕ, ◌≤◌, length}
use Rattle.std.specs.Vec.{vec_capacity}
use Rattle.header_set.specs.Laws.{FieldsAreBelowSizes, FieldsDeterminePacket}
use Rattle.box_contents.specs.Laws.{HeldIsMember, HeldWith, HeldWithout, WithKeepsRising, WithoutKeepsRising}
use Rattle.box_handlers.specs.Laws.{QueriesHoldAllAsked, FilledHasSameTuple, QueriesFit}
use Rattle.box_executions.specs.Laws.{OutcomeIsInRange}
use Rattle.abstract_step.specs.declared.trail.Trail.{Trail}
use Rattle.abstract_step.specs.declared.found.Found.{Found}
use Rattle.abstract_step.specs.Found.{AreWithin}

-- the lists of a trail are long enough for any handler
pub record HasLists (trail : Trail) : Type 0 where
  pub frames : length trail.frames ≡ 2049
  pub slots : length trail.slots ≡ 2049
  pub writes : length trail.writes ≡ 2049
  pub puts : length trail.puts ≡ 2049

-- there is room for the results of any handler
pub record IsSpacious (found : Found) : Type 0 where
  pub within : AreWithin found
  pub endings : 1024 ≤ vec_capacity found.endings
  pub writes : 1048576 ≤ vec_capacity found.writes
  pub puts : 1048576 ≤ vec_capacity found.puts

-- and there is room for so many tuples
pub record IsPrepared (tuples : ℕ) (trail : Trail) : Type 0 where
  pub tuples_room : 12 ≤ tuples
  pub lists : HasLists trail

-- the laws of lower layers
pub record AreLaws : Type 0 where
  pub below : FieldsAreBelowSizes
  pub once : FieldsDeterminePacket
  pub held : HeldIsMember
  pub held_with : HeldWith
  pub held_without : HeldWithout
  pub with_rising : WithKeepsRising
  pub without_rising : WithoutKeepsRising
  pub asked : QueriesHoldAllAsked
  pub filled : FilledHasSameTuple
  pub queries : QueriesFit
  pub ranges : OutcomeIsInRange
