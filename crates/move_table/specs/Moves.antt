-- Moves from one mask of a box to another at a packet, why they are noted, and what a table of them says of the work.
use Rattle.std.specs.Prelude.{◌≡◌, ℕ, ◌⊎◌, Bool, List}
use Rattle.std.specs.List.{Contains}
use Rattle.box_contents.specs.declared.entry.Entry.{Entry}
use Rattle.fix_engine.specs.Progress.{Progress, found_in}
use Rattle.net_plan.specs.declared.plan.Plan.{Plan}
use Rattle.net_plan.specs.declared.fact.Fact.{Fact}
use Rattle.net_plan.specs.declared.fact.Fact.TheVariants.{State}
use Rattle.net_plan.specs.Cells.{cell_of}
use Rattle.packet_state.specs.Answers.{answers}
use Rattle.box_masks.specs.declared.write.Write.{Write}
use Rattle.box_masks.specs.Writes.{AreShown, after_writes}
use Rattle.box_moves.specs.Moves.{IsKept, IsSized, IsMove, HasMove}
use Rattle.move_table.specs.Offered.{Offered, IsDone}

pub record Move : Type 0 where
  pub box : ℕ
  pub packet : ℕ
  pub mask : ℕ
  pub other : ℕ

abbrev pub before_of : Move → Fact
before_of move = State move.box move.packet move.mask

abbrev pub after_of : Move → Fact
after_of move = State move.box move.packet move.other

-- the numbers are those of a box, a packet and two masks, and the move was noted
abbrev pub IsOne : Plan → Move → Type 0
IsOne plan move = IsMove plan move.box move.packet move.mask move.other

abbrev pub Has : Plan → List (List Bool) → Move → Type 0
Has plan moves move = HasMove plan moves move.box move.packet move.mask move.other

-- in the boxes that are kept, exactly the moves of which P holds were noted, where they change a mask
pub record Adds (plan : Plan) (P : Move → Type 0) (old new : List (List Bool)) : Type 0 where
  pub sized : IsSized plan new
  pub stays : (move : Move) → Has plan old move → Has plan new move
  pub all : (move : Move) → IsKept plan move.box → IsOne plan move → P move →
      Has plan new move ⊎ (move.mask ≡ move.other)
  pub only : (move : Move) → Has plan new move → Has plan old move ⊎ P move

-- the fact is what a move of which P holds makes of a fact that is done
abbrev pub Moved : Plan → (Move → Type 0) → List ℕ → Fact → Type 0
Moved plan P done fact =
    (move : Move) × IsOne plan move × IsDone plan done (before_of move) × P move × (fact ≡ after_of move)

-- the moves of which P holds were noted, and what they make of facts that are done was offered
pub record Noted (plan : Plan) (P : Move → Type 0) (old_moves new_moves : List (List Bool))
    (old_work new_work : Progress) : Type 0 where
  pub adds : Adds plan P old_moves new_moves
  pub offered : Offered plan (Moved plan P old_work.done) old_work new_work

-- what the noted moves make of facts that are done is found
abbrev pub AreFollowed : Plan → List (List Bool) → Progress → Type 0
AreFollowed plan moves progress =
    (move : Move) → Has plan moves move → IsDone plan progress.done (before_of move) →
    Contains (found_in progress) (cell_of plan (after_of move))

-- contents that answer with `before` at the packet answer with `after` at it, once the writes are done
abbrev pub IsPatch : Plan → ℕ → List Write → ℕ → ℕ → ℕ → Type 0
IsPatch plan box writes packet before after =
    (contents : List Entry) → answers plan box packet contents ≡ before →
    answers plan box packet (after_writes contents writes) ≡ after

-- some contents of the box answer so at the packet that was fired and before the move, and all that answer so before it
-- answer so after it, once the writes are done
pub record Patches (plan : Plan) (box packet mask : ℕ) (writes : List Write) (move : Move) : Type 0 where
  pub boxed : move.box ≡ box
  pub shown : AreShown plan box packet mask move.packet move.mask
  pub patched : IsPatch plan box writes move.packet move.mask move.other

-- a plan, and the moves that are remembered
pub record Memory : Type 0 where
  pub plan : Plan
  pub moves : List (List Bool)
