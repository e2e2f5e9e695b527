-- Why moves are noted, and what a table of them says of the work.
use Rattle.std.specs.Prelude.{◌≡◌, ℕ, ◌⊎◌, Bool, false, List, [], ◌∷◌}
use Rattle.std.specs.List.{Contains}
use Rattle.fix_engine.specs.Progress.{Progress}
use Rattle.net_plan.specs.declared.plan.Plan.{Plan}
use Rattle.net_plan.specs.declared.fact.Fact.{Fact}
use Rattle.net_plan.specs.declared.fact.Fact.TheVariants.{Out, State, Abort}
use Rattle.packet_state.specs.Follows.{Follows}
use Rattle.box_moves.specs.Moves.{IsKept, HasMove}
use Rattle.abstract_step.specs.Step.{Result}
use Rattle.move_table.specs.Offered.{IsDone}
use Rattle.move_table.specs.Moves.{Move, IsOne, Has, before_of, after_of, AreFollowed, Patches}
use Rattle.packet_domain.specs.Reasons.{LeadsTo, AsChanged}

-- from a result

-- it goes on, and its writes make the move
abbrev pub ResultMoves : Plan → ℕ → ℕ → ℕ → Result → Move → Type 0
ResultMoves plan box packet mask result move =
    (result.aborted ≡ false) × Patches plan box packet mask result.writes move

abbrev pub SomeMoves : Plan → ℕ → ℕ → ℕ → List Result → Move → Type 0
SomeMoves plan box packet mask results move =
    (result : Result) × Contains results result × ResultMoves plan box packet mask result move

-- from facts that are done

-- by a delivery
abbrev pub MovesBy : Plan → ℕ → ℕ → ℕ → ℕ → Move → Type 0
MovesBy plan end packet box mask move =
    Follows plan (Out end packet ∷ State box packet mask ∷ before_of move ∷ []) (after_of move)

abbrev pub MovesFrom : Plan → List ℕ → ℕ → ℕ → ℕ → ℕ → Move → Type 0
MovesFrom plan done end packet box mask move =
    IsDone plan done (Out end packet) × MovesBy plan end packet box mask move

abbrev pub MovesTo : Plan → List ℕ → ℕ → ℕ → ℕ → Move → Type 0
MovesTo plan done end packet box move =
    (mask : ℕ) × IsDone plan done (State box packet mask) × MovesBy plan end packet box mask move

abbrev pub MovesAsOut : Plan → List ℕ → ℕ → ℕ → Move → Type 0
MovesAsOut plan done end packet move = (box : ℕ) × MovesTo plan done end packet box move

abbrev pub MovesAsState : Plan → List ℕ → ℕ → ℕ → ℕ → Move → Type 0
MovesAsState plan done box packet mask move = (end : ℕ) × MovesFrom plan done end packet box mask move

abbrev pub MovesAsStateAt : Plan → List ℕ → ℕ → ℕ → ℕ → ℕ → Move → Type 0
MovesAsStateAt plan done box packet mask port move =
    (end : ℕ) × LeadsTo plan end box port × MovesFrom plan done end packet box mask move

abbrev pub MovesAs : Plan → List ℕ → Fact → Move → Type 0
MovesAs plan done (Out end packet) move = MovesAsOut plan done end packet move
MovesAs plan done (State box packet mask) move = MovesAsState plan done box packet mask move
MovesAs plan done (Abort box packet) move = ⊥

-- the fact is what a noted move makes of these answers
abbrev pub IsMoved : Plan → List (List Bool) → ℕ → ℕ → ℕ → Fact → Type 0
IsMoved plan moves box packet mask fact =
    (other : ℕ) × HasMove plan moves box packet mask other × (fact ≡ State box packet other)

-- the table has exactly the moves that deliveries of facts that are done make, in the boxes that are kept, and what they
-- make of facts that are done is found
pub record Tracks (plan : Plan) (moves : List (List Bool)) (progress : Progress) : Type 0 where
  pub complete : (move : Move) → IsKept plan move.box → IsOne plan move →
      AsChanged plan progress.done move.box move.packet move.mask (after_of move) →
      Has plan moves move ⊎ (move.mask ≡ move.other)
  pub sound : (move : Move) → Has plan moves move →
      AsChanged plan progress.done move.box move.packet move.mask (after_of move)
  pub closed : AreFollowed plan moves progress

-- by a noted move where the box is kept, and by any delivery elsewhere
abbrev pub ChangesAs : Plan → List (List Bool) → List ℕ → ℕ → ℕ → ℕ → Fact → Type 0
ChangesAs plan moves done box packet mask fact =
    (IsKept plan box × IsMoved plan moves box packet mask fact)
    ⊎ (¬ (IsKept plan box) × AsChanged plan done box packet mask fact)
