-- Which masks of a box may become which at a packet, as the marks of one set a box.
use Rattle.std.specs.Prelude.{◌≡◌, ℕ, ◌+◌, ◌*◌, ◌^◌, ◌<◌, ◌≤◌, nat_le, if◌then◌else◌, Bool, List, [], length, slice_index_or}
use Rattle.cell_sets.specs.Marks.{HasCell}
use Rattle.net_plan.specs.declared.plan.Plan.{Plan}
use Rattle.net_plan.specs.Plan.{packets_of, boxes_of, box_at, masks_of}

-- how many masks a box has, by its number
abbrev pub masks_at : Plan → ℕ → ℕ
masks_at plan box = masks_of plan (box_at plan box)

-- how many moves there can be in a box: from each mask to each at each packet
abbrev pub moves_of : Plan → ℕ → ℕ
moves_of plan box = packets_of plan * masks_at plan box * masks_at plan box

-- the number of a move among those of a box with so many masks
abbrev pub move_number : ℕ → ℕ → ℕ → ℕ → ℕ
move_number masks packet mask other = (packet * masks + mask) * masks + other

-- how many there were if each box had so many
abbrev pub moves_over : Plan → ℕ → ℕ
moves_over plan box = moves_of plan box * boxes_of plan

-- a box is kept where these are few
abbrev pub IsKept : Plan → ℕ → Type 0
IsKept plan box = moves_over plan box ≤ 2 ^ 31

-- the marks of the set of a box
abbrev pub marks_at : List (List Bool) → ℕ → List Bool
marks_at sets box = slice_index_or sets box []

-- how many cells the set of a box has: one for each move where the box is kept, and none elsewhere
abbrev pub cells_of : Plan → ℕ → ℕ
cells_of plan box = if nat_le (moves_over plan box) (2 ^ 31) then moves_of plan box else 0

-- there is one set a box, with its cells
pub record IsSized (plan : Plan) (sets : List (List Bool)) : Type 0 where
  pub boxes : length sets ≡ boxes_of plan
  pub cells : (box : ℕ) → box < boxes_of plan → length (marks_at sets box) ≡ cells_of plan box

-- the numbers are those of a box, a packet and two masks
pub record IsMove (plan : Plan) (box packet mask other : ℕ) : Type 0 where
  pub boxed : box < boxes_of plan
  pub packet_is : packet < packets_of plan
  pub mask_is : mask < masks_at plan box
  pub other_is : other < masks_at plan box

-- the move from the one mask to the other was noted
pub record HasMove (plan : Plan) (sets : List (List Bool)) (box packet mask other : ℕ) : Type 0 where
  pub is_move : IsMove plan box packet mask other
  pub marked : HasCell (marks_at sets box) (move_number (masks_at plan box) packet mask other)

-- no move was noted to a mask from the one up to the other, without that one
abbrev pub HasNoMoveFrom : Plan → List (List Bool) → ℕ → ℕ → ℕ → ℕ → ℕ → Type 0
HasNoMoveFrom plan sets box packet mask from to =
    (other : ℕ) → from ≤ other → other < to → ¬ (HasMove plan sets box packet mask other)

-- the sets have as many cells as before, and the first of them no marks
pub record AreCleared (first : ℕ) (old new : List (List Bool)) : Type 0 where
  pub sets : length new ≡ length old
  pub cells : (box : ℕ) → length (marks_at new box) ≡ length (marks_at old box)
  pub none : (box cell : ℕ) → box < first → ¬ (HasCell (marks_at new box) cell)
