-- Facts in range, numbered in their order.
use Rattle.std.specs.Prelude.{ℕ, ◌+◌, ◌*◌, ◌<◌, take, sum_by}
use Rattle.net_plan.specs.declared.plan.Plan.{Plan}
use Rattle.net_plan.specs.declared.fact.Fact.{Fact}
use Rattle.net_plan.specs.declared.fact.Fact.TheVariants.{Out, State, Abort}
use Rattle.net_plan.specs.Plan.{packets_of, boxes_of, box_at, masks_of}
use Rattle.net_plan.specs.Ends.{ends_of}

-- the numbers of the fact are in range
abbrev pub IsInRange : Plan → Fact → Type 0
IsInRange plan (Out end packet) = (end < ends_of plan) × (packet < packets_of plan)
IsInRange plan (State box packet mask) =
    (box < boxes_of plan) × (packet < packets_of plan) × (mask < masks_of plan (box_at plan box))
IsInRange plan (Abort box packet) = (box < boxes_of plan) × (packet < packets_of plan)

-- how many masks the boxes before this one have
abbrev pub masks_before : Plan → ℕ → ℕ
masks_before plan box = sum_by (masks_of plan) (take box plan.boxes)

-- how many masks all boxes have
abbrev pub all_masks : Plan → ℕ
all_masks plan = sum_by (masks_of plan) plan.boxes

-- the number of a fact: `packets` cells for each end, for each mask of each box, and for each box; those of one box and
-- one
-- packet stand together
abbrev pub cell_of : Plan → Fact → ℕ
cell_of plan (Out end packet) = end * packets_of plan + packet
cell_of plan (State box packet mask) =
    packets_of plan * (ends_of plan + masks_before plan box) + (packet * masks_of plan (box_at plan box) + mask)
cell_of plan (Abort box packet) = packets_of plan * (ends_of plan + all_masks plan) + (box * packets_of plan + packet)

-- how many cells there are
abbrev pub cells_of : Plan → ℕ
cells_of plan = packets_of plan * (ends_of plan + sum_by (λ box. masks_of plan box + 1) plan.boxes)
