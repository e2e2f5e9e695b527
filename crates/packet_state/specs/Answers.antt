-- What the contents of a box answer to the queries of its class at a packet, as one number.
use Rattle.std.specs.Prelude.{ℕ, ◌+◌, ◌*◌, Bool, true, false, List, [], ◌∷◌, map}
use Rattle.box_contents.specs.declared.entry.Entry.{Entry}
use Rattle.box_contents.specs.Contents.{holds_entry}
use Rattle.box_handlers.specs.declared.act.Query.{Query}
use Rattle.box_executions.specs.Environment.{Environment, entry_in}
use Rattle.net_plan.specs.declared.plan.Plan.{Plan}
use Rattle.net_plan.specs.declared.plan.ClassPlan.{ClassPlan}
use Rattle.net_plan.specs.Plan.{box_at, class_of}
use Rattle.net_runs.specs.World.{environment_of}

-- the class of a box by its number
abbrev pub class_of_box : Plan → ℕ → ClassPlan
class_of_box plan box = class_of plan (box_at plan box)

-- the number with these bits, the lowest first
abbrev pub mask_of : List Bool → ℕ
mask_of [] = 0
mask_of (true ∷ bits) = 1 + 2 * mask_of bits
mask_of (false ∷ bits) = 2 * mask_of bits

-- whether the contents have the tuple that the query has in the environment
abbrev pub answer_in : Environment → List Entry → Query → Bool
answer_in env contents query = holds_entry contents (entry_in env query)

-- the mask whose bits are the answers to these queries, in their order
abbrev pub answers_in : Environment → List Query → List Entry → ℕ
answers_in env queries contents = mask_of (map (answer_in env contents) queries)

-- the answers of contents of the box at the packet
abbrev pub answers : Plan → ℕ → ℕ → List Entry → ℕ
answers plan box packet contents =
    answers_in (environment_of plan (class_of_box plan box) packet) (class_of_box plan box).queries contents
