-- How steps of a network are written: one step per line, with names for numbers.
use Rattle.std.specs.Prelude.{◌<◌, ℕ, List, [], ◌∷◌, ◌++◌, Option, Some, None, codes, decimal, map, length, slice_get}
use Rattle.std.specs.List.{flat_map, All}
use Rattle.amdl_tree.specs.declared.tree.End.{End}
use Rattle.amdl_tree.specs.declared.tree.End.TheVariants.{Host as AtHost, Port as AtPort}
use Rattle.net_plan.specs.declared.plan.Plan.{Plan}
use Rattle.net_plan.specs.declared.fact.Place.{Place}
use Rattle.net_plan.specs.declared.fact.Place.TheVariants as places
use Rattle.net_plan.specs.Plan.{packets_of, boxes_of, host_at, box_at, port_name_at}
use Rattle.net_plan.specs.Ends.{places_of, ends_of}
use Rattle.net_runs.specs.declared.world.Step.{Step}
use Rattle.net_runs.specs.declared.world.Step.TheVariants.{Send, Deliver, Revert}
use Rattle.plan_text.specs.Text.{text_of_end, text_of_box}
use Rattle.schedule_text.specs.declared.steps.ScheduleStep.{ScheduleStep}
use Rattle.schedule_text.specs.declared.steps.ScheduleStep.TheVariants as named

-- the numbers of a step are in range, and a choice has at most 9 digits
abbrev pub IsChoice : ℕ → Type 0
IsChoice choice = choice < 1000000000

abbrev pub IsWritable : Plan → Step → Type 0
IsWritable plan (Send host packet) = (host < length plan.hosts) × (packet < packets_of plan)
IsWritable plan (Deliver end packet choices) =
    (end < ends_of plan) × (packet < packets_of plan) × All IsChoice choices
IsWritable plan (Revert box) = box < boxes_of plan

-- the end of a line
abbrev pub line_end : List ℕ
line_end = codes ";" ++ 10 ∷ []

-- a further choice
abbrev pub further_text : ℕ → List ℕ
further_text choice = codes ", " ++ decimal choice

-- without choices the brackets are left out
abbrev pub text_of_choices : List ℕ → List ℕ
text_of_choices [] = []
text_of_choices (choice ∷ choices) = codes " [" ++ decimal choice ++ flat_map further_text choices ++ codes "]"

-- a delivery behind its end
abbrev pub text_behind_end : ℕ → List ℕ → List ℕ
text_behind_end packet choices = codes " " ++ decimal packet ++ text_of_choices choices ++ line_end

-- a step with the end of its line
abbrev pub line_of_step : Plan → Step → List ℕ
line_of_step plan (Send host packet) =
    codes "send " ++ (host_at plan host).name ++ codes " " ++ decimal packet ++ line_end
line_of_step plan (Deliver end packet choices) =
    codes "deliver " ++ text_of_end plan end ++ text_behind_end packet choices
line_of_step plan (Revert box) = codes "revert " ++ text_of_box plan box ++ line_end

abbrev pub text_of_steps : Plan → List Step → List ℕ
text_of_steps plan = flat_map (line_of_step plan)

-- the names of a place, and of an end; where there is no such end, there is no name
abbrev pub end_at_place : Plan → Option Place → End
end_at_place plan None = AtHost []
end_at_place plan (Some (places.Host host)) = AtHost (host_at plan host).name
end_at_place plan (Some (places.Port box port)) =
    AtPort (box_at plan box).name (port_name_at plan (box_at plan box) port)

abbrev pub named_end : Plan → ℕ → End
named_end plan end = end_at_place plan (slice_get (places_of plan) end)

-- the step by its names
abbrev pub named_step : Plan → Step → ScheduleStep
named_step plan (Send host packet) = named.Send (host_at plan host).name packet
named_step plan (Deliver end packet choices) = named.Deliver (named_end plan end) packet choices
named_step plan (Revert box) = named.Revert (box_at plan box).name

abbrev pub named_steps : Plan → List Step → List ScheduleStep
named_steps plan = map (named_step plan)
