-- What is told of the events of steps, a line for each step, and which of them are bad.
use Rattle.std.specs.Prelude.{ℕ, ◌+◌, ◌<◌, Bool, true, false, if◌then◌else◌, nat_eq, List, [], ◌∷◌, ◌++◌, length, codes}
use Rattle.std.specs.Prelude.{Option, Some, None, count_by, decimal, ⊤}
use Rattle.std.specs.List.{list_all, list_any, range_with_len}
use Rattle.header_set.specs.Headers.{field_of}
use Rattle.header_set.specs.Pattern.{fixed_at}
use Rattle.amdl_tree.specs.Layout.{line}
use Rattle.net_plan.specs.declared.plan.Plan.{Plan}
use Rattle.net_plan.specs.Plan.{host_at, sizes_of, packets_of, boxes_of}
use Rattle.net_runs.specs.declared.world.Event.{Event}
use Rattle.net_runs.specs.declared.world.Event.TheVariants.{Moved, Delivered, Aborted}
use Rattle.plan_text.specs.Text.{text_of_box}

-- a field has the value that a pattern fixes for it, if the pattern fixes one
abbrev pub has_fixed : Option ℕ → ℕ → Bool
has_fixed None value = true
has_fixed (Some fixed) value = nat_eq value fixed

-- the packet has each value that the pattern fixes
abbrev pub fits_pattern : List ℕ → ℕ → List (Option ℕ) → Bool
fits_pattern sizes packet pattern =
    list_all (λ k. has_fixed (fixed_at pattern k) (field_of sizes packet k)) (range_with_len 0 (length sizes))

-- the host forbids the packet
unfoldable pub is_forbidden : Plan → ℕ → ℕ → Bool
is_forbidden plan host packet = list_any (fits_pattern (sizes_of plan) packet) (host_at plan host).forbids

-- the event is bad: an abort, or the delivery of a packet to a host that forbids it
abbrev pub is_bad : Plan → Event → Bool
is_bad plan Moved = false
is_bad plan (Delivered host packet) = is_forbidden plan host packet
is_bad plan (Aborted box packet) = true

-- the host, the box and the packet of an event that names them are in range
abbrev pub IsEventInRange : Plan → Event → Type 0
IsEventInRange plan Moved = ⊤
IsEventInRange plan (Delivered host packet) = (host < length plan.hosts) × (packet < packets_of plan)
IsEventInRange plan (Aborted box packet) = (box < boxes_of plan) × (packet < packets_of plan)

-- what is told of a delivery that is forbidden
abbrev pub forbidden_text : Bool → List ℕ
forbidden_text forbidden = if forbidden then codes " forbidden" else []

-- the line on step k, by its event
abbrev pub line_of_event : Plan → ℕ → Event → List ℕ
line_of_event plan k Moved = line (decimal k ++ codes " moved")
line_of_event plan k (Delivered host packet) =
    line
    (decimal k ++ codes " delivered " ++ (host_at plan host).name ++ codes " " ++ decimal packet
    ++ forbidden_text (is_forbidden plan host packet))
line_of_event plan k (Aborted box packet) =
    line (decimal k ++ codes " aborted " ++ text_of_box plan box ++ codes " " ++ decimal packet)

-- a line on each step, the first of which has number k
abbrev pub lines_from : Plan → ℕ → List Event → List ℕ
lines_from plan k [] = []
lines_from plan k (event ∷ events) = line_of_event plan k event ++ lines_from plan (k + 1) events

-- steps are counted from 0
abbrev pub lines_of : Plan → List Event → List ℕ
lines_of plan events = lines_from plan 0 events

-- how many of the events are bad
abbrev pub bad_of : Plan → List Event → ℕ
bad_of plan events = count_by (is_bad plan) events

-- the last line: how many steps there are, and how many bad events
abbrev pub end_line : ℕ → ℕ → List ℕ
end_line steps bad = line (codes "end steps " ++ decimal steps ++ codes " bad " ++ decimal bad)

-- what is told of a run with these events
abbrev pub replay_text : Plan → List Event → List ℕ
replay_text plan events = lines_of plan events ++ end_line (length events) (bad_of plan events)
