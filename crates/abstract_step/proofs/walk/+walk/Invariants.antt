use Rattle.std.proofs.Common.{◌≡◌, ◌+◌, ◌*◌, ◌-◌, ◌||◌, ◌∷◌, drop}
use Rattle.box_handlers.specs.Body.{body_of, branches_of}
use Rattle.box_handlers.specs.Size.{statements_of, statements_of_branches}
use Rattle.handler_runs.specs.Reading.{any_holds}
use Rattle.abstract_step.specs.Masks.{marked}
use Rattle.abstract_step.specs.Walk.{HasFound, size_of_frames, scene_at, picked_at, chosen_at, values_from}
use Rattle.abstract_step.proofs.walk.+walk.Given as goal

abbrev pub decreases-block : goal.decreases-block
decreases-block l =
    5 * (size_of_frames l.trail.now.frames l.spot.now.top + 2 * statements_of (body_of l.acts.now)) + 2

abbrev pub decreases-statement : goal.decreases-statement
decreases-statement l =
    5 * (size_of_frames l.trail.now.frames l.spot.now.top + 2 * statements_of (body_of (l.act.now ∷ l.more.now))) + 1

abbrev pub decreases-go_on : goal.decreases-go_on
decreases-go_on l = 5 * size_of_frames l.trail.now.frames l.spot.now.top

abbrev pub decreases-change : goal.decreases-change
decreases-change l =
    5 * (size_of_frames l.trail.now.frames l.spot.now.top + 2 * statements_of (body_of l.more.now)) + 3

abbrev pub decreases-output : goal.decreases-output
decreases-output l =
    5 * (size_of_frames l.trail.now.frames l.spot.now.top + 2 * statements_of (body_of l.more.now)) + 3

abbrev pub decreases-choice : goal.decreases-choice
decreases-choice l =
    5 * (size_of_frames l.trail.now.frames l.spot.now.top
    + 2 * (statements_of_branches (branches_of l.branches.now) + statements_of (body_of l.more.now))) + 10

abbrev pub decreases-last_choice : goal.decreases-last_choice
decreases-last_choice l =
    5 * (size_of_frames l.trail.now.frames l.spot.now.top
    + 2 * statements_of_branches (branches_of l.branches.now)) + 5

abbrev pub decreases-alternatives : goal.decreases-alternatives
decreases-alternatives l =
    5 * (size_of_frames l.trail.now.frames l.spot.now.top
    + 2 * statements_of_branches (branches_of l.branches.now)) + 4

abbrev pub decreases-alternative : goal.decreases-alternative
decreases-alternative l =
    5 * (size_of_frames l.trail.now.frames l.spot.now.top + 2 * statements_of (body_of l.branch.now.body)) + 3

abbrev pub decreases-pick : goal.decreases-pick
decreases-pick l =
    5 * (size_of_frames l.trail.now.frames l.spot.now.top
    + 2 * (statements_of (body_of l.body.now) + statements_of (body_of l.more.now))) + 10

abbrev pub decreases-each_value : goal.decreases-each_value
decreases-each_value l =
    5 * (size_of_frames l.trail.now.frames l.spot.now.top + 2 * statements_of (body_of l.body.now)) + 4

abbrev pub decreases-with_value : goal.decreases-with_value
decreases-with_value l =
    5 * (size_of_frames l.trail.now.frames l.spot.now.top + 2 * statements_of (body_of l.body.now)) + 3

-- the branches so far are gone through
abbrev pub invariant-alternatives-loop-branch : goal.invariant-alternatives-loop-branch
invariant-alternatives-loop-branch l =
    (l.trail ≡ l.fn.trail)
    × HasFound l.fn.found l.found (chosen_at l.place l.fn.trail l.spot (branches_of l.branches))
    (chosen_at l.place l.fn.trail l.spot (branches_of (drop l.branch-index l.branches)))
    × (any_holds (scene_at l.place (picked_at l.fn.trail l.spot)) (marked l.place.tuples.now l.spot.mask)
    (branches_of l.branches)
    ≡ (l.taken || any_holds (scene_at l.place (picked_at l.fn.trail l.spot)) (marked l.place.tuples.now l.spot.mask)
    (branches_of (drop l.branch-index l.branches))))

-- the values so far are gone through
abbrev pub invariant-each_value-loop-value : goal.invariant-each_value-loop-value
invariant-each_value-loop-value l =
    (l.trail ≡ l.fn.trail)
    × HasFound l.fn.found l.found (values_from l.place l.fn.trail l.spot (body_of l.body) 0 l.values)
    (values_from l.place l.fn.trail l.spot (body_of l.body) l.value (l.values - l.value))
