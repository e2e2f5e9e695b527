use Rattle.std.proofs.Common.{rules, arith, ◌≡◌, ℕ, ◌+◌, ◌-◌, ◌∷◌, ◌++◌, [], length, List, refl, sym}
use Rattle.std.proofs.Common.{ap, subst, ◌∙◌, Some}
use Rattle.std.proofs.lemmas.List.{length-set}
use Rattle.std.proofs.lemmas.Option.{slice_get-get_or}
use Rattle.box_handlers.specs.declared.act.Act.{Act}
use Rattle.box_handlers.specs.Body.{Fork, body_of, branches_of, formula_of}
use Rattle.box_handlers.specs.Size.{statements_of, statements_of_branches}
use Rattle.abstract_step.specs.declared.trail.Frame.{Frame}
use Rattle.abstract_step.specs.declared.trail.Trail.{Trail}
use Rattle.abstract_step.specs.Walk.{Stands, StandsWithin, FitsAt, FormulaFitsAt, HasRoom, Gains, CanWalk, size_of_frames}
use Rattle.handler_runs.specs.Reading.{holds_by}
use Rattle.abstract_step.specs.Masks.{marked}
use Rattle.abstract_step.specs.Walk.{scene_at, picked_at, behind_at, so_far, paths_at, branch_at, value_at}
use Rattle.abstract_step.proofs.FoundLemmas.{room_for, some_more}
use Rattle.abstract_step.proofs.WalkLemmas.{behind_top, size_pushed, stands_pushed, inside_frames, stands_less}
use Rattle.abstract_step.proofs.WalkLemmas.{fits_each, inside_slots, picked_more, stands_picked, value_is}
use Rattle.abstract_step.proofs.WalkLemmas.{branch_small, chosen_next, branch_goes, taken_next, values_next}
use Rattle.abstract_step.proofs.WalkLemmas.{frames_back, slots_back, writes_back, puts_back, read_insert}
use Rattle.abstract_step.proofs.WalkLemmas.{read_remove, read_output, read_abort, read_choose, read_pick, can_read}
use Rattle.abstract_step.proofs.WalkLemmas.{gains_read, choice_room, pick_room, choice_rest, choice_taken, choice_not}
use Rattle.abstract_step.proofs.WalkLemmas.{values_same, top_small}
use Rattle.abstract_step.proofs.WalkLemmas.{none_left, last_room, last_rest, last_taken, last_not}
use Rattle.abstract_step.proofs.walk.+walk.Goals as goal

-- a statement

pub statement-change-requires : goal.statement-change-requires
statement-change-requires t c =
    let e = read_insert c.args.act.now c.in-Insert.query c.args.more.now c.in-Insert.is in
    let s : statements_of (body_of (c.args.act.now ∷ c.args.more.now)) ≡ 1 + statements_of (body_of c.args.more.now) =
    ap statements_of e in
    (omega (arith, s, c.decreases), can_read _ _ _ _ _ _ e c.requires)

pub statement-change-requires-in-Remove : goal.statement-change-requires-in-Remove
statement-change-requires-in-Remove t c =
    let e = read_remove c.args.act.now c.in-Remove.query c.args.more.now c.in-Remove.is in
    let s : statements_of (body_of (c.args.act.now ∷ c.args.more.now)) ≡ 1 + statements_of (body_of c.args.more.now) =
    ap statements_of e in
    (omega (arith, s, c.decreases), can_read _ _ _ _ _ _ e c.requires)

pub statement-output-requires : goal.statement-output-requires
statement-output-requires t c =
    let e =
    read_output c.args.act.now c.in-Output.port c.in-Output.changes c.as_slice.result.now c.args.more.now
    c.in-Output.is c.as_slice.ensures in
    let s : statements_of (body_of (c.args.act.now ∷ c.args.more.now)) ≡ 1 + statements_of (body_of c.args.more.now) =
    ap statements_of e in
    (omega (arith, s, c.decreases), can_read _ _ _ _ _ _ e c.requires)

pub statement-add_aborted-requires : goal.statement-add_aborted-requires
statement-add_aborted-requires t c =
    let e = read_abort c.args.act.now c.args.more.now c.in-Abort.is in
    (can_read c.args.place.now c.args.trail.now c.args.spot.now c.args.found.now _ _ e c.requires).room

pub statement-choice-requires : goal.statement-choice-requires
statement-choice-requires t c =
    let e =
    read_choose c.args.act.now c.in-Choose.branches c.as_slice-in-Choose.result.now c.args.more.now c.in-Choose.is
    c.as_slice-in-Choose.ensures in
    let s : statements_of (body_of (c.args.act.now ∷ c.args.more.now))
    ≡ 1 + statements_of_branches (branches_of c.as_slice-in-Choose.result.now)
    + statements_of (body_of c.args.more.now) =
    ap statements_of e in
    (omega (arith, s, c.decreases), can_read _ _ _ _ _ _ e c.requires)

pub statement-pick-requires : goal.statement-pick-requires
statement-pick-requires t c =
    let e =
    read_pick c.args.act.now c.in-Pick.values c.in-Pick.body c.as_slice-in-Pick.result.now c.args.more.now c.in-Pick.is
    c.as_slice-in-Pick.ensures in
    let s : statements_of (body_of (c.args.act.now ∷ c.args.more.now))
    ≡ 1 + statements_of (body_of c.as_slice-in-Pick.result.now) + statements_of (body_of c.args.more.now) =
    ap statements_of e in
    (omega (arith, s, c.decreases), can_read _ _ _ _ _ _ e c.requires)

pub statement-returns-in-Insert-clause-gains : goal.statement-returns-in-Insert-clause-gains
statement-returns-in-Insert-clause-gains t c =
    gains_read c.args.place.now c.args.trail.now c.args.spot.now _ _ _ _
    (read_insert c.args.act.now c.in-Insert.query c.args.more.now c.in-Insert.is) c.change.ensures.gains

pub statement-returns-in-Remove-clause-gains : goal.statement-returns-in-Remove-clause-gains
statement-returns-in-Remove-clause-gains t c =
    gains_read c.args.place.now c.args.trail.now c.args.spot.now _ _ _ _
    (read_remove c.args.act.now c.in-Remove.query c.args.more.now c.in-Remove.is) c.change-in-Remove.ensures.gains

pub statement-returns-in-Output-clause-gains : goal.statement-returns-in-Output-clause-gains
statement-returns-in-Output-clause-gains t c =
    gains_read c.args.place.now c.args.trail.now c.args.spot.now _ _ _ _
    (read_output c.args.act.now c.in-Output.port c.in-Output.changes c.as_slice.result.now c.args.more.now
    c.in-Output.is c.as_slice.ensures) c.output.ensures.gains

pub statement-returns-in-Abort-clause-gains : goal.statement-returns-in-Abort-clause-gains
statement-returns-in-Abort-clause-gains t c =
    gains_read c.args.place.now c.args.trail.now c.args.spot.now _ _ _ _
    (read_abort c.args.act.now c.args.more.now c.in-Abort.is) c.add_aborted.ensures

pub statement-returns-in-Choose-clause-gains : goal.statement-returns-in-Choose-clause-gains
statement-returns-in-Choose-clause-gains t c =
    gains_read c.args.place.now c.args.trail.now c.args.spot.now _ _ _ _
    (read_choose c.args.act.now c.in-Choose.branches c.as_slice-in-Choose.result.now c.args.more.now c.in-Choose.is
    c.as_slice-in-Choose.ensures) c.choice.ensures.gains

pub statement-returns-in-Pick-clause-gains : goal.statement-returns-in-Pick-clause-gains
statement-returns-in-Pick-clause-gains t c =
    gains_read c.args.place.now c.args.trail.now c.args.spot.now _ _ _ _
    (read_pick c.args.act.now c.in-Pick.values c.in-Pick.body c.as_slice-in-Pick.result.now c.args.more.now
    c.in-Pick.is c.as_slice-in-Pick.ensures) c.pick.ensures.gains

-- a write and a put

pub change-returns-clause-same : goal.change-returns-clause-same
change-returns-clause-same t c =
    writes_back c.args.trail.now c.block.new.trail c.args.spot.now.writes c.replace-kept.new.self c.replace.new.self
    _ c.replace-kept.result c.replace-kept.ensures.rest c.block.ensures.same c.replace-kept.ensures.item
    c.replace.ensures.rest

pub output-returns-clause-same : goal.output-returns-clause-same
output-returns-clause-same t c =
    puts_back c.args.trail.now c.block.new.trail c.args.spot.now.puts c.replace-kept.new.self c.replace.new.self
    _ c.replace-kept.result c.replace-kept.ensures.rest c.block.ensures.same c.replace-kept.ensures.item
    c.replace.ensures.rest

-- what stands behind

pub go_on-returns-else-spot-eq0-clause-gains : goal.go_on-returns-else-spot-eq0-clause-gains
go_on-returns-else-spot-eq0-clause-gains t c =
    let frames : List Frame = c.args.trail.now.frames in
    let top : ℕ = c.args.spot.now.top in
    let frame : Frame = c.index-as_slice-top.result in
    let small = c.requires.stands.small in
    let below = top_small frames top in
    let long = c.requires.stands.frames in
    subst (λ k. Gains c.args.found.now c.block.new.found (k (so_far c.args.trail.now c.args.spot.now)))
    (sym (behind_top c.args.place.now frames c.args.trail.now.slots top (top - 1) frame (search rules)
    (slice_get-get_or frames (top - 1) frame (omega (arith, small, below, long)) ∙ ap Some (sym (search rules)))))
    c.block.ensures.gains

-- a choice

pub choice-replace-kept-requires : goal.choice-replace-kept-requires
choice-replace-kept-requires t c =
    inside_frames c.args.place.now c.args.trail.now c.args.spot.now _ c.requires.stands

pub choice-overflow_add-inner : goal.choice-overflow_add-inner
choice-overflow_add-inner t c =
    let small = c.requires.stands.small in
    let top = top_small c.args.trail.now.frames c.args.spot.now.top in
    omega (arith, small, top)

pub choice-alternatives-taken-requires : goal.choice-alternatives-taken-requires
choice-alternatives-taken-requires t c =
    let frame : Frame = record { acts = c.args.more; depth = c.args.spot.now.depth } in
    let inside = inside_frames c.args.place.now c.args.trail.now c.args.spot.now _ c.requires.stands in
    let size =
    size_pushed c.args.place.now c.args.trail.now c.args.spot.now frame c.replace-kept.new.self
    c.replace-kept.ensures.rest inside in (
      omega (arith, size, c.decreases),
      (
        stands_pushed c.args.place.now c.args.trail.now c.args.spot.now frame c.replace-kept.new.self
            c.replace-kept.ensures.rest inside _ _ c.requires.stands refl
            (c.requires.fits.0, c.requires.fits.1, c.requires.fits.2.1) (omega arith),
        (
          (c.requires.fits.0, c.requires.fits.1, c.requires.fits.2.0),
          choice_room c.args.place.now c.args.trail.now c.args.spot.now frame c.replace-kept.new.self
              c.replace-kept.ensures.rest inside refl c.args.found.now (branches_of c.args.branches.now) c.requires,
        ),
      ),
    )

pub choice-replace-requires : goal.choice-replace-requires
choice-replace-requires t c =
    let inside = inside_frames c.args.place.now c.args.trail.now c.args.spot.now _ c.requires.stands in
    let long : length c.alternatives-taken.new.trail.frames ≡ length c.args.trail.now.frames =
    ap (λ (trail : Trail). length trail.frames) c.alternatives-taken.ensures.same
    ∙ ap length c.replace-kept.ensures.rest
    ∙ length-set c.args.trail.now.frames c.args.spot.now.top _ in
    omega (arith, inside, long)

pub choice-block-requires : goal.choice-block-requires
choice-block-requires t c =
    let frame : Frame = record { acts = c.args.more; depth = c.args.spot.now.depth } in
    let inside = inside_frames c.args.place.now c.args.trail.now c.args.spot.now _ c.requires.stands in
    let back =
    frames_back c.args.trail.now c.alternatives-taken.new.trail c.args.spot.now.top c.replace-kept.new.self
    c.replace.new.self frame c.replace-kept.result c.replace-kept.ensures.rest c.alternatives-taken.ensures.same
    c.replace-kept.ensures.item c.replace.ensures.rest in
    let size : size_of_frames c.replace.new.self c.args.spot.now.top
    ≡ size_of_frames c.args.trail.now.frames c.args.spot.now.top =
    ap (λ (trail : Trail). size_of_frames trail.frames c.args.spot.now.top) back in (
      omega (arith, size, c.decreases),
      subst (λ trail. CanWalk c.args.place.now trail c.args.spot.now c.alternatives-taken.new.found
          (body_of c.args.more.now)) (sym back)
          (choice_rest c.args.place.now c.args.trail.now c.args.spot.now frame c.replace-kept.new.self
          c.replace-kept.ensures.rest inside refl c.args.found.now (branches_of c.args.branches.now)
          c.alternatives-taken.new.found c.requires c.alternatives-taken.ensures.gains (search rules)),
    )

pub choice-returns-then-not-taken-clause-same : goal.choice-returns-then-not-taken-clause-same
choice-returns-then-not-taken-clause-same t c =
    c.block.ensures.same
    ∙ frames_back c.args.trail.now c.alternatives-taken.new.trail c.args.spot.now.top c.replace-kept.new.self
    c.replace.new.self _ c.replace-kept.result c.replace-kept.ensures.rest c.alternatives-taken.ensures.same
    c.replace-kept.ensures.item c.replace.ensures.rest

pub choice-returns-then-not-taken-clause-gains : goal.choice-returns-then-not-taken-clause-gains
choice-returns-then-not-taken-clause-gains t c =
    let frame : Frame = record { acts = c.args.more; depth = c.args.spot.now.depth } in
    let inside = inside_frames c.args.place.now c.args.trail.now c.args.spot.now _ c.requires.stands in
    let back =
    frames_back c.args.trail.now c.alternatives-taken.new.trail c.args.spot.now.top c.replace-kept.new.self
    c.replace.new.self frame c.replace-kept.result c.replace-kept.ensures.rest c.alternatives-taken.ensures.same
    c.replace-kept.ensures.item c.replace.ensures.rest in
    choice_not c.args.place.now c.args.trail.now c.args.spot.now frame c.replace-kept.new.self
    c.replace-kept.ensures.rest inside refl c.args.found.now (branches_of c.args.branches.now)
    c.alternatives-taken.new.found c.block.new.found c.alternatives-taken.ensures.gains
    (subst (λ trail. Gains c.alternatives-taken.new.found c.block.new.found
    (paths_at c.args.place.now trail c.args.spot.now (body_of c.args.more.now))) back c.block.ensures.gains)
    (search rules)

pub choice-returns-else-not-taken-clause-same : goal.choice-returns-else-not-taken-clause-same
choice-returns-else-not-taken-clause-same t c =
    frames_back c.args.trail.now c.alternatives-taken.new.trail c.args.spot.now.top c.replace-kept.new.self
    c.replace.new.self _ c.replace-kept.result c.replace-kept.ensures.rest c.alternatives-taken.ensures.same
    c.replace-kept.ensures.item c.replace.ensures.rest

pub choice-returns-else-not-taken-clause-gains : goal.choice-returns-else-not-taken-clause-gains
choice-returns-else-not-taken-clause-gains t c =
    let frame : Frame = record { acts = c.args.more; depth = c.args.spot.now.depth } in
    let inside = inside_frames c.args.place.now c.args.trail.now c.args.spot.now _ c.requires.stands in
    choice_taken c.args.place.now c.args.trail.now c.args.spot.now frame c.replace-kept.new.self
    c.replace-kept.ensures.rest inside refl c.args.found.now (branches_of c.args.branches.now)
    c.alternatives-taken.new.found c.alternatives-taken.ensures.gains (search rules)

-- its branches

pub alternatives-alternative-taken-requires : goal.alternatives-alternative-taken-requires
alternatives-alternative-taken-requires t c =
    let e = c.loop-branch.invariant.0 in
    let size : size_of_frames c.loop-branch.trail.frames c.args.spot.now.top
    ≡ size_of_frames c.args.trail.now.frames c.args.spot.now.top =
    ap (λ (trail : Trail). size_of_frames trail.frames c.args.spot.now.top) e in
    let small =
    branch_small c.args.branches.now c.loop-branch.branch-index c.branch-item.result c.loop-branch-test.true
    c.branch-item.is in
    let goes =
    branch_goes c.args.place.now c.args.trail.now c.args.spot.now c.args.branches.now c.loop-branch.branch-index
    c.branch-item.result c.loop-branch-test.true c.branch-item.is c.requires.fits in (
      omega (arith, size, small, c.decreases),
      subst (λ trail.
          Stands c.args.place.now trail c.args.spot.now (statements_of (body_of c.branch-item.result.body))
          × (FormulaFitsAt c.args.place.now (picked_at trail c.args.spot.now) (formula_of c.branch-item.result.guard)
          × (FitsAt c.args.place.now (picked_at trail c.args.spot.now) (body_of c.branch-item.result.body)
          × HasRoom c.loop-branch.found
          (branch_at c.args.place.now trail c.args.spot.now c.branch-item.result)))) (sym e) (
            stands_less c.args.place.now c.args.trail.now c.args.spot.now _ _ c.requires.stands small,
            (
              goes.0,
              (
                goes.1,
                room_for c.args.found.now _ c.loop-branch.found _ _ _ c.requires.room c.loop-branch.invariant.1
                    (chosen_next c.args.place.now c.args.trail.now c.args.spot.now c.args.branches.now
                    c.loop-branch.branch-index c.branch-item.result c.loop-branch-test.true c.branch-item.is),
              ),
            ),
          ),
    )

pub alternatives-loop-branch-preserved : goal.alternatives-loop-branch-preserved
alternatives-loop-branch-preserved t c = (
  c.alternative-taken.ensures.same ∙ c.loop-branch.invariant.0,
  some_more c.args.found.now _ c.loop-branch.found c.alternative-taken.new.found _ _ _ c.loop-branch.invariant.1
      (chosen_next c.args.place.now c.args.trail.now c.args.spot.now c.args.branches.now c.loop-branch.branch-index
      c.branch-item.result c.loop-branch-test.true c.branch-item.is)
      (subst (λ trail. Gains c.loop-branch.found c.alternative-taken.new.found
      (branch_at c.args.place.now trail c.args.spot.now c.branch-item.result)) c.loop-branch.invariant.0
      c.alternative-taken.ensures.gains),
  taken_next c.args.place.now c.args.trail.now c.args.spot.now c.args.branches.now c.loop-branch.branch-index
      c.branch-item.result c.loop-branch-test.true c.branch-item.is
      (scene_at c.args.place.now (picked_at c.args.trail.now c.args.spot.now))
      (marked c.args.place.now.tuples.now c.args.spot.now.mask) _ _ _ c.loop-branch.invariant.2
      (subst (λ trail. c.alternative-taken.result
      ≡ holds_by (scene_at c.args.place.now (picked_at trail c.args.spot.now))
      (marked c.args.place.now.tuples.now c.args.spot.now.mask) (formula_of c.branch-item.result.guard))
      c.loop-branch.invariant.0 c.alternative-taken.ensures.taken),
)

-- a choice at the end of a block

pub choice-last_choice-requires : goal.choice-last_choice-requires
choice-last_choice-requires t c =
    let none : c.args.more.now ≡ [] = none_left c.args.more.now (search rules) in (
      omega (arith, c.decreases),
      subst (λ (l : List Act). CanWalk c.args.place.now c.args.trail.now c.args.spot.now c.args.found.now
          (Fork (branches_of c.args.branches.now) (body_of l))) none c.requires,
    )

pub last_choice-alternatives-taken-requires : goal.last_choice-alternatives-taken-requires
last_choice-alternatives-taken-requires t c = (
  omega (arith, c.decreases),
  (
    stands_less c.args.place.now c.args.trail.now c.args.spot.now _ _ c.requires.stands (omega arith),
    (
      (c.requires.fits.0, c.requires.fits.1, c.requires.fits.2.0),
      last_room c.args.place.now c.args.trail.now c.args.spot.now (branches_of c.args.branches.now) c.args.found.now
          c.requires,
    ),
  ),
)

pub last_choice-go_on-requires : goal.last_choice-go_on-requires
last_choice-go_on-requires t c =
    let e = c.alternatives-taken.ensures.same in
    let size : size_of_frames c.alternatives-taken.new.trail.frames c.args.spot.now.top
    ≡ size_of_frames c.args.trail.now.frames c.args.spot.now.top =
    ap (λ (trail : Trail). size_of_frames trail.frames c.args.spot.now.top) e in (
      omega (arith, size, c.decreases),
      subst (λ trail. Stands c.args.place.now trail c.args.spot.now 0
          × HasRoom c.alternatives-taken.new.found (behind_at c.args.place.now trail c.args.spot.now
          (so_far trail c.args.spot.now))) (sym e) (
            stands_less c.args.place.now c.args.trail.now c.args.spot.now _ _ c.requires.stands (omega arith),
            last_rest c.args.place.now c.args.trail.now c.args.spot.now (branches_of c.args.branches.now)
                c.args.found.now c.alternatives-taken.new.found c.requires c.alternatives-taken.ensures.gains
                (search rules),
          ),
    )

pub last_choice-returns-then-not-taken-clause-gains : goal.last_choice-returns-then-not-taken-clause-gains
last_choice-returns-then-not-taken-clause-gains t c =
    last_not c.args.place.now c.args.trail.now c.args.spot.now (branches_of c.args.branches.now) c.args.found.now
    c.alternatives-taken.new.found c.go_on.new.found c.alternatives-taken.ensures.gains
    (subst (λ trail. Gains c.alternatives-taken.new.found c.go_on.new.found (behind_at c.args.place.now trail
    c.args.spot.now (so_far trail c.args.spot.now))) c.alternatives-taken.ensures.same c.go_on.ensures.gains)
    (search rules)

pub last_choice-returns-else-not-taken-clause-gains : goal.last_choice-returns-else-not-taken-clause-gains
last_choice-returns-else-not-taken-clause-gains t c =
    last_taken c.args.place.now c.args.trail.now c.args.spot.now (branches_of c.args.branches.now) c.args.found.now
    c.alternatives-taken.new.found c.alternatives-taken.ensures.gains (search rules)

-- a pick

pub pick-replace-kept-requires : goal.pick-replace-kept-requires
pick-replace-kept-requires t c =
    inside_frames c.args.place.now c.args.trail.now c.args.spot.now _ c.requires.stands

pub pick-overflow_add-inner : goal.pick-overflow_add-inner
pick-overflow_add-inner t c =
    let small = c.requires.stands.small in
    let top = top_small c.args.trail.now.frames c.args.spot.now.top in
    omega (arith, small, top)

pub pick-each_value-requires : goal.pick-each_value-requires
pick-each_value-requires t c =
    let frame : Frame = record { acts = c.args.more; depth = c.args.spot.now.depth } in
    let inside = inside_frames c.args.place.now c.args.trail.now c.args.spot.now _ c.requires.stands in
    let size =
    size_pushed c.args.place.now c.args.trail.now c.args.spot.now frame c.replace-kept.new.self
    c.replace-kept.ensures.rest inside in
    let small = c.requires.stands.small in (
      omega (arith, size, c.decreases),
      (
        record {
          outer = stands_pushed c.args.place.now c.args.trail.now c.args.spot.now frame c.replace-kept.new.self
              c.replace-kept.ensures.rest inside _ _ c.requires.stands refl
              (c.requires.fits.0, c.requires.fits.1, c.requires.fits.2.2) (omega arith);
          deeper = omega (arith, small, size);
        },
        (
          fits_each c.args.place.now _ c.args.values (body_of c.args.body.now) (body_of c.args.more.now)
              c.requires.fits,
          pick_room c.args.place.now c.args.trail.now c.args.spot.now frame c.replace-kept.new.self
              c.replace-kept.ensures.rest inside refl c.args.found.now c.args.values (body_of c.args.body.now)
              c.requires,
        ),
      ),
    )

pub pick-replace-requires : goal.pick-replace-requires
pick-replace-requires t c =
    let inside = inside_frames c.args.place.now c.args.trail.now c.args.spot.now _ c.requires.stands in
    let long : length c.each_value.new.trail.frames ≡ length c.args.trail.now.frames =
    ap (λ (trail : Trail). length trail.frames) c.each_value.ensures.same
    ∙ ap length c.replace-kept.ensures.rest
    ∙ length-set c.args.trail.now.frames c.args.spot.now.top _ in
    omega (arith, inside, long)

pub pick-returns-clause-same : goal.pick-returns-clause-same
pick-returns-clause-same t c =
    frames_back c.args.trail.now c.each_value.new.trail c.args.spot.now.top c.replace-kept.new.self
    c.replace.new.self _ c.replace-kept.result c.replace-kept.ensures.rest c.each_value.ensures.same
    c.replace-kept.ensures.item c.replace.ensures.rest

pub pick-returns-clause-gains : goal.pick-returns-clause-gains
pick-returns-clause-gains t c =
    let frame : Frame = record { acts = c.args.more; depth = c.args.spot.now.depth } in
    let inside = inside_frames c.args.place.now c.args.trail.now c.args.spot.now _ c.requires.stands in
    subst (λ xs. Gains c.args.found.now c.each_value.new.found xs)
    (values_same c.args.place.now c.args.trail.now c.args.spot.now frame c.replace-kept.new.self
    c.replace-kept.ensures.rest inside refl (body_of c.args.body.now) 0 c.args.values) c.each_value.ensures.gains

pub each_value-with_value-requires : goal.each_value-with_value-requires
each_value-with_value-requires t c =
    let e = c.loop-value.invariant.0 in
    let size : size_of_frames c.loop-value.trail.frames c.args.spot.now.top
    ≡ size_of_frames c.args.trail.now.frames c.args.spot.now.top =
    ap (λ (trail : Trail). size_of_frames trail.frames c.args.spot.now.top) e in (
      omega (arith, size, c.decreases),
      subst (λ trail.
          StandsWithin c.args.place.now trail c.args.spot.now (statements_of (body_of c.args.body.now))
          × (FitsAt c.args.place.now (picked_at trail c.args.spot.now ++ c.loop-value.value ∷ [])
          (body_of c.args.body.now)
          × HasRoom c.loop-value.found
          (value_at c.args.place.now trail c.args.spot.now (body_of c.args.body.now) c.loop-value.value))) (sym e) (
            c.requires.stands,
            (
              c.requires.fits c.loop-value.value c.loop-value-test.true,
              room_for c.args.found.now _ c.loop-value.found _ _ _ c.requires.room c.loop-value.invariant.1
                  (values_next c.args.place.now c.args.trail.now c.args.spot.now (body_of c.args.body.now)
                  c.args.values c.loop-value.value c.loop-value-test.true),
            ),
          ),
    )

pub each_value-loop-value-preserved : goal.each_value-loop-value-preserved
each_value-loop-value-preserved t c = (
  c.with_value.ensures.same ∙ c.loop-value.invariant.0,
  some_more c.args.found.now _ c.loop-value.found c.with_value.new.found _ _ _ c.loop-value.invariant.1
      (values_next c.args.place.now c.args.trail.now c.args.spot.now (body_of c.args.body.now) c.args.values
      c.loop-value.value c.loop-value-test.true)
      (subst (λ trail. Gains c.loop-value.found c.with_value.new.found
      (value_at c.args.place.now trail c.args.spot.now (body_of c.args.body.now) c.loop-value.value))
      c.loop-value.invariant.0 c.with_value.ensures.gains),
)

pub with_value-block-requires : goal.with_value-block-requires
with_value-block-requires t c =
    let inside =
    inside_slots c.args.place.now c.args.trail.now c.args.spot.now c.args.value c.replace-kept.new.self
    c.replace-kept.ensures.rest _ c.requires.stands.outer in (
      omega (arith, c.decreases),
      record {
        stands = stands_picked c.args.place.now c.args.trail.now c.args.spot.now c.args.value c.replace-kept.new.self
            c.replace-kept.ensures.rest _ c.requires.stands;
        fits = subst (λ (picked : List ℕ). FitsAt c.args.place.now picked (body_of c.args.body.now))
            (sym (picked_more c.args.place.now c.args.trail.now c.args.spot.now c.args.value c.replace-kept.new.self
            c.replace-kept.ensures.rest inside)) c.requires.fits;
        room = subst (λ xs. HasRoom c.args.found.now xs)
            (sym (value_is c.args.place.now c.args.trail.now c.args.spot.now c.args.value c.replace-kept.new.self
            c.replace-kept.ensures.rest _ (body_of c.args.body.now) c.requires.stands.outer)) c.requires.room;
      },
    )

pub with_value-returns-clause-same : goal.with_value-returns-clause-same
with_value-returns-clause-same t c =
    slots_back c.args.trail.now c.block.new.trail c.args.spot.now.depth c.replace-kept.new.self c.replace.new.self
    c.args.value c.replace-kept.result c.replace-kept.ensures.rest c.block.ensures.same c.replace-kept.ensures.item
    c.replace.ensures.rest

pub with_value-returns-clause-gains : goal.with_value-returns-clause-gains
with_value-returns-clause-gains t c =
    subst (λ xs. Gains c.args.found.now c.block.new.found xs)
    (value_is c.args.place.now c.args.trail.now c.args.spot.now c.args.value c.replace-kept.new.self
    c.replace-kept.ensures.rest _ (body_of c.args.body.now) c.requires.stands.outer) c.block.ensures.gains
