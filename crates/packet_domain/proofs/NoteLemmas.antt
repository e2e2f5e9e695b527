-- The moves of the results of a fired handler.
use Rattle.std.proofs.Common.{◌≡◌, ℕ, inl, true, false, Bool, List, refl, ap, subst, ◌∙◌}
use Rattle.fix_engine.specs.Progress.{Progress}
use Rattle.net_plan.specs.declared.plan.Plan.{Plan}
use Rattle.net_plan.specs.declared.fact.Fact.{Fact}
use Rattle.net_plan.specs.declared.fact.Fact.TheVariants.{State}
use Rattle.net_plan.specs.Cells.{IsInRange}
use Rattle.box_moves.specs.Moves.{IsKept, IsSized}
use Rattle.abstract_step.specs.Step.{Result}
use Rattle.move_table.specs.Offered.{Offered, IsDone}
use Rattle.move_table.specs.Moves.{Adds, Moved, Noted, Patches}
use Rattle.move_table.proofs.NoteLemmas.{noted_none, noted_as}
use Rattle.move_table.proofs.OfferedLemmas.{offered_as}
use Rattle.packet_domain.specs.Reasons.{ChangesAll}
use Rattle.packet_domain.specs.Table.{ResultMoves, SomeMoves}
use Rattle.packet_domain.proofs.OfferLemmas.{not_both}

-- a fired handler, and the moves of its results
module _ (plan : Plan) (box packet mask : ℕ) where
  pub result_goes_on : (result : Result) (old_moves new_moves : List (List Bool)) (old new : Progress) →
      result.aborted ≡ false →
      Noted plan (Patches plan box packet mask result.writes) old_moves new_moves old new →
      Noted plan (ResultMoves plan box packet mask result) old_moves new_moves old new
  result_goes_on result old_moves new_moves old new goes noted =
      noted_as plan (Patches plan box packet mask result.writes) (ResultMoves plan box packet mask result) old_moves new_moves
      old new (λ move patches. (goes, patches)) (λ move is holds. holds.1) noted

  pub result_aborts : (result : Result) (moves : List (List Bool)) (work : Progress) → IsSized plan moves →
      result.aborted ≡ true → Noted plan (ResultMoves plan box packet mask result) moves moves work work
  result_aborts result moves work sized aborted =
      noted_none plan (ResultMoves plan box packet mask result) moves work sized
      (λ move holds. not_both aborted holds.0)

  -- all moves of the results are all changes that they make
  pub changes_noted : (results : List Result) (old_moves new_moves : List (List Bool)) (old new : Progress) →
      Noted plan (SomeMoves plan box packet mask results) old_moves new_moves old new →
      Offered plan (ChangesAll plan old.done box packet mask results) old new
  changes_noted results old_moves new_moves old new noted =
      offered_as plan (Moved plan (SomeMoves plan box packet mask results) old.done)
      (ChangesAll plan old.done box packet mask results) old new there back noted.offered
    where
      there : (fact : Fact) → IsInRange plan fact → Moved plan (SomeMoves plan box packet mask results) old.done fact →
          ChangesAll plan old.done box packet mask results fact
      there fact in' (move, is, known, (result, among, (goes, patches)), same) =
          let known_here : IsDone plan old.done (State box move.packet move.mask) =
          subst (λ (b : ℕ). IsDone plan old.done (State b move.packet move.mask)) patches.boxed known in (
            move.packet,
            is.packet_is,
            (
              move.mask,
              known_here,
              (
                patches.shown,
                (
                  result,
                  among,
                  record {
                    goes_on = goes;
                    after = move.other;
                    patched = patches.patched;
                    is = same ∙ ap (λ (b : ℕ). State b move.packet move.other) patches.boxed;
                  },
                ),
              ),
            ),
          )

      back : (fact : Fact) → IsInRange plan fact → ChangesAll plan old.done box packet mask results fact →
          Moved plan (SomeMoves plan box packet mask results) old.done fact
      back fact in' (second, small, (before, known, (shown, (result, among, change)))) =
          let range : IsInRange plan (State box second change.after) = subst (IsInRange plan) change.is in' in (
            record { box = box; packet = second; mask = before; other = change.after },
            record {
              boxed = known.0.0;
              packet_is = small;
              mask_is = known.0.2;
              other_is = range.2;
            },
            known,
            (result, among, (change.goes_on, record { boxed = refl; shown = shown; patched = change.patched })),
            change.is,
          )

  -- and where the box isn't kept, none is noted
  pub not_kept_adds : (results : List Result) (moves : List (List Bool)) → IsSized plan moves → (IsKept plan box → ⊥) →
      Adds plan (SomeMoves plan box packet mask results) moves moves
  not_kept_adds results moves sized never = record {
    sized = sized;
    stays = λ move has. has;
    all = λ move kept is holds. absurd (never (subst (IsKept plan) holds.2.1.boxed kept));
    only = λ move has. inl has;
  }
