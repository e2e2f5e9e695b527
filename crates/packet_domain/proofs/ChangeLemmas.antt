-- What the results of a fired handler make of answers.
use Rattle.std.proofs.Common.{◌≡◌, ℕ, false, true, List, sym, ap, ◌∙◌}
use Rattle.fix_engine.specs.Progress.{Progress}
use Rattle.net_plan.specs.declared.plan.Plan.{Plan}
use Rattle.net_plan.specs.declared.fact.Fact.TheVariants.{State}
use Rattle.box_masks.specs.Writes.{AreShown}
use Rattle.abstract_step.specs.Step.{Result}
use Rattle.move_table.specs.Offered.{Offered, Is}
use Rattle.move_table.specs.Moves.{IsPatch}
use Rattle.packet_domain.specs.Reasons.{IsAnswered, IsChange, SomeChanges, AgreeingChanges}
use Rattle.packet_domain.proofs.OfferLemmas.{not_both}
use Rattle.move_table.proofs.OfferedLemmas.{offered_as, offered_none}

module _ (plan : Plan) (box packet before : ℕ) (old new : Progress) where
  pub change_given : (result : Result) (after : ℕ) → result.aborted ≡ false → IsAnswered plan box packet before →
      IsPatch plan box result.writes packet before after → Offered plan (Is (State box packet after)) old new →
      Offered plan (IsChange plan box result packet before) old new
  change_given result after goes answered patch offered =
      offered_as plan (Is (State box packet after)) (IsChange plan box result packet before) old new
      (λ fact in' is. record { goes_on = goes; after = after; patched = patch; is = is })
      (λ fact in' change. change.is
      ∙ ap (State box packet)
      (sym (change.patched answered.0 answered.1) ∙ patch answered.0 answered.1))
      offered

  pub no_change : (result : Result) → result.aborted ≡ true →
      Offered plan (IsChange plan box result packet before) old old
  no_change result aborted =
      offered_none plan (IsChange plan box result packet before) old (λ fact in' change. not_both aborted change.goes_on)

  module _ (first mask : ℕ) (results : List Result) where
    pub agreeing : AreShown plan box first mask packet before →
        Offered plan (SomeChanges plan box results packet before) old new →
        Offered plan (AgreeingChanges plan box first mask results packet before) old new
    agreeing shown offered =
        offered_as plan (SomeChanges plan box results packet before)
        (AgreeingChanges plan box first mask results packet before) old new (λ fact in' some. (shown, some))
        (λ fact in' both. both.1) offered

    pub not_agreeing : (AreShown plan box first mask packet before → ⊥) →
        Offered plan (AgreeingChanges plan box first mask results packet before) old old
    not_agreeing never =
        offered_none plan (AgreeingChanges plan box first mask results packet before) old
        (λ fact in' both. never both.0)
