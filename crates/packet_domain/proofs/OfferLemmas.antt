-- What one result of a fired handler gives.
use Rattle.std.proofs.Common.{◌≡◌, ℕ, inl, inr, Bool, true, false, sym, ◌∙◌}
use Rattle.fix_engine.specs.Progress.{Progress}
use Rattle.net_plan.specs.declared.plan.Plan.{Plan}
use Rattle.net_plan.specs.declared.fact.Fact.TheVariants.{Abort}
use Rattle.abstract_step.specs.Step.{Result}
use Rattle.move_table.specs.Offered.{Offered, Is}
use Rattle.packet_domain.specs.Reasons.{ArePutOut, Gives}
use Rattle.move_table.proofs.OfferedLemmas.{offered_as}

pub not_both : {P : Type 0} {b : Bool} → b ≡ true → b ≡ false → P
not_both one two = absurd (let clash : true ≡ false = sym one ∙ two in cc)

module _ (plan : Plan) (box packet : ℕ) (result : Result) (old new : Progress) where
  pub abort_given : result.aborted ≡ true → Offered plan (Is (Abort box packet)) old new →
      Offered plan (Gives plan box packet result) old new
  abort_given aborted offered =
      offered_as plan (Is (Abort box packet)) (Gives plan box packet result) old new
      (λ fact in' is. inl (aborted, is))
      (λ fact in' gives. elim gives [ inl abort ↦ abort.1 | inr goes ↦ not_both aborted goes.0 ]) offered

  pub puts_given : result.aborted ≡ false → Offered plan (ArePutOut plan box result.puts) old new →
      Offered plan (Gives plan box packet result) old new
  puts_given goes offered =
      offered_as plan (ArePutOut plan box result.puts) (Gives plan box packet result) old new
      (λ fact in' out. inr (goes, out))
      (λ fact in' gives. elim gives [ inl abort ↦ not_both abort.0 goes | inr out ↦ out.1 ]) offered
