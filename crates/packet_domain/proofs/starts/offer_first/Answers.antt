use Rattle.std.proofs.Common.{ℕ, ◌<◌, sym, subst}
use Rattle.net_plan.specs.declared.fact.Fact.TheVariants.{State}
use Rattle.net_plan.specs.Plan.{box_at, masks_of}
use Rattle.net_runs.specs.World.{environment_of}
use Rattle.packet_state.specs.Answers.{class_of_box}
use Rattle.packet_state.proofs.MaskLemmas.{answers_below}
use Rattle.move_table.specs.Offered.{Offered, Is}
use Rattle.packet_domain.proofs.starts.offer_first.Goals as goal

pub offer-requires-clause-in_range : goal.offer-requires-clause-in_range
offer-requires-clause-in_range g c =
    let plan = c.args.net.now in (
      c.requires.boxed,
      c.requires.packet,
      subst (λ (n : ℕ). n < masks_of plan (box_at plan c.args.b)) (sym c.first_answers.ensures)
          (answers_below (environment_of plan (class_of_box plan c.args.b) c.args.p)
          (class_of_box plan c.args.b).queries (box_at plan c.args.b).first),
    )

pub returns : goal.returns
returns g c =
    subst (λ (n : ℕ). Offered c.args.net.now (Is (State c.args.b c.args.p n)) c.args.work.now c.offer.new.work)
    c.first_answers.ensures c.offer.ensures
