use Rattle.std.proofs.Common.{◌≡◌, List, Ok, refl, sym, ap, subst, ◌∙◌, ◌⊎◌}
use Rattle.handler_runs.specs.declared.progress.Emission.{Emission as Sent}
use Rattle.handler_runs.specs.declared.handling.Ending.{Ending}
use Rattle.handler_runs.specs.declared.handling.Ending.TheVariants as ending
use Rattle.net_plan.specs.declared.fact.Place.TheVariants.{Port}
use Rattle.net_plan.proofs.EndLemmas.{end_in_range}
use Rattle.net_runs.specs.declared.world.Step.TheVariants.{Deliver}
use Rattle.concrete_net.specs.declared.refusal.StepRefusal.{StepRefusal}
use Rattle.concrete_net.specs.declared.refusal.StepRefusal.TheVariants.{NoMemory}
use Rattle.concrete_net.specs.Refused.{IsCause}
use Rattle.concrete_net.specs.Executed.{IsExecuted}
use Rattle.concrete_net.proofs.PortLemmas.{ports_there, done_answer, aborted_answer, refused_answer}
use Rattle.concrete_net.proofs.state.State.deliver_to_port.Goals as goal

executed_to : (c : goal.After-as_slice) →
    IsExecuted c.args.net.now c.args.self.now.world c.args.b c.args.port c.args.packet c.args.choices.now
    (Ok (ending.Done c.in-Ok-Done.contents c.as_slice.result.now))
executed_to c =
    subst (λ (e : Ending). IsExecuted c.args.net.now c.args.self.now.world c.args.b c.args.port c.args.packet
    c.args.choices.now (Ok e))
    (c.in-Ok-Done.field-0-is
    ∙ ap (λ (l : List Sent). ending.Done c.in-Ok-Done.contents l) (sym c.as_slice.ensures))
    c.in-Ok-Done.ensures

pub done-requires-clause-ports : goal.done-requires-clause-ports
done-requires-clause-ports c =
    ports_there c.args.net.now c.args.b c.args.port c.args.packet c.args.choices.now c.args.self.now.world
    c.outcome_is_in_range.ensures c.sound.ensures c.requires.world c.requires.packet c.in-Ok-Done.contents
    c.as_slice.result.now (executed_to c)

pub returns-in-Ok-Done : goal.returns-in-Ok-Done
returns-in-Ok-Done c = λ end at_port stands.
    done_answer c.args.net.now c.args.self.now end c.args.packet c.args.choices.now
    (end_in_range c.args.net.now end (Port c.args.b c.args.port) at_port) c.requires.packet c.args.from c.args.place
    stands c.args.b c.args.port at_port c.in-Ok-Done.contents c.as_slice.result.now c.done.new.self c.done.result
    (subst (λ (e : Ending). IsExecuted c.args.net.now c.args.self.now.world c.args.b c.args.port c.args.packet
    c.args.choices.now (Ok e))
    (c.in-Ok-Done.field-0-is
    ∙ ap (λ (l : List Sent). ending.Done c.in-Ok-Done.contents l) (sym c.as_slice.ensures))
    c.in-Ok-Done.ensures) c.done.ensures

pub returns-in-Ok-Aborted : goal.returns-in-Ok-Aborted
returns-in-Ok-Aborted c = λ end at_port stands.
    aborted_answer c.args.net.now c.args.self.now end c.args.packet c.args.choices.now
    (end_in_range c.args.net.now end (Port c.args.b c.args.port) at_port) c.requires.packet c.args.from c.args.place
    stands c.args.b c.args.port at_port c.shorten.new.self
    (subst (λ (e : Ending). IsExecuted c.args.net.now c.args.self.now.world c.args.b c.args.port c.args.packet
    c.args.choices.now (Ok e)) c.in-Ok-Aborted.field-0-is c.in-Ok-Aborted.ensures) c.shorten.ensures

pub returns-in-Err : goal.returns-in-Err
returns-in-Err c = λ end at_port stands. (
  refl,
  subst (λ (r : StepRefusal). IsCause c.args.net.now c.args.self.now (Deliver end c.args.packet c.args.choices.now) r
      ⊎ (r ≡ NoMemory)) (sym c.refused.ensures)
      (refused_answer c.args.net.now c.args.self.now end c.args.packet c.args.choices.now
      (end_in_range c.args.net.now end (Port c.args.b c.args.port) at_port) c.requires.packet c.args.from
      c.args.place stands c.args.b c.args.port at_port c.in-Err.refusal c.in-Err.ensures),
)
