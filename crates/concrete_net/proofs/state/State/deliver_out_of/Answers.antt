use Rattle.std.proofs.Common.{refl, subst}
use Rattle.net_runs.specs.declared.world.Mode.{Mode}
use Rattle.concrete_net.specs.Taking.{MissesNext}
use Rattle.concrete_net.proofs.DeliveryLemmas.{missed}
use Rattle.concrete_net.proofs.state.State.deliver_out_of.Goals as goal

pub returns-in-Err : goal.returns-in-Err
returns-in-Err c = (
  refl,
  missed c.args.net.now c.args.self.now c.args.end c.args.packet c.args.choices.now c.requires.end c.requires.packet
      c.sound.ensures c.args.from c.waiting.result.now c.in-Err.refusal c.requires.linked c.waiting.ensures
      (subst (λ (mode : Mode). MissesNext mode c.args.packet c.waiting.result.now c.in-Err.refusal) c.mode.ensures
      c.in-Err.ensures),
)
