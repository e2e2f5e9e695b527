use Rattle.concrete_net.proofs.CauseLemmas.{leads_alone}
use Rattle.concrete_net.proofs.OnceLemmas.{cause_refuses}
use Rattle.concrete_net.proofs.state.State.step.Goals as goal

pub returns-clause-leads : goal.returns-clause-leads
returns-clause-leads c =
    leads_alone c.step_is_determined.ensures c.args.net.now c.sound.ensures c.args.self.now c.answered.new.self
    c.args.step.now c.answered.result c.answered.ensures

pub returns-clause-refused : goal.returns-clause-refused
returns-clause-refused c =
    cause_refuses c.args.net.now c.sound.ensures c.args.self.now c.answered.new.self c.args.step.now
    c.answered.result c.answered.ensures
