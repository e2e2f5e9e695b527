use Rattle.schedule.proofs.BadLemmas.{same_answer}
use Rattle.schedule.proofs.lines.forbids.Goals as goal

pub returns : goal.returns
returns c = same_answer c.args.net.now c.args.host c.args.packet c.forbidden.result c.forbidden.ensures
