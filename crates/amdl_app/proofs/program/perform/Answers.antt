use Rattle.amdl_app.specs.Answered.{reply_of}
use Rattle.amdl_app.specs.Outcome.{replied}
use Rattle.amdl_app.proofs.program.perform.Goals as goal

pub returns-in-Ok-clause-call : goal.returns-in-Ok-clause-call
returns-in-Ok-clause-call g c =
    replied (reply_of c.in-Ok.answer) c.in-Ok.ensures.reply c.answer_to.ensures.kept c.put_answer.ensures.put_out
