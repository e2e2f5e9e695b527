use Rattle.std.proofs.Common.{◌∙◌, arith}
use Rattle.schedule_text.proofs.FrontLemmas.{front_taken}
use Rattle.schedule_text.proofs.writing.write_schedule.Goals as goal

pub returns-in-Err-clause-err : goal.returns-in-Err-clause-err
returns-in-Err-clause-err c =
    c.truncate.ensures.items
    ∙ front_taken c.args.out.now.items c.put_steps.new.out.items c.len-start.result
    (omega (arith, c.len-start.ensures)) c.put_steps.ensures.kept
