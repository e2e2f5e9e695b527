use Rattle.std.proofs.Common.{◌∙◌, arith}
use Rattle.schedule_text.proofs.FrontLemmas.{front_taken}
use Rattle.schedule.proofs.replaying.replay_or_nothing.Goals as goal

pub returns-in-Err-NoMemory : goal.returns-in-Err-NoMemory
returns-in-Err-NoMemory c =
    c.truncate.ensures.items
    ∙ front_taken c.args.out.now.items c.put_replay.new.out.items c.len-start.result
    (omega (arith, c.len-start.ensures)) c.put_replay.ensures.kept
