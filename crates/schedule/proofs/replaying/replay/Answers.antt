use Rattle.schedule.proofs.RunLemmas.{is_run, is_refused}
use Rattle.schedule.proofs.replaying.replay.Goals as goal

pub returns-clause-run : goal.returns-clause-run
returns-clause-run c =
    is_run c.step_is_determined.ensures c.args.net.now c.sound.ensures c.args.mode c.args.steps.now c.args.out.now.items
    c.replay_or_nothing.new.out.items c.replay_or_nothing.result c.replay_or_nothing.ensures

pub returns-clause-refused : goal.returns-clause-refused
returns-clause-refused c =
    is_refused c.step_is_determined.ensures c.args.net.now c.sound.ensures c.args.mode c.args.steps.now
    c.args.out.now.items c.replay_or_nothing.new.out.items c.replay_or_nothing.result c.replay_or_nothing.ensures
