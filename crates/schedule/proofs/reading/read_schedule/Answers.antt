use Rattle.schedule_text.specs.Answering.{tokens_of}
use Rattle.schedule.proofs.ReadLemmas.{is_read, is_refused}
use Rattle.schedule.proofs.reading.read_schedule.Goals as goal

pub returns-clause-read : goal.returns-clause-read
returns-clause-read c =
    λ steps reads. is_read c.args.net.now (tokens_of c.args.tokens.now) c.read_named.result steps c.sound.ensures
    c.one_answer.ensures.one c.read_named.ensures.answer reads

pub returns-clause-refused : goal.returns-clause-refused
returns-clause-refused c =
    λ refusal cause. is_refused c.args.net.now (tokens_of c.args.tokens.now) c.read_named.result refusal
    c.sound.ensures c.one_answer.ensures.one c.read_named.ensures.answer cause
