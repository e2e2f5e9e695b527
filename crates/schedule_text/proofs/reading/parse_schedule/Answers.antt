use Rattle.schedule_text.proofs.ScheduleAnswers.{is_right, is_short, is_found, is_fault}
use Rattle.schedule_text.proofs.reading.parse_schedule.Goals as goal

pub returns-clause-answer : goal.returns-clause-answer
returns-clause-answer c = is_right c.args.tokens.now c.read_whole.result c.show_names.ensures c.read_whole.ensures

pub returns-clause-read : goal.returns-clause-read
returns-clause-read c =
    λ steps built spelled. is_found c.args.tokens.now c.read_whole.result c.show_names.ensures c.read_whole.ensures
    steps built spelled

pub returns-clause-syntax : goal.returns-clause-syntax
returns-clause-syntax c =
    λ k stops. is_fault c.args.tokens.now c.read_whole.result c.show_names.ensures c.read_whole.ensures k stops

pub returns-clause-few : goal.returns-clause-few
returns-clause-few c = is_short c.args.tokens.now c.read_whole.result c.show_names.ensures c.read_whole.ensures
