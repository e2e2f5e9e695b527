use Rattle.amdl_app.proofs.AnswerLemmas.{reply_is_one, answer_is_one}
use Rattle.amdl_app.proofs.laws.answer_is_unique.Goals as goal

pub returns-clause-reply : goal.returns-clause-reply
returns-clause-reply c =
    reply_is_one c.one_reading.ensures c.one_answer.ensures c.rising_is_unique.ensures c.least_is_unique.ensures
    c.one_telling.ensures

pub returns-clause-answer : goal.returns-clause-answer
returns-clause-answer c =
    answer_is_one c.one_reading.ensures c.one_answer.ensures c.rising_is_unique.ensures c.least_is_unique.ensures
    c.one_telling.ensures
