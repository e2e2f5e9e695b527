-- An answer of the code as a reply.
use Rattle.amdl_app.specs.declared.answer.Answer.{Answer}
use Rattle.amdl_app.specs.Reply.{Reply, says}

abbrev pub reply_of : Answer → Reply
reply_of answer = says answer.status answer.text.items
