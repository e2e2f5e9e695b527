use Rattle.amdl_app.specs.Answered.{reply_of}
use Rattle.amdl_app.specs.Asked.{asked_for}
use Rattle.amdl_app.specs.Answer.{IsCommandReply, IsReply, asked}
use Rattle.amdl_app.specs.Loaded.{MayCome}
use Rattle.amdl_app.specs.Promises.{spelled}
use Rattle.amdl_app.specs.Seen.{files_seen}
use Rattle.amdl_app.proofs.Words.{ok_map}
use Rattle.amdl_app.proofs.program.answer_to.Goals as goal

pub returns-in-Some-clause-quiet : goal.returns-in-Some-clause-quiet
returns-in-Some-clause-quiet g c =
    λ unused. c.reply_to.ensures.quiet (unused (asked_for c.in-Some.command) c.in-Some.ensures).0

pub returns-in-Some-clause-reply : goal.returns-in-Some-clause-reply
returns-in-Some-clause-reply g c =
    let may =
    MayCome (files_seen g.F.Files.told g.F.Files.faults c.args.files.now)
    (files_seen g.F.Files.told g.F.Files.faults c.reply_to.new.files) in
    ok_map c.reply_to.result
    (λ answer. IsCommandReply may (asked_for c.in-Some.command) (reply_of answer))
    (λ answer. IsReply may (spelled c.args.words.now) (reply_of answer))
    (λ answer reply. asked (asked_for c.in-Some.command) c.in-Some.ensures reply) c.reply_to.ensures.reply
