use Rattle.std.proofs.Common.{◌≡◌, [], ◌∷◌, Ok, Err, subst}
use Rattle.amdl_app.specs.Answered.{reply_of}
use Rattle.amdl_app.specs.Command.{schedule_input}
use Rattle.amdl_app.specs.Loaded.{MayCome}
use Rattle.amdl_app.specs.Reply.{refuses}
use Rattle.amdl_app.specs.Replaying.{AfterSchedule, IsReplay, IsReplayed, WithSchedule, refused, read}
use Rattle.amdl_app.specs.Seen.{files_seen}
use Rattle.amdl_app.specs.Spelled.{ComesTo}
use Rattle.amdl_app.proofs.ReplyKinds.{some_come}
use Rattle.amdl_app.proofs.Words.{ok_map}
use Rattle.amdl_app.proofs.replaying.replay_on_text.Goals as goal

pub returns-in-Ok-clause-reply : goal.returns-in-Ok-clause-reply
returns-in-Ok-clause-reply g c =
    let may =
    MayCome (files_seen g.F.Files.told g.F.Files.faults c.args.files.now)
    (files_seen g.F.Files.told g.F.Files.faults c.replay_on.new.files) in
    let comes : ComesTo c.args.text.now (Ok c.in-Ok.simulated) =
    subst (ComesTo c.args.text.now) c.in-Ok.is c.in_ok-found.ensures in
    ok_map c.replay_on.result
    (λ answer. WithSchedule may c.args.schedule.now
    (λ others. AfterSchedule c.args.schedule.now (IsReplayed c.in-Ok.simulated c.args.mode) others (reply_of answer)))
    (λ answer. WithSchedule may c.args.schedule.now
    (λ others. IsReplay c.args.mode c.args.schedule.now c.args.text.now others (reply_of answer)))
    (λ answer rest. (rest.0, rest.1, read c.in-Ok.simulated comes rest.2)) c.replay_on.ensures.reply

pub returns-in-Err-clause-reply : goal.returns-in-Err-clause-reply
returns-in-Err-clause-reply g c =
    let seen = files_seen g.F.Files.told g.F.Files.faults c.args.files.now in
    let may = MayCome seen seen in
    let some = some_come seen seen (schedule_input c.args.schedule.now ∷ []) in
    let comes : ComesTo c.args.text.now (Err c.in-Err.refusal) =
    subst (ComesTo c.args.text.now) c.in-Err.is c.in_ok-found.ensures in
    ok_map c.refusal_answer.result (λ answer. reply_of answer ≡ refuses c.in-Err.refusal)
    (λ answer. WithSchedule may c.args.schedule.now
    (λ others. IsReplay c.args.mode c.args.schedule.now c.args.text.now others (reply_of answer)))
    (λ answer told. (some.0, some.1, refused c.in-Err.refusal comes told)) c.refusal_answer.ensures
