use Rattle.std.proofs.Common.{◌∷◌, [], List, ℕ, subst}
use Rattle.amdl_app.specs.Answer.{AfterNetwork, IsCommandReply}
use Rattle.amdl_app.specs.Answered.{reply_of}
use Rattle.amdl_app.specs.Asked.{came_to, stopped_by}
use Rattle.amdl_app.specs.Command.{Replay, network_input, schedule_input}
use Rattle.amdl_app.specs.Loaded.{Found, MayCome}
use Rattle.amdl_app.specs.Replaying.{IsReplay, WithSchedule}
use Rattle.amdl_app.specs.Seen.{files_seen}
use Rattle.amdl_app.proofs.Words.{ok_map}
use Rattle.amdl_app.proofs.ReplyKinds.{some_come}
use Rattle.amdl_app.proofs.LoadLemmas.{after_stop, alone, come_first, each_last}
use Rattle.amdl_app.proofs.replaying.replay_files.Goals as goal

pub returns-in-Found-clause-reply : goal.returns-in-Found-clause-reply
returns-in-Found-clause-reply g c =
    let before = files_seen g.F.Files.told g.F.Files.faults c.args.files.now in
    let mid = files_seen g.F.Files.told g.F.Files.faults c.load_network.new.files in
    let after = files_seen g.F.Files.told g.F.Files.faults c.replay_on_text.new.files in
    let came =
    subst
    (λ loaded. MayCome before mid (network_input c.args.network.now)
    (came_to loaded)) c.in-Found.is c.in_ok-loaded.ensures.came in
    ok_map c.replay_on_text.result
    (λ answer. WithSchedule (MayCome mid after) c.args.schedule.now
    (λ others. IsReplay c.args.mode c.args.schedule.now c.as_slice.result.now others (reply_of answer)))
    (λ answer. IsCommandReply (MayCome before after) (Replay c.args.mode c.args.network.now c.args.schedule.now)
    (reply_of answer))
    (λ answer rest. (
      Found c.in-Found.text.items ∷ rest.0,
      (
        come_first before mid after c.replay_on_text.ensures.later (network_input c.args.network.now)
            (Found c.in-Found.text.items) came,
        each_last before mid after c.load_network.ensures.kept c.load_network.ensures.later
            (schedule_input c.args.schedule.now ∷ []) rest.0 rest.1,
      ),
      subst (λ (t : List ℕ). IsReplay c.args.mode c.args.schedule.now t rest.0 (reply_of answer))
          c.as_slice.ensures.value rest.2,
    )) c.replay_on_text.ensures.reply

pub returns-in-Stopped-clause-reply : goal.returns-in-Stopped-clause-reply
returns-in-Stopped-clause-reply g c =
    let before = files_seen g.F.Files.told g.F.Files.faults c.args.files.now in
    let after = files_seen g.F.Files.told g.F.Files.faults c.load_network.new.files in
    let may = MayCome before after in
    let some = some_come before after (schedule_input c.args.schedule.now ∷ []) in
    let came =
    subst
    (λ loaded. may (network_input c.args.network.now)
    (came_to loaded)) c.in-Stopped.is c.in_ok-loaded.ensures.came in
    ok_map c.stop_answer.result
    (λ answer. AfterNetwork c.args.network.now (λ text others reply. ⊥) (stopped_by c.in-Stopped.stop ∷ [])
    (reply_of answer))
    (λ answer. IsCommandReply may (Replay c.args.mode c.args.network.now c.args.schedule.now) (reply_of answer))
    (λ answer reply. (
      stopped_by c.in-Stopped.stop ∷ some.0,
      (came, some.1),
      after_stop c.args.network.now (λ text others. IsReplay c.args.mode c.args.schedule.now text others)
          (stopped_by c.in-Stopped.stop ∷ some.0) (reply_of answer)
          (alone c.args.network.now (stopped_by c.in-Stopped.stop) some.0 (reply_of answer) reply),
    )) c.stop_answer.ensures
