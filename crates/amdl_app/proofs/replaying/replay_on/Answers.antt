use Rattle.std.proofs.Common.{◌∷◌, [], List, ℕ, subst}
use Rattle.amdl_app.specs.Answered.{reply_of}
use Rattle.amdl_app.specs.Asked.{came_to, stopped_by}
use Rattle.amdl_app.specs.Command.{schedule_input}
use Rattle.amdl_app.specs.Loaded.{Found, MayCome}
use Rattle.amdl_app.specs.Replaying.{AfterSchedule, IsReplayed, WithSchedule}
use Rattle.amdl_app.specs.Seen.{files_seen}
use Rattle.amdl_app.proofs.Words.{ok_map}
use Rattle.amdl_app.proofs.LoadLemmas.{after_schedule_stop}
use Rattle.amdl_app.proofs.replaying.replay_on.Goals as goal

pub returns-in-Found-clause-reply : goal.returns-in-Found-clause-reply
returns-in-Found-clause-reply g c =
    let may =
    MayCome (files_seen g.F.Files.told g.F.Files.faults c.args.files.now)
    (files_seen g.F.Files.told g.F.Files.faults c.load_schedule.new.files) in
    let came =
    subst
    (λ loaded. may (schedule_input c.args.schedule.now) (came_to loaded)) c.in-Found.is c.in_ok-loaded.ensures.came in
    ok_map c.replay_text.result
    (λ answer. IsReplayed c.args.simulated.now c.args.mode c.as_slice.result.now (reply_of answer))
    (λ answer. WithSchedule may c.args.schedule.now
    (λ others. AfterSchedule c.args.schedule.now (IsReplayed c.args.simulated.now c.args.mode) others
    (reply_of answer)))
    (λ answer reply. (
      Found c.in-Found.text.items ∷ [],
      (came, tt),
      subst (λ (t : List ℕ). IsReplayed c.args.simulated.now c.args.mode t (reply_of answer)) c.as_slice.ensures.value
          reply,
    )) c.replay_text.ensures

pub returns-in-Stopped-clause-reply : goal.returns-in-Stopped-clause-reply
returns-in-Stopped-clause-reply g c =
    let may =
    MayCome (files_seen g.F.Files.told g.F.Files.faults c.args.files.now)
    (files_seen g.F.Files.told g.F.Files.faults c.load_schedule.new.files) in
    let came =
    subst
    (λ loaded. may (schedule_input c.args.schedule.now)
    (came_to loaded)) c.in-Stopped.is c.in_ok-loaded.ensures.came in
    ok_map c.schedule_stop_answer.result
    (λ answer. AfterSchedule c.args.schedule.now (λ text reply. ⊥) (stopped_by c.in-Stopped.stop ∷ [])
    (reply_of answer))
    (λ answer. WithSchedule may c.args.schedule.now
    (λ others. AfterSchedule c.args.schedule.now (IsReplayed c.args.simulated.now c.args.mode) others
    (reply_of answer)))
    (λ answer reply. (
      stopped_by c.in-Stopped.stop ∷ [],
      (came, tt),
      after_schedule_stop c.args.schedule.now (IsReplayed c.args.simulated.now c.args.mode)
          (stopped_by c.in-Stopped.stop ∷ []) (reply_of answer) reply,
    )) c.schedule_stop_answer.ensures
