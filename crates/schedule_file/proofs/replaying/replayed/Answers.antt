use Rattle.std.proofs.Common.{◌≡◌, ◌++◌, Err, ap, subst, ◌∙◌}
use Rattle.std.proofs.lemmas.Result.{IfOk-weaker}
use Rattle.schedule.specs.declared.replayed.ReplayRefusal.{ReplayRefusal}
use Rattle.schedule.specs.Replays.{IsReplay}
use Rattle.schedule.specs.Texts.{lines_of, replay_text}
use Rattle.schedule_file.specs.Messages.{refused_step}
use Rattle.schedule_file.specs.Replaying.{IsRunTold, ran, stopped, status_of}
use Rattle.schedule_file.proofs.replaying.replayed.Goals as goal

pub returns-in-Ok : goal.returns-in-Ok
returns-in-Ok c =
    let run = c.in-Ok.ensures.answer in
    ran run.0 run.1 run.2 (c.run_status.ensures ∙ ap status_of run.4)
    (run.5 ∙ ap (λ old. old ++ replay_text c.args.net.now run.0) c.new-text.ensures.items)

pub returns-in-Err-Refused : goal.returns-in-Err-Refused
returns-in-Err-Refused c =
    let at =
    subst (λ (refusal : ReplayRefusal). IsReplay c.args.net.now c.args.mode c.args.steps.now c.new-text.result.items
    (Err refusal) c.replay.new.out.items) c.in-Err-Refused.field-0-is c.in-Err-Refused.ensures.answer in
    let why = c.in-Err-Refused.why in
    IfOk-weaker c.stopped.result
    (λ told. (told.status ≡ 3)
    × (told.text.items ≡ c.replay.new.out.items ++ refused_step c.in-Err-Refused.k why))
    (λ told. IsRunTold c.args.net.now c.args.mode c.args.steps.now told.status told.text.items)
    (λ told is. stopped c.in-Err-Refused.k why at.0 at.1 is.0
    (is.1 ∙ ap (λ lines. lines ++ refused_step c.in-Err-Refused.k why)
    (at.2 ∙ ap (λ old. old ++ lines_of c.args.net.now at.0) c.new-text.ensures.items)))
    c.stopped.ensures
