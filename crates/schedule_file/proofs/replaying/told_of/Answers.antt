use Rattle.std.proofs.Common.{◌≡◌, Ok, Err, subst}
use Rattle.std.proofs.lemmas.Result.{IfOk-weaker}
use Rattle.schedule_file.specs.Messages.{refused_schedule}
use Rattle.schedule_file.specs.Reading.{IsReadAs}
use Rattle.schedule_file.specs.Replaying.{IsRunTold, IsToldOf, refused, replayed}
use Rattle.schedule_file.proofs.replaying.told_of.Goals as goal

pub returns-in-Ok : goal.returns-in-Ok
returns-in-Ok c =
    let read : IsReadAs c.args.net.now c.args.text.now (Ok c.in-Ok.steps) =
    subst (IsReadAs c.args.net.now c.args.text.now) c.in-Ok.is c.in_ok-reading.ensures.read in
    IfOk-weaker c.replayed.result
    (λ told. IsRunTold c.args.net.now c.args.mode c.as_slice.result.now told.status told.text.items)
    (λ told. IsToldOf c.args.net.now c.args.mode c.args.text.now told.status told.text.items)
    (λ told run. replayed c.in-Ok.steps read
    (subst (λ l. IsRunTold c.args.net.now c.args.mode l told.status told.text.items) c.as_slice.ensures run))
    c.replayed.ensures

pub returns-in-Err : goal.returns-in-Err
returns-in-Err c =
    let read : IsReadAs c.args.net.now c.args.text.now (Err c.in-Err.refusal) =
    subst (IsReadAs c.args.net.now c.args.text.now) c.in-Err.is c.in_ok-reading.ensures.read in
    IfOk-weaker c.refused.result
    (λ told. (told.status ≡ 3) × (told.text.items ≡ refused_schedule c.in-Err.refusal))
    (λ told. IsToldOf c.args.net.now c.args.mode c.args.text.now told.status told.text.items)
    (λ told is. refused c.in-Err.refusal read is.0 is.1) c.refused.ensures
