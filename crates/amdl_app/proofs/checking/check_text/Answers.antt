use Rattle.std.proofs.Common.{◌≡◌, Ok, Err, subst}
use Rattle.plan_text.specs.Text.{counts_of}
use Rattle.amdl_app.specs.Answered.{reply_of}
use Rattle.amdl_app.specs.Counts.{IsCheck}
use Rattle.amdl_app.specs.Reply.{says, refuses}
use Rattle.amdl_app.specs.Spelled.{ComesTo}
use Rattle.amdl_app.proofs.Words.{ok_map}
use Rattle.amdl_app.proofs.checking.check_text.Goals as goal

pub returns-in-Ok : goal.returns-in-Ok
returns-in-Ok c =
    let comes : ComesTo c.args.text.now (Ok c.in-Ok.network) =
    subst (ComesTo c.args.text.now) c.in-Ok.is c.in_ok-found.ensures in
    ok_map c.counts_answer.result (λ answer. reply_of answer ≡ says 0 (counts_of c.in-Ok.network))
    (λ answer. IsCheck c.args.text.now (reply_of answer))
    (λ answer told. record { found = Ok c.in-Ok.network; comes = comes; told = told }) c.counts_answer.ensures

pub returns-in-Err : goal.returns-in-Err
returns-in-Err c =
    let comes : ComesTo c.args.text.now (Err c.in-Err.refusal) =
    subst (ComesTo c.args.text.now) c.in-Err.is c.in_ok-found.ensures in
    ok_map c.refusal_answer.result (λ answer. reply_of answer ≡ refuses c.in-Err.refusal)
    (λ answer. IsCheck c.args.text.now (reply_of answer))
    (λ answer told. record { found = Err c.in-Err.refusal; comes = comes; told = told }) c.refusal_answer.ensures
