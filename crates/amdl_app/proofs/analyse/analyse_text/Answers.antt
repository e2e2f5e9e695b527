use Rattle.std.proofs.Common.{◌≡◌, Ok, Err, refl, subst}
use Rattle.amdl_app.specs.Answered.{reply_of}
use Rattle.amdl_app.specs.Reply.{refuses}
use Rattle.amdl_app.specs.Report.{IsAnalysis, IsReport, refused, reported}
use Rattle.amdl_app.specs.Spelled.{ComesTo}
use Rattle.amdl_app.proofs.Words.{ok_map}
use Rattle.amdl_app.proofs.analyse.analyse_text.Goals as goal

pub returns-in-Ok : goal.returns-in-Ok
returns-in-Ok c =
    let comes : ComesTo c.args.text.now (Ok c.in-Ok.network) =
    subst (ComesTo c.args.text.now) c.in-Ok.is c.in_ok-found.ensures in
    ok_map c.analyse_network.result (λ answer. IsReport c.in-Ok.network (reply_of answer))
    (λ answer. IsAnalysis c.args.text.now (reply_of answer))
    (λ answer report. record {
      found = Ok c.in-Ok.network;
      comes = comes;
      analysed = reported c.in-Ok.network refl report;
    }) c.analyse_network.ensures

pub returns-in-Err : goal.returns-in-Err
returns-in-Err c =
    let comes : ComesTo c.args.text.now (Err c.in-Err.refusal) =
    subst (ComesTo c.args.text.now) c.in-Err.is c.in_ok-found.ensures in
    ok_map c.refusal_answer.result (λ answer. reply_of answer ≡ refuses c.in-Err.refusal)
    (λ answer. IsAnalysis c.args.text.now (reply_of answer))
    (λ answer told. record {
      found = Err c.in-Err.refusal;
      comes = comes;
      analysed = refused c.in-Err.refusal refl told;
    }) c.refusal_answer.ensures
