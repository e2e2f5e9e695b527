use Rattle.std.proofs.Common.{Err, refl, subst}
use Rattle.amdl_check.specs.Checking.{IsChecked}
use Rattle.amdl_check.specs.declared.refusal.CheckRefusal.{CheckRefusal}
use Rattle.amdl_app.specs.Spelled.{broken, formed}
use Rattle.amdl_app.proofs.spelling.network_of_tree.Goals as goal

pub returns-in-Ok : goal.returns-in-Ok
returns-in-Ok c = formed c.in-Ok.network c.in-Ok.ensures.checked refl

pub returns-in-Err-At : goal.returns-in-Err-At
returns-in-Err-At c =
    broken c.in-Err-At.item c.in-Err-At.rule
    (subst (λ (refusal : CheckRefusal). IsChecked c.args.tree.now (Err refusal)) c.in-Err-At.field-0-is
    c.in-Err-At.ensures.checked) refl
