use Rattle.std.proofs.Common.{Ok, Err, ap, subst}
use Rattle.network_file.specs.Reading.{IsReadAs}
use Rattle.amdl_app.specs.Spelled.{ComesTo, IsCheckedAs, checked, unread}
use Rattle.amdl_app.proofs.Words.{ok_map}
use Rattle.amdl_app.proofs.simulated.simulated_of.Goals as goal

pub returns-in-Ok : goal.returns-in-Ok
returns-in-Ok c =
    let read : IsReadAs c.args.text.now (Ok c.in-Ok.tree) =
    subst (IsReadAs c.args.text.now) c.in-Ok.is c.in_ok-reading.ensures.read in
    ok_map c.simulated_of_tree.result (IsCheckedAs c.in-Ok.tree) (ComesTo c.args.text.now)
    (λ found checked'. checked c.in-Ok.tree read checked') c.simulated_of_tree.ensures

pub returns-in-Err : goal.returns-in-Err
returns-in-Err c =
    let read : IsReadAs c.args.text.now (Err c.in-Err.refusal) =
    subst (IsReadAs c.args.text.now) c.in-Err.is c.in_ok-reading.ensures.read in
    unread c.in-Err.refusal read (ap Err c.network_refusal.ensures)
