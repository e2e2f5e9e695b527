use Rattle.std.proofs.Common.{subst}
use Rattle.amdl_app.specs.Spelled.{IsCheckedAs}
use Rattle.amdl_app.proofs.simulated.simulated_of_tree.Goals as goal

pub returns-in-Err : goal.returns-in-Err
returns-in-Err c = subst (IsCheckedAs c.args.tree.now) c.in-Err.is c.in_ok-found.ensures
