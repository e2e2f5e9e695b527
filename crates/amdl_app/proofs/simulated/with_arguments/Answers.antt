use Rattle.std.proofs.Common.{refl}
use Rattle.amdl_app.specs.Spelled.{formed}
use Rattle.amdl_app.proofs.simulated.with_arguments.Goals as goal

pub returns : goal.returns
returns c = formed c.args.network c.requires refl
