use Rattle.std.proofs.Common.{◌≡◌, drop}
use Rattle.outside.specs.Naming.{first_naming}
use Rattle.outside.proofs.failing.kept_by.Given as goal

abbrev pub invariant-loop-naming : goal.invariant-loop-naming
invariant-loop-naming l = first_naming l.named l.call ≡ first_naming (drop l.naming-index l.named) l.call
