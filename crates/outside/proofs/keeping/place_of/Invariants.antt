use Rattle.std.proofs.Common.{◌≡◌, take, None}
use Rattle.outside.specs.Keeping.{first_file}
use Rattle.outside.proofs.keeping.place_of.Given as goal

abbrev pub invariant-loop-place : goal.invariant-loop-place
invariant-loop-place l = first_file (take l.place l.kept) l.name ≡ None
