-- When a guard is true.
use Rattle.std.specs.Prelude.{◌≡◌, ◌≢◌, ◌⊎◌, List, Contains}
use Rattle.box_contents.specs.declared.entry.Entry.{Entry}
use Rattle.box_handlers.specs.declared.act.Test.{Test}
use Rattle.box_handlers.specs.declared.act.Probe.{Probe}
use Rattle.box_handlers.specs.declared.act.Branch.{Branch}
use Rattle.box_handlers.specs.Body.{Formula, Truth, Holds, Alike, Unlike, Denied, Grouped, Both, Every, Either, Neither}
use Rattle.box_handlers.specs.Body.{formula_of, formula_of_probe}
use Rattle.box_executions.specs.Environment.{Environment, value_in, entry_in}

-- the formula is true in the environment, with these contents
abbrev pub IsSatisfied : Environment → List Entry → Formula → Type 0
IsSatisfied env contents Truth = Unit {0}
IsSatisfied env contents (Holds query) = Contains contents (entry_in env query)
IsSatisfied env contents (Alike one two) = value_in env one ≡ value_in env two
IsSatisfied env contents (Unlike one two) = value_in env one ≢ value_in env two
IsSatisfied env contents (Denied formula) = IsSatisfied env contents formula → ⊥
IsSatisfied env contents (Grouped formula) = IsSatisfied env contents formula
IsSatisfied env contents (Both one two) = IsSatisfied env contents one × IsSatisfied env contents two
IsSatisfied env contents Every = Unit {0}
IsSatisfied env contents (Either one two) = IsSatisfied env contents one ⊎ IsSatisfied env contents two
IsSatisfied env contents Neither = ⊥

-- the probe, the test and the guard of the branch are true
abbrev pub ProbeIsTrue : Environment → List Entry → Probe → Type 0
ProbeIsTrue env contents probe = IsSatisfied env contents (formula_of_probe probe)

abbrev pub TestIsTrue : Environment → List Entry → Test → Type 0
TestIsTrue env contents test = IsSatisfied env contents (formula_of test)

abbrev pub GuardIsTrue : Environment → List Entry → Branch → Type 0
GuardIsTrue env contents branch = TestIsTrue env contents branch.guard
