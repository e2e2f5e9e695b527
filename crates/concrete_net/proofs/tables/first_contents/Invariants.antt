use Rattle.std.proofs.Common.{◌≡◌, map, take}
use Rattle.concrete_net.proofs.tables.first_contents.Given as goal

abbrev pub invariant-loop-b : goal.invariant-loop-b
invariant-loop-b l = l.contents ≡ map (λ box. box.first) (take l.b l.net.boxes)
