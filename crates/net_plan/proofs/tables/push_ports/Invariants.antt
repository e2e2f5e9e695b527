use Rattle.std.proofs.Common.{◌≡◌, ◌++◌, map}
use Rattle.std.specs.List.{range_with_len}
use Rattle.net_plan.specs.declared.fact.Place.TheVariants.{Port}
use Rattle.net_plan.proofs.tables.push_ports.Given as goal

abbrev pub invariant-loop-port : goal.invariant-loop-port
invariant-loop-port l = l.places ≡ l.fn.places ++ map (Port l.number) (range_with_len 0 l.port)
