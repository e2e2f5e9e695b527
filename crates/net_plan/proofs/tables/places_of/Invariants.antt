use Rattle.std.proofs.Common.{◌≡◌, ◌++◌, drop}
use Rattle.net_plan.specs.Ends.{port_places, places_of}
use Rattle.net_plan.proofs.tables.places_of.Given as goal

-- the places so far, with the ports of the boxes to come behind them
abbrev pub invariant-loop-number : goal.invariant-loop-number
invariant-loop-number l = l.places ++ port_places l.plan l.number (drop l.number l.plan.boxes) ≡ places_of l.plan
