use Rattle.std.proofs.Common.{◌≡◌, map, take}
use Rattle.query_tables.specs.declared.spots.Spot.{Spot}
use Rattle.query_tables.proofs.spots.packets_of.Given as goal

abbrev pub invariant-loop-spot : goal.invariant-loop-spot
invariant-loop-spot l = l.packets.items ≡ map (λ (spot : Spot). spot.packet) (take l.spot-index l.spots)
