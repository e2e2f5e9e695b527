use Rattle.std.proofs.Common.{◌-◌, length}
use Rattle.query_tables.specs.Spots.{AreSites}
use Rattle.query_tables.proofs.sites.sites_of.Given as goal

abbrev pub invariant-loop-at : goal.invariant-loop-at
invariant-loop-at l = AreSites l.net l.b l.spots l.at l.sites.items

abbrev pub decreases-loop-at : goal.decreases-loop-at
decreases-loop-at l = length l.spots - l.at
