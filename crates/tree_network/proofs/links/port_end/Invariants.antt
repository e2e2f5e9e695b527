use Rattle.std.proofs.Common.{◌≡◌, drop}
use Rattle.net_plan.specs.declared.fact.Place.TheVariants.{Port}
use Rattle.net_plan.specs.Ends.{places_of}
use Rattle.tree_plan.specs.Net.{end_at}
use Rattle.tree_network.proofs.EndLemmas.{at_boxes}
use Rattle.tree_network.proofs.links.port_end.Given as goal

-- the place is not at a box so far
abbrev pub invariant-loop-number : goal.invariant-loop-number
invariant-loop-number l =
    end_at (places_of l.plan) (Port l.sought l.port)
    ≡ at_boxes l.plan l.sought l.port l.before l.number (drop l.number l.plan.boxes)
