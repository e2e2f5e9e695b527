use Rattle.std.proofs.Common.{◌≡◌, drop}
use Rattle.net_plan.specs.Ends.{places_of}
use Rattle.tree_plan.specs.Names.{all_some}
use Rattle.tree_plan.specs.Net.{link_by}
use Rattle.tree_network.specs.Reads.{placed_by, links_back}
use Rattle.tree_plan.proofs.StepLemmas.{with_front}
use Rattle.tree_network.proofs.links.links_of.Given as goal

-- the links so far stand in front of the others
abbrev pub invariant-loop-item : goal.invariant-loop-item
invariant-loop-item l =
    all_some (link_by (placed_by l.nodes) (places_of l.plan)) (links_back l.items)
    ≡ with_front l.links (all_some (link_by (placed_by l.nodes) (places_of l.plan))
    (links_back (drop l.item-index l.items)))
