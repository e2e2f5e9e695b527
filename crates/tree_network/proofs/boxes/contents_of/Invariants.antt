use Rattle.std.proofs.Common.{◌≡◌, drop, fold}
use Rattle.std.specs.Option.{option_map}
use Rattle.box_contents.specs.Contents.{with_entry}
use Rattle.tree_plan.specs.Names.{all_some}
use Rattle.tree_plan.specs.Net.{entry_of, contents_of}
use Rattle.tree_plan.specs.Tables.{kinds_back}
use Rattle.tree_network.proofs.boxes.contents_of.Given as goal

-- the tuples behind are still to be put into the contents
abbrev pub invariant-loop-atom : goal.invariant-loop-atom
invariant-loop-atom l =
    contents_of (kinds_back l.kinds) l.first l.class
    ≡ option_map (fold with_entry l.contents)
    (all_some (entry_of (kinds_back l.kinds) l.class) (drop l.atom-index l.first))
