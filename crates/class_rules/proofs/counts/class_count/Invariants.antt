use Rattle.std.proofs.Common.{◌≡◌, ◌≤◌, length, take}
use Rattle.amdl_tree.specs.Items.{class_items}
use Rattle.class_rules.proofs.counts.class_count.Given as goal

-- the classes so far, of which there are no more than items
abbrev pub invariant-loop-item : goal.invariant-loop-item
invariant-loop-item l = record {
  counted : l.count ≡ length (class_items (take l.item-index l.items));
  bounded : l.count ≤ l.item-index;
}
