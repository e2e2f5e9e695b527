use Rattle.std.proofs.Common.{◌≡◌, ◌+◌, ◌-◌, ◌*◌, ◌++◌, codes, drop, map}
use Rattle.std.specs.List.{flat_map}
use Rattle.amdl_tree.specs.Layout.{branch_of_alternative, indented, lines_of_statement}
use Rattle.amdl_format.specs.Fronts.{KeepsFronts}
use Rattle.amdl_format.specs.Lines.{branches_behind, text_at}
use Rattle.amdl_format.proofs.statements.+statements.Given as goal

abbrev pub invariant-put_block-loop-stmt : goal.invariant-put_block-loop-stmt
invariant-put_block-loop-stmt l = record {
  text : l.out.items ++ flat_map (λ stmt. text_at l.inner (lines_of_statement stmt)) (drop l.stmt-index l.body)
      ≡ l.fn.out.items ++ text_at l.level (indented (flat_map lines_of_statement l.body));
  kept : KeepsFronts l.fn.out.items l.out.items;
}

abbrev pub invariant-put_alternatives-loop-alternative : goal.invariant-put_alternatives-loop-alternative
invariant-put_alternatives-loop-alternative l = record {
  text : l.out.items
      ++ text_at l.level
      (branches_behind l.before (map branch_of_alternative (drop l.alternative-index l.alternatives))) ≡ l.fn.out.items
      ++ text_at l.level (branches_behind (codes "if ") (map branch_of_alternative l.alternatives));
  kept : KeepsFronts l.fn.out.items l.out.items;
}

abbrev pub decreases-put_block : goal.decreases-put_block
decreases-put_block l = 8 * (33 - l.level) + 2

abbrev pub decreases-put_statement : goal.decreases-put_statement
decreases-put_statement l = 8 * (34 - l.level) + 1

abbrev pub decreases-put_pick : goal.decreases-put_pick
decreases-put_pick l = 8 * (33 - l.level) + 3

abbrev pub decreases-put_choice : goal.decreases-put_choice
decreases-put_choice l = 8 * (33 - l.level) + 5

abbrev pub decreases-put_alternatives : goal.decreases-put_alternatives
decreases-put_alternatives l = 8 * (33 - l.level) + 4

abbrev pub decreases-put_alternative : goal.decreases-put_alternative
decreases-put_alternative l = 8 * (33 - l.level) + 3
