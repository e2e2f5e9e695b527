use Rattle.std.proofs.Common.{◌≡◌, ◌++◌, codes, drop}
use Rattle.amdl_tree.specs.Layout.{joined, layout_of_guard, layout_of_lit}
use Rattle.amdl_format.specs.Fronts.{KeepsFronts}
use Rattle.amdl_format.specs.Lines.{led}
use Rattle.amdl_format.proofs.guards.+guards.Given as goal

abbrev pub invariant-put_guard-loop-lits : goal.invariant-put_guard-loop-lits
invariant-put_guard-loop-lits l = record {
  text : l.out.items
      ++ led l.before (codes " or ") (joined (codes " and ") layout_of_lit) (drop l.lits-index l.guard.any)
      ≡ l.fn.out.items ++ layout_of_guard l.guard;
  kept : KeepsFronts l.fn.out.items l.out.items;
}

abbrev pub invariant-put_conj-loop-lit : goal.invariant-put_conj-loop-lit
invariant-put_conj-loop-lit l = record {
  text : l.out.items ++ led l.before (codes " and ") layout_of_lit (drop l.lit-index l.lits) ≡ l.fn.out.items
      ++ joined (codes " and ") layout_of_lit l.lits;
  kept : KeepsFronts l.fn.out.items l.out.items;
}
