use Rattle.std.proofs.Common.{◌≡◌, ◌++◌, drop}
use Rattle.std.specs.List.{flat_map}
use Rattle.amdl_tree.specs.Layout.{lines_of_handler}
use Rattle.amdl_format.specs.Fronts.{KeepsFronts}
use Rattle.amdl_format.specs.Lines.{text_at}
use Rattle.amdl_format.proofs.items.put_handlers.Given as goal

abbrev pub invariant-loop-handler : goal.invariant-loop-handler
invariant-loop-handler l = record {
  text : l.out.items ++ flat_map (λ handler. text_at 1 (lines_of_handler handler)) (drop l.handler-index l.handlers)
      ≡ l.fn.out.items ++ text_at 1 (flat_map lines_of_handler l.handlers);
  kept : KeepsFronts l.fn.out.items l.out.items;
}
