use Rattle.std.proofs.Common.{sym, ap, ◌∙◌}
use Rattle.std.specs.Option.{option_or}
use Rattle.amdl_tree.specs.declared.tree.Item.TheVariants.{Instance}
use Rattle.item_rules.specs.CellsLast.{cells_rule}
use Rattle.amdl_check.proofs.seen.Seen.box_rule.Goals as goal

pub returns-in-Some : goal.returns-in-Some
returns-in-Some c =
    let item = Instance c.args.name c.args.class c.args.first.now in
    sym (c.cells_come_last.ensures.first c.args.before.now item
    ∙ ap (λ found. option_or found (cells_rule c.args.before.now item)) (sym c.box_rule.ensures ∙ c.in-Some.is))
