use Rattle.std.proofs.Common.{sym, ap, ◌∙◌}
use Rattle.std.specs.List.{position}
use Rattle.std.specs.Option.{option_and_then}
use Rattle.std.specs.Prelude.{slice_get}
use Rattle.tree_plan.specs.Names.{same_name}
use Rattle.cell_counts.proofs.counted.Counted.box_overfills.Goals as goal

pub returns-in-Some : goal.returns-in-Some
returns-in-Some c before name first count =
    let counted = c.args.self.now in
    let told = c.cells_are_counted.ensures.told in
    c.overfills.ensures
    ∙ sym (told.box before name c.args.class first counted.packets counted.nodes c.in-Some.count counted.cells
    (told.named before counted.packets counted.nodes counted.cells c.args.class count.counts
    ∙ ap (λ names. option_and_then (slice_get counted.cells) (position (same_name c.args.class) names))
    (sym count.classes) ∙ sym c.cells_of.ensures ∙ c.in-Some.is) count.counts)

pub returns-in-None : goal.returns-in-None
returns-in-None c before name first count =
    let counted = c.args.self.now in
    let told = c.cells_are_counted.ensures.told in
    sym (told.classless before name c.args.class first
    (told.named before counted.packets counted.nodes counted.cells c.args.class count.counts
    ∙ ap (λ names. option_and_then (slice_get counted.cells) (position (same_name c.args.class) names))
    (sym count.classes) ∙ sym c.cells_of.ensures ∙ c.in-None.is))
