use Rattle.std.proofs.lemmas.Result.{on_ok_weaker}
use Rattle.std.proofs.Common.{sym, subst, ◌∷◌, ◌++◌, []}
use Rattle.amdl_tree.specs.declared.tree.Item.{Item}
use Rattle.cell_counts.specs.Counts.{IsCountOf}
use Rattle.cell_counts.proofs.CountLemmas.{
  host_added,
  box_here,
  nothing_added,
  adds_nothing,
}
use Rattle.cell_counts.proofs.counted.Counted.add.Goals as goal

pub returns-in-Host : goal.returns-in-Host
returns-in-Host c =
    on_ok_weaker c.add_nodes.result
    (λ is. subst (λ (item : Item). IsCountOf (c.args.before.now ++ item ∷ []) c.add_nodes.new.self) (sym c.in-Host.is)
    (host_added c.args.before.now c.args.self.now c.add_nodes.new.self c.cells_are_counted.ensures.counted
    c.requires.counts c.in-Host.name is)) c.add_nodes.ensures

pub returns-in-Instance : goal.returns-in-Instance
returns-in-Instance c =
    let laws = c.cells_are_counted.ensures in
    on_ok_weaker c.add_box.result
    (box_here c.args.before.now c.args.item.now c.args.self.now c.add_box.new.self laws.counted laws.told laws.kept
    c.requires.counts c.in-Instance.name c.in-Instance.class c.in-Instance.first c.in-Instance.is c.requires.keeps
    c.requires.built) c.add_box.ensures

pub returns-in_default : goal.returns-in_default
returns-in_default c =
    nothing_added c.args.before.now c.args.item.now c.args.self.now c.cells_are_counted.ensures.counted
    (adds_nothing c.args.item.now c.in_default.not-Field c.in_default.not-Class c.in_default.not-Host
    c.in_default.not-Instance) c.requires.built c.requires.counts
