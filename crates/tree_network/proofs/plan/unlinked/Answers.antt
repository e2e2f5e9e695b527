use Rattle.std.proofs.Common.{Some, sym, ap, ◌∙◌}
use Rattle.amdl_tree.specs.Items.{kind_items, field_items}
use Rattle.tree_network.proofs.PlanLemmas.{seen_by, placed_nodes, plan_with, plan_made}
use Rattle.tree_network.proofs.plan.unlinked.Goals as goal

pub returns : goal.returns
returns c =
    (λ k. Some (record
    (plan_with c.args.tree.now c.in_ok-kinds.kinds c.in_ok-read.read c.args.nodes.now
    (c.in-Some.fields, c.in-Some.classes) (c.in-Some-2.hosts, c.in-Some-2.boxes))
    { kinds = c.into_plans.ensures k; links = c.new.ensures k }))
    ∙ plan_made c.args.tree.now c.in_ok-kinds.kinds c.in_ok-read.read c.args.nodes.now
    (c.in-Some.fields, c.in-Some.classes) (c.in-Some-2.hosts, c.in-Some-2.boxes)
    (c.in_ok-kinds.ensures ∙ ap kind_items c.as_slice-items.ensures)
    (c.in_ok-read.ensures ∙ ap field_items c.as_slice-items.ensures)
    c.requires
    (sym c.in-Some.is ∙ c.in_ok-fields.ensures
    ∙ (λ k. seen_by c.args.tree.now c.in_ok-kinds.kinds (c.as_slice.ensures k) c.args.nodes.now))
    (sym c.in-Some-2.is ∙ c.in_ok-hosts.ensures
    ∙ (λ k. placed_nodes (record c.args.tree.now { items = c.as_slice-items.ensures k })
    (c.plans.ensures k) (c.as_slice-2.ensures k) c.args.nodes.now))
