use Rattle.item_rules.proofs.BoxLemmas.{box_with}
use Rattle.item_rules.proofs.boxes.box_rule.Goals as goal

pub returns-in-Some : goal.returns-in-Some
returns-in-Some c =
    box_with c.args.before.now c.args.first.now c.args.declared.now c.args.name c.args.class c.in-Some.found.now
    c.as_slice.result.now c.is_node.result c.tuples_rule.result c.requires c.is_node.ensures c.if-is_node.false
    c.in-Some.ensures c.as_slice.ensures c.tuples_rule.ensures
