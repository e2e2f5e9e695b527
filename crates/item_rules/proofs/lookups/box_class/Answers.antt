use Rattle.item_rules.proofs.FoundLemmas.{box_told}
use Rattle.item_rules.proofs.lookups.box_class.Goals as goal

pub loop-item-init : goal.loop-item-init
loop-item-init c = box_told c.args.name c.args.before.now
