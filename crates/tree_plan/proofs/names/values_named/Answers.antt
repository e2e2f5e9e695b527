use Rattle.tree_plan.proofs.NameLemmas.{values_lost}
use Rattle.tree_plan.proofs.names.values_named.Goals as goal

pub returns-in-None : goal.returns-in-None
returns-in-None c =
    values_lost c.args.kinds.now c.args.name c.in-Some.place c.in-Some.ensures c.in-None.ensures.lookup.3
