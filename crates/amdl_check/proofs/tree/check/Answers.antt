use Rattle.amdl_check.proofs.CheckLemmas.{accepted, refused}
use Rattle.amdl_check.proofs.tree.check.Goals as goal

pub returns-clause-accepted : goal.returns-clause-accepted
returns-clause-accepted c formed plan spelled =
    accepted c.one_answer.ensures c.args.tree.now c.check_items.result c.check_items.ensures formed plan spelled

pub returns-clause-refused : goal.returns-clause-refused
returns-clause-refused c =
    refused c.one_answer.ensures c.args.tree.now c.check_items.result c.check_items.ensures
