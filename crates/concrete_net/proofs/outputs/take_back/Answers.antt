use Rattle.concrete_net.proofs.OutputLemmas as lemmas
use Rattle.concrete_net.proofs.outputs.take_back.Goals as goal

pub take_last-requires-clause-some : goal.take_last-requires-clause-some
take_last-requires-clause-some c = λ packets there.
    c.requires.some c.in-Some.field-0 packets c.in-Some.ensures.linked there

pub returns-in-Some : goal.returns-in-Some
returns-in-Some c = λ packet before less puts.
    lemmas.taken_back c.args.net.now c.args.end packet before c.args.waiting.now less puts c.in-Some.field-0
    c.take_last.new.waiting c.in-Some.ensures.linked c.take_last.ensures

pub returns-in-None : goal.returns-in-None
returns-in-None c = λ packet before less puts.
    lemmas.none_put c.args.net.now c.args.end packet before c.args.waiting.now less puts c.in-None.ensures.linked
