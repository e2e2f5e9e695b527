use Rattle.std.proofs.Common.{◌≡◌, ℕ, ◌<◌, length, get_or, ap, subst, sym, arith}
use Rattle.net_plan.specs.Ends.{ends_of}
use Rattle.net_plan.specs.declared.fact.Place.TheVariants.{Port}
use Rattle.net_plan.proofs.EndLemmas.{end_in_range}
use Rattle.concrete_net.specs.PutOut.{PutsOutThere}
use Rattle.concrete_net.proofs.OutputLemmas.{none, first_out, some_there}
use Rattle.concrete_net.proofs.outputs.+put_out_all.Goals as goal

end_there : (t : ℕ) (c : goal.After-take_back-arg-1 t) → c.end_of_port-end.result < length c.args.waiting.now
end_there t c =
    let less : c.end_of_port-end.result < ends_of c.args.net.now =
    end_in_range c.args.net.now c.end_of_port-end.result (Port c.args.b (get_or c.args.outputs.now 0 none).port)
    c.end_of_port-end.ensures in
    omega (arith, less, c.requires.channels)

pub take_back-requires-clause-some : goal.take_back-requires-clause-some
take_back-requires-clause-some t c =
    some_there c.args.net.now c.end_of_port-end.result (get_or c.args.outputs.now 0 none).packet c.args.waiting.now
    c.put_out_all.new.waiting (end_there t c)
    (subst
    (PutsOutThere c.args.net.now c.end_of_port-end.result (get_or c.args.outputs.now 0 none).packet
    c.args.waiting.now) (sym c.in-Err.ensures.err) c.in_ok-put_out-in-len1-up.ensures.ok)

pub returns-in-Ok-clause-ok : goal.returns-in-Ok-clause-ok
returns-in-Ok-clause-ok t c =
    first_out c.args.net.now c.args.b c.end_of_port-end.result c.args.outputs.now c.args.waiting.now
    c.put_out.new.waiting c.put_out_all.new.waiting c.in-len1-up.len_at_least c.end_of_port-end.ensures
    c.in_ok-put_out-in-len1-up.ensures.ok c.in-Ok.ensures.ok

back : (t : ℕ) (c : goal.After-take_back t) → c.take_back.new.waiting ≡ c.args.waiting.now
back t c =
    let less : c.end_of_port-end.result < ends_of c.args.net.now =
    end_in_range c.args.net.now c.end_of_port-end.result (Port c.args.b (get_or c.args.outputs.now 0 none).port)
    c.end_of_port-end.ensures in
    c.take_back.ensures (get_or c.args.outputs.now 0 none).packet c.args.waiting.now
    (omega (arith, less, c.requires.channels))
    (subst
    (PutsOutThere c.args.net.now c.end_of_port-end.result (get_or c.args.outputs.now 0 none).packet
    c.args.waiting.now) (sym c.in-Err.ensures.err) c.in_ok-put_out-in-len1-up.ensures.ok)

pub returns-in-Err-clause-channels : goal.returns-in-Err-clause-channels
returns-in-Err-clause-channels t c = ap length (back t c)

pub returns-in-Err-clause-err : goal.returns-in-Err-clause-err
returns-in-Err-clause-err t c = back t c
