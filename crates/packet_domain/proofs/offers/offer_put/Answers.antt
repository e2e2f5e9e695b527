use Rattle.std.proofs.Common.{ap, ◌∙◌}
use Rattle.net_plan.specs.declared.fact.Fact.TheVariants.{Out}
use Rattle.net_plan.specs.declared.fact.Place.TheVariants.{Port}
use Rattle.move_table.specs.Offered.{Is}
use Rattle.packet_domain.specs.Reasons.{IsPutOut}
use Rattle.move_table.proofs.OfferedLemmas.{offered_as}
use Rattle.packet_domain.proofs.PlaceLemmas.{end_settled}
use Rattle.packet_domain.proofs.offers.offer_put.Goals as goal

pub returns : goal.returns
returns g c =
    let plan = c.args.net.now in
    let put = c.args.put in
    let end = c.end_of_port-end.result in
    offered_as plan (Is (Out end put.packet)) (IsPutOut plan c.args.b put) c.args.work.now c.offer.new.work
    (λ fact in' is. (end, c.end_of_port-end.ensures, is))
    (λ fact in' out. out.2
    ∙ ap (λ e. Out e put.packet)
    (end_settled plan out.0 end (Port c.args.b put.port) out.1 c.end_of_port-end.ensures))
    c.offer.ensures
