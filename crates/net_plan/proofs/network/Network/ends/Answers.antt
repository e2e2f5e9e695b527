use Rattle.std.proofs.Common.{◌≡◌, length, ap, ◌∙◌, arith}
use Rattle.net_plan.specs.Ends.{ends_of, places_of}
use Rattle.net_plan.proofs.TableLemmas.{ends_small}
use Rattle.net_plan.proofs.network.Network.ends.Goals as goal

pub overflow_cast-result : goal.overflow_cast-result
overflow_cast-result c =
    let counted : length c.as_slice.result.now ≡ ends_of c.args.self.now =
    ap length (c.as_slice.ensures ∙ c.self.invariant.places_are ∙ ap places_of c.self.view_is) in
    omega (arith, counted, ends_small c.args.self.now c.sound.ensures)

pub returns-clause-few : goal.returns-clause-few
returns-clause-few c =
    let counted : length c.as_slice.result.now ≡ ends_of c.args.self.now =
    ap length (c.as_slice.ensures ∙ c.self.invariant.places_are ∙ ap places_of c.self.view_is) in
    omega (arith, counted, ends_small c.args.self.now c.sound.ensures)
