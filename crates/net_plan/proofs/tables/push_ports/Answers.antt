use Rattle.std.proofs.Common.{◌++◌, ◌∷◌, [], ℕ, List, map, sym, ap, ◌∙◌, append_assoc, zero-add}
use Rattle.std.specs.List.{range_with_len}
use Rattle.std.proofs.lemmas.List.FromFn.{map-range_with_len_more}
use Rattle.net_plan.specs.declared.fact.Place.{Place}
use Rattle.net_plan.specs.declared.fact.Place.TheVariants.{Port}
use Rattle.net_plan.proofs.tables.push_ports.Goals as goal

pub loop-port-preserved : goal.loop-port-preserved
loop-port-preserved c =
    let port : ℕ = c.loop-port.port in
    let before : List Place = c.args.places.now in
    c.in_ok-push.ensures.ok
    ∙ ap (λ (places : List Place). places ++ Port c.args.number port ∷ []) c.loop-port.invariant
    ∙ append_assoc before (map (Port c.args.number) (range_with_len 0 port)) (Port c.args.number port ∷ [])
    ∙ ap (λ (places : List Place). before ++ places)
    (sym (map-range_with_len_more (Port c.args.number) 0 port port (zero-add port)))
