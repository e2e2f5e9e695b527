use Rattle.std.proofs.Common.{◌++◌, ◌∷◌, [], ℕ, List, map, sym, ap, ◌∙◌, append_assoc, zero-add}
use Rattle.std.specs.List.{range_with_len}
use Rattle.std.proofs.lemmas.List.FromFn.{map-range_with_len_more}
use Rattle.net_plan.specs.declared.fact.Place.{Place}
use Rattle.net_plan.specs.declared.fact.Place.TheVariants.{Host}
use Rattle.net_plan.proofs.tables.push_hosts.Goals as goal

pub loop-host-preserved : goal.loop-host-preserved
loop-host-preserved c =
    let host : ℕ = c.loop-host.host in
    let before : List Place = c.args.places.now in
    c.in_ok-push.ensures.ok
    ∙ ap (λ (places : List Place). places ++ Host host ∷ []) c.loop-host.invariant
    ∙ append_assoc before (map Host (range_with_len 0 host)) (Host host ∷ [])
    ∙ ap (λ (places : List Place). before ++ places) (sym (map-range_with_len_more Host 0 host host (zero-add host)))
