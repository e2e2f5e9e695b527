use Rattle.std.proofs.Common.{length, map, refl, ap, subst, ◌∙◌}
use Rattle.query_tables.specs.declared.spots.Spot.{Spot}
use Rattle.query_tables.specs.Spots.{AreSites}
use Rattle.query_tables.proofs.StoredLemmas.{table_is}
use Rattle.query_tables.proofs.table.table_of.Goals as goal

pub returns : goal.returns
returns c =
    let spots = c.in_ok-spots.spots.items in
    table_is c.args.net.now c.args.b spots c.in_ok-spots.ensures.spots c.in_ok-sites.sites.items
    (subst (λ l. AreSites c.args.net.now c.args.b l (length l) c.in_ok-sites.sites.items) c.deref-3.ensures.value
    c.in_ok-sites.ensures)
    (record { tuples = c.in_ok-tuples.tuples; sites = c.in_ok-sites.sites; members = c.in_ok-members.members })
    c.in_ok-tuples.ensures refl
    (c.in_ok-members.ensures ∙ ap (map (λ (spot : Spot). spot.packet)) c.deref-4.ensures.value)
    c.in_ok-spots.ensures.few
