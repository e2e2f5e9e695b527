use Rattle.std.proofs.Common.{sym, subst}
use Rattle.query_tables.specs.Spots.{AreSites}
use Rattle.query_tables.proofs.RunLemmas.{sites_more}
use Rattle.query_tables.proofs.sites.sites_of.Goals as goal

pub loop-at-preserved : goal.loop-at-preserved
loop-at-preserved c =
    subst (AreSites c.args.net.now c.args.b c.args.spots.now c.site_from-site.result.to) (sym c.in_ok-push.ensures)
    (sites_more c.args.net.now c.args.b c.args.spots.now c.requires.spots c.loop-at.at c.loop-at.sites.items
    c.site_from-site.result c.loop-at.invariant c.loop-at-test.true c.site_from-site.ensures.from
    c.site_from-site.ensures.run c.site_from-site.ensures.start)
