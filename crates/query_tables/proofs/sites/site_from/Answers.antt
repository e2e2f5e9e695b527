use Rattle.std.proofs.Common.{arith}
use Rattle.query_tables.proofs.RunLemmas.{run_some, run_one, run_from}
use Rattle.query_tables.proofs.sites.site_from.Goals as goal

pub part_of-requires-clause-from : goal.part_of-requires-clause-from
part_of-requires-clause-from c =
    let some =
    run_some c.args.net.now c.args.b c.args.spots.now c.requires.spots c.args.at c.end_of-to.result _ c.requires.there
    c.end_of-to.ensures.within c.end_of-to.ensures.before c.end_of-to.ensures.behind in
    omega (arith, some)

pub fixed_of-fixed-requires-clause-group : goal.fixed_of-fixed-requires-clause-group
fixed_of-fixed-requires-clause-group c =
    run_one c.args.net.now c.args.b c.args.spots.now c.requires.spots c.args.at c.end_of-to.result _ c.requires.there
    c.end_of-to.ensures.within c.end_of-to.ensures.before c.end_of-to.ensures.behind c.part_of.result.now
    c.part_of.ensures

pub returns-clause-run : goal.returns-clause-run
returns-clause-run c =
    run_from c.args.net.now c.args.b c.args.spots.now c.requires.spots c.args.at c.end_of-to.result _ c.requires.there
    c.end_of-to.ensures.within c.end_of-to.ensures.before c.end_of-to.ensures.behind c.part_of.result.now
    c.part_of.ensures c.requires.start c.fixed_of-fixed.result c.fits.ensures c.fixed_of-fixed.ensures.like
    c.fixed_of-fixed.ensures.below c.fixed_of-fixed.ensures.fixed c.fixed_of-fixed.ensures.all
