use Rattle.std.proofs.Common.{◌≤◌, List, length, subst}
use Rattle.box_handlers.specs.declared.act.Query.{Query}
use Rattle.query_tables.specs.Tables.{queries_of}
use Rattle.move_table.proofs.EffectLemmas.{result_is, result_below, result_exact}
use Rattle.move_table.proofs.effect.patched.Goals as goal

pub returns-clause-below : goal.returns-clause-below
returns-clause-below c =
    let few : queries_of c.args.net.now c.args.b ≤ 12 =
    subst (λ (l : List Query). length l ≤ 12) c.queries-queries.ensures.queries c.queries-queries.ensures.few in
    result_below c.laws.ensures.held_with c.laws.ensures.held_without c.args.net.now c.args.b c.args.q c.args.update.now
    c.args.effect.now c.requires.effect few c.args.w c.overwritten.result
    (result_is c.laws.ensures.held_with c.laws.ensures.held_without c.args.net.now c.args.b c.args.q c.args.update.now
    c.args.effect.now c.requires.effect few c.args.w c.overwritten.result c.requires.mask c.overwritten.ensures.mask
    c.overwritten.ensures.small)

pub returns-clause-exact : goal.returns-clause-exact
returns-clause-exact c =
    let few : queries_of c.args.net.now c.args.b ≤ 12 =
    subst (λ (l : List Query). length l ≤ 12) c.queries-queries.ensures.queries c.queries-queries.ensures.few in
    result_exact c.laws.ensures.held_with c.laws.ensures.held_without c.args.net.now c.args.b c.args.q c.args.update.now
    c.args.effect.now c.requires.effect few c.args.w c.overwritten.result
    (result_is c.laws.ensures.held_with c.laws.ensures.held_without c.args.net.now c.args.b c.args.q c.args.update.now
    c.args.effect.now c.requires.effect few c.args.w c.overwritten.result c.requires.mask c.overwritten.ensures.mask
    c.overwritten.ensures.small)
