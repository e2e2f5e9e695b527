use Rattle.std.proofs.Common.{sym, ap, ◌∙◌}
use Rattle.net_plan.specs.declared.plan.Plan.{Plan}
use Rattle.box_masks.specs.Bits.{patched}
use Rattle.box_masks.proofs.MaskLemmas.{patch_is_exact}
use Rattle.query_tables.specs.Tables.{tuples_in}
use Rattle.query_tables.proofs.masks.patch.Goals as goal

pub returns-clause-exact : goal.returns-clause-exact
returns-clause-exact c contents e =
    patch_is_exact c.held_with.ensures c.held_without.ensures c.args.net.now c.args.b c.args.q c.args.update.now
    c.args.w contents e
    ∙ sym (c.patched.ensures.mask
    ∙ ap (λ tuples. patched tuples c.args.update.now c.args.w)
    (c.tuples.ensures ∙ ap (λ (net : Plan). tuples_in net c.args.b c.args.q) c.requires.tables))
