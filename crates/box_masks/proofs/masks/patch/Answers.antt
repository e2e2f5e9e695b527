use Rattle.std.proofs.Common.{ℕ, sym, ap, subst, ◌∙◌}
use Rattle.box_masks.specs.Writes.{IsPatched}
use Rattle.box_masks.specs.Bits.{tuples_at, patched}
use Rattle.box_masks.proofs.MaskLemmas.{patch_is_exact, patch_bits}
use Rattle.box_masks.proofs.masks.patch.Goals as goal

pub returns-clause-bits : goal.returns-clause-bits
returns-clause-bits c =
    subst (λ (n : ℕ). IsPatched c.args.net.now c.args.b c.args.update.now c.args.q c.args.w n)
    (sym (c.patched.ensures.mask
    ∙ ap (λ queries. patched (tuples_at c.args.net.now c.args.b c.args.q queries) c.args.update.now c.args.w)
    c.queries.ensures.queries))
    (patch_bits c.args.net.now c.args.b c.args.q c.args.update.now c.args.w)

pub returns-clause-exact : goal.returns-clause-exact
returns-clause-exact c contents e =
    patch_is_exact c.held_with.ensures c.held_without.ensures c.args.net.now c.args.b c.args.q c.args.update.now c.args.w
    contents e
    ∙ sym (c.patched.ensures.mask
    ∙ ap (λ queries. patched (tuples_at c.args.net.now c.args.b c.args.q queries) c.args.update.now c.args.w)
    c.queries.ensures.queries)
