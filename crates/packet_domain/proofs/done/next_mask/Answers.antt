use Rattle.std.proofs.Common.{ℕ, ◌+◌, ◌≤◌, ap, sym, subst, ◌∙◌, length, ◌^◌}
use Rattle.packet_domain.proofs.DoneLemmas.{masks_within, no_mask, some_mask}
use Rattle.packet_domain.proofs.done.next_mask.Goals as goal

pub next_in_few-requires-clause-cells : goal.next_in_few-requires-clause-cells
next_in_few-requires-clause-cells g c =
    subst (λ (n : ℕ). c.cell_of-first.result + c.pow-masks.result ≤ n) (sym c.requires.cells)
    (masks_within c.args.net.now c.args.work.now.done c.args.b c.args.p c.cell_of-first.result c.pow-masks.result
    c.cell_of-first.ensures.cell (c.pow-masks.ensures ∙ ap (λ l. 2 ^ length l) c.queries.ensures.queries)
    c.requires.boxed c.requires.packet)

pub returns-in-Some : goal.returns-in-Some
returns-in-Some g c =
    some_mask c.args.net.now c.args.work.now.done c.args.b c.args.p c.cell_of-first.result c.pow-masks.result
    c.cell_of-first.ensures.cell (c.pow-masks.ensures ∙ ap (λ l. 2 ^ length l) c.queries.ensures.queries)
    c.requires.boxed c.requires.packet c.args.from c.in-Some.found c.in-Some.ensures

pub returns-in-None : goal.returns-in-None
returns-in-None g c =
    no_mask c.args.net.now c.args.work.now.done c.args.b c.args.p c.cell_of-first.result c.pow-masks.result
    c.cell_of-first.ensures.cell (c.pow-masks.ensures ∙ ap (λ l. 2 ^ length l) c.queries.ensures.queries)
    c.requires.boxed c.requires.packet c.args.from c.in-None.ensures
