use Rattle.std.proofs.Common.{ℕ, ◌≡◌, ◌+◌, ◌*◌, ◌≤◌, length, take, drop, sym, ap, subst, ◌∙◌}
use Rattle.query_tables.specs.Tables.{queries_of, all_tuples}
use Rattle.query_tables.proofs.TableLemmas.{even_tuples, row_within, tuples_row}
use Rattle.query_tables.proofs.table.row_at.Goals as goal

pub row_of-requires : goal.row_of-requires
row_of-requires c =
    let plan = c.args.net.now in
    let width : length c.queries-queries.result.now ≡ queries_of plan c.args.b =
    ap length c.queries-queries.ensures.queries in
    subst (λ l. c.args.p * length c.queries-queries.result.now + length c.queries-queries.result.now ≤ length l)
    (sym c.requires.tuples)
    (subst (λ (n : ℕ). c.args.p * n + n ≤ length (all_tuples plan c.args.b)) (sym width)
    (row_within plan c.args.b c.args.p c.requires.packet))

pub returns-clause-tuples : goal.returns-clause-tuples
returns-clause-tuples c =
    let plan = c.args.net.now in
    let width : length c.queries-queries.result.now ≡ queries_of plan c.args.b =
    ap length c.queries-queries.ensures.queries in
    c.row_of.ensures
    ∙ ap (λ l. take (length c.queries-queries.result.now) (drop (c.args.p * length c.queries-queries.result.now) l))
    c.requires.tuples
    ∙ ap (λ (n : ℕ). take n (drop (c.args.p * n) (all_tuples plan c.args.b))) width
    ∙ tuples_row plan c.args.b c.args.p c.requires.packet

pub returns-clause-few : goal.returns-clause-few
returns-clause-few c =
    let plan = c.args.net.now in
    subst (λ (n : ℕ). n ≤ 12)
    (ap length c.queries-queries.ensures.queries ∙ sym (even_tuples plan c.args.b c.args.p)
    ∙ sym (ap length (returns-clause-tuples c)))
    c.queries-queries.ensures.few
