use Rattle.std.proofs.Common.{◌≡◌, ℕ, ◌++◌, ◌≤◌, length, sym, ap, subst, ◌∙◌, arith}
use Rattle.std.specs.List.{flat_map, range_with_len}
use Rattle.std.specs.List.Sorted.{IsPermutation}
use Rattle.header_set.specs.Headers.{product}
use Rattle.net_plan.specs.Plan.{packets_of}
use Rattle.query_tables.specs.Spots.{spots_over, spots_in}
use Rattle.query_tables.proofs.ListLemmas.{pieces_more}
use Rattle.query_tables.proofs.SpotLemmas.{spots_sorted, few_spots}
use Rattle.query_tables.proofs.spots.spots_of.Goals as goal

pub loop-p-preserved : goal.loop-p-preserved
loop-p-preserved c =
    c.in_ok-push_spots.ensures
    ∙ ap (λ row. c.loop-p.spots.items ++ spots_over row c.loop-p.p row) c.row_at-row.ensures.tuples
    ∙ ap (λ l. l ++ spots_in c.args.net.now c.args.b c.loop-p.p) c.loop-p.invariant
    ∙ sym (pieces_more (spots_in c.args.net.now c.args.b) c.loop-p.p)

pub returns-clause-spots : goal.returns-clause-spots
returns-clause-spots c =
    let plan = c.args.net.now in
    let packets : c.count-packets.result ≡ packets_of plan =
    c.count-packets.ensures.product ∙ ap product c.headers.ensures in
    let all : c.loop-p.p ≡ packets_of plan = omega (arith, packets, c.loop-p.auto.p-end, c.loop-p-test.false) in
    let made = c.loop-p.invariant ∙ ap (λ (n : ℕ). flat_map (spots_in plan c.args.b) (range_with_len 0 n)) all in
    spots_sorted plan c.args.b c.sort.new.spots.items
    (subst (λ (n : ℕ). n ≤ 65536) packets c.count-packets.ensures.bounded)
    (subst (λ l. IsPermutation l c.sort.new.spots.items) made c.sort.ensures.spots) c.sort.ensures.rising

pub returns-clause-few : goal.returns-clause-few
returns-clause-few c =
    let plan = c.args.net.now in
    let packets : c.count-packets.result ≡ packets_of plan =
    c.count-packets.ensures.product ∙ ap product c.headers.ensures in
    let all : c.loop-p.p ≡ packets_of plan = omega (arith, packets, c.loop-p.auto.p-end, c.loop-p-test.false) in
    let made = c.loop-p.invariant ∙ ap (λ (n : ℕ). flat_map (spots_in plan c.args.b) (range_with_len 0 n)) all in
    few_spots plan c.args.b c.sort.new.spots.items
    (subst (λ (n : ℕ). n ≤ 65536) packets c.count-packets.ensures.bounded)
    (subst (λ l. length l ≤ 12) c.queries.ensures.queries c.queries.ensures.few)
    (subst (λ l. IsPermutation l c.sort.new.spots.items) made c.sort.ensures.spots)
