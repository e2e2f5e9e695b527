use Rattle.std.proofs.Common.{◌≡◌, ℕ, ◌++◌, sym, ap, ◌∙◌, arith}
use Rattle.std.specs.List.{flat_map, range_with_len}
use Rattle.header_set.specs.Headers.{product}
use Rattle.net_plan.specs.Plan.{packets_of}
use Rattle.query_tables.specs.Tables.{tuples_in}
use Rattle.query_tables.proofs.ListLemmas.{pieces_more}
use Rattle.query_tables.proofs.table.tuples_of.Goals as goal

pub loop-p-preserved : goal.loop-p-preserved
loop-p-preserved c =
    c.in_ok-push_packet.ensures
    ∙ ap (λ l. l ++ tuples_in c.args.net.now c.args.b c.loop-p.p) c.loop-p.invariant
    ∙ sym (pieces_more (tuples_in c.args.net.now c.args.b) c.loop-p.p)

pub returns : goal.returns
returns c =
    let plan = c.args.net.now in
    let packets : c.count-packets.result ≡ packets_of plan =
    c.count-packets.ensures.product ∙ ap product c.headers.ensures in
    let all : c.loop-p.p ≡ packets_of plan = omega (arith, packets, c.loop-p.auto.p-end, c.loop-p-test.false) in
    c.loop-p.invariant ∙ ap (λ (n : ℕ). flat_map (tuples_in plan c.args.b) (range_with_len 0 n)) all
