use Rattle.std.proofs.Common.{◌≡◌, ◌≤◌, ◌<◌, ◌++◌, ℕ, List, length, sym, ap, ◌∙◌, append_assoc, arith}
use Rattle.std.specs.Prelude.{codes}
use Rattle.net_plan.specs.declared.plan.Plan.{Plan}
use Rattle.plan_text.specs.Text.{text_of_field, text_of_packet}
use Rattle.amdl_tree.proofs.AppendLemmas.{on_err, part_after}
use Rattle.plan_text.proofs.ListedLemmas.{up_to, up_to_at, up_to_more}
use Rattle.plan_text.proofs.PlanLemmas.{length-sizes}
use Rattle.plan_text.proofs.lines.put_packet.Goals as goal

-- what stands before field k of a packet, its comma, the field, and what stands behind it
field_placed : (plan : Plan) (packet k fields : ℕ) → 1 ≤ k → k < fields → fields ≡ length plan.fields →
    (rest : List ℕ) × (text_of_packet plan packet
    ≡ up_to (text_of_field plan packet) k ++ (codes ", " ++ (text_of_field plan packet k ++ rest)))
field_placed plan packet k fields some below count =
    up_to_at (text_of_field plan packet) k (length plan.fields) some (omega arith)

pub returns-in_err-put_all-clause-err : goal.returns-in_err-put_all-clause-err
returns-in_err-put_all-clause-err c =
    let plan = c.args.network.now in
    let f = text_of_field plan c.args.packet in
    let k = c.loop-k.k in
    let count = c.fields-fields.ensures.length ∙ ap length c.headers.ensures ∙ length-sizes plan in
    let placed = field_placed plan c.args.packet k c.fields-fields.result c.loop-k.auto.k c.loop-k-test.true count in
    on_err _ (part_after c.args.out.now.items c.loop-k.out.items c.put_all.new.out.items
    (up_to f k) (codes ", ") (f k ++ placed.0) (text_of_packet plan c.args.packet)
    c.loop-k.invariant placed.1 c.in_err-put_all.ensures.err)

pub returns-in_err-put_field-2-clause-err : goal.returns-in_err-put_field-2-clause-err
returns-in_err-put_field-2-clause-err c =
    let plan = c.args.network.now in
    let f = text_of_field plan c.args.packet in
    let k = c.loop-k.k in
    let count = c.fields-fields.ensures.length ∙ ap length c.headers.ensures ∙ length-sizes plan in
    let placed = field_placed plan c.args.packet k c.fields-fields.result c.loop-k.auto.k c.loop-k-test.true count in
    on_err _ (part_after c.args.out.now.items c.put_all.new.out.items c.put_field-in-loop-k.new.out.items
    (up_to f k ++ codes ", ") (f k) placed.0 (text_of_packet plan c.args.packet)
    (c.in_ok-put_all.ensures.ok ∙ ap (λ t. t ++ codes ", ") c.loop-k.invariant
    ∙ append_assoc c.args.out.now.items (up_to f k) (codes ", "))
    (placed.1 ∙ sym (append_assoc (up_to f k) (codes ", ") (f k ++ placed.0)))
    c.in_err-put_field-2.ensures.err)

pub loop-k-preserved : goal.loop-k-preserved
loop-k-preserved c =
    let f = text_of_field c.args.network.now c.args.packet in
    let k = c.loop-k.k in
    let old = c.args.out.now.items in
    c.in_ok-put_field-2.ensures.ok
    ∙ ap (λ t. t ++ f k) (c.in_ok-put_all.ensures.ok ∙ ap (λ t. t ++ codes ", ") c.loop-k.invariant)
    ∙ ap (λ t. t ++ f k) (append_assoc old (up_to f k) (codes ", "))
    ∙ append_assoc old (up_to f k ++ codes ", ") (f k)
    ∙ ap (λ t. old ++ t) (append_assoc (up_to f k) (codes ", ") (f k) ∙ sym (up_to_more f k c.loop-k.auto.k))

pub returns-clause-ok : goal.returns-clause-ok
returns-clause-ok c =
    let plan = c.args.network.now in
    let count = c.fields-fields.ensures.length ∙ ap length c.headers.ensures ∙ length-sizes plan in
    let all : c.loop-k.k ≡ length plan.fields = omega (arith, count) in
    c.loop-k.invariant ∙ ap (λ k. c.args.out.now.items ++ up_to (text_of_field plan c.args.packet) k) all
