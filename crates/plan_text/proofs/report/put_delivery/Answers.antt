use Rattle.std.proofs.Common.{◌≡◌, ℕ, List, [], ◌++◌, sym, ap, append_assoc, append-nil}
use Rattle.std.specs.Prelude.{codes}
use Rattle.std.proofs.lemmas.Result.{on_err_weaker}
use Rattle.plan_text.specs.Text.{delivery_start, deliver_line, text_of_end, text_of_packet}
use Rattle.amdl_tree.proofs.AppendLemmas.{on_err, part_first, part_after, appended_after}
use Rattle.plan_text.proofs.report.put_delivery.Goals as goal

from_start : (start end colon fields : List ℕ) → start ++ end ++ colon ++ fields ≡ start ++ (end ++ (colon ++ fields))
from_start start end colon fields = simp append_assoc

from_colon : (start end colon fields : List ℕ) → start ++ end ++ colon ++ fields ≡ start ++ end ++ (colon ++ fields)
from_colon start end colon fields = simp append_assoc

pub returns-in_err-put_delivery_start-clause-err : goal.returns-in_err-put_delivery_start-clause-err
returns-in_err-put_delivery_start-clause-err c =
    let plan = c.args.network.now in
    let start = delivery_start plan c.args.host c.args.packet in
    let end = text_of_end plan c.args.end in
    let fields = text_of_packet plan c.args.packet in
    on_err _ (part_first c.args.out.now.items c.put_delivery_start.new.out.items start (end ++ (codes " : " ++ fields))
    (deliver_line plan c.args.host c.args.packet c.args.end)
    (from_start start end (codes " : ") fields) c.in_err-put_delivery_start.ensures.err)

pub returns-in_err-put_end-clause-err : goal.returns-in_err-put_end-clause-err
returns-in_err-put_end-clause-err c =
    let plan = c.args.network.now in
    let start = delivery_start plan c.args.host c.args.packet in
    let end = text_of_end plan c.args.end in
    let fields = text_of_packet plan c.args.packet in
    on_err _ (part_after c.args.out.now.items c.put_delivery_start.new.out.items c.put_end.new.out.items start end
    (codes " : " ++ fields)
    (deliver_line plan c.args.host c.args.packet c.args.end) c.in_ok-put_delivery_start.ensures.ok
    (from_start start end (codes " : ") fields) c.in_err-put_end.ensures.err)

pub returns-in_err-put_all-clause-err : goal.returns-in_err-put_all-clause-err
returns-in_err-put_all-clause-err c =
    let plan = c.args.network.now in
    let start = delivery_start plan c.args.host c.args.packet in
    let end = text_of_end plan c.args.end in
    let fields = text_of_packet plan c.args.packet in
    on_err _ (part_after c.args.out.now.items c.put_end.new.out.items c.put_all.new.out.items (start ++ end)
    (codes " : ") fields
    (deliver_line plan c.args.host c.args.packet c.args.end)
    (appended_after c.args.out.now.items c.put_delivery_start.new.out.items c.put_end.new.out.items start end
    c.in_ok-put_delivery_start.ensures.ok c.in_ok-put_end.ensures.ok)
    (from_colon start end (codes " : ") fields) c.in_err-put_all.ensures.err)

pub returns-clause-err : goal.returns-clause-err
returns-clause-err c =
    let plan = c.args.network.now in
    let start = delivery_start plan c.args.host c.args.packet in
    let end = text_of_end plan c.args.end in
    let fields = text_of_packet plan c.args.packet in
    let front = start ++ end ++ codes " : " in
    on_err_weaker _ (part_after c.args.out.now.items c.put_all.new.out.items c.put_packet.new.out.items front fields []
    (deliver_line plan c.args.host c.args.packet c.args.end)
    (appended_after c.args.out.now.items c.put_end.new.out.items c.put_all.new.out.items (start ++ end) (codes " : ")
    (appended_after c.args.out.now.items c.put_delivery_start.new.out.items c.put_end.new.out.items start end
    c.in_ok-put_delivery_start.ensures.ok c.in_ok-put_end.ensures.ok)
    c.in_ok-put_all.ensures.ok)
    (ap (λ t. front ++ t) (sym (append-nil fields))))
    c.put_packet.ensures.err
