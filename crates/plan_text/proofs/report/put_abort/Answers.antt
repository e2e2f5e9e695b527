use Rattle.std.proofs.Common.{[], ◌++◌, refl, sym, ap, append-nil}
use Rattle.std.proofs.lemmas.Result.{on_err_weaker}
use Rattle.plan_text.specs.Text.{abort_start, abort_line, text_of_packet}
use Rattle.amdl_tree.proofs.AppendLemmas.{on_err, part_first, part_after}
use Rattle.plan_text.proofs.report.put_abort.Goals as goal

pub returns-in_err-put_abort_start-clause-err : goal.returns-in_err-put_abort_start-clause-err
returns-in_err-put_abort_start-clause-err c =
    let plan = c.args.network.now in
    on_err _ (part_first c.args.out.now.items c.put_abort_start.new.out.items (abort_start plan c.args.b c.args.packet)
    (text_of_packet plan c.args.packet)
    (abort_line plan c.args.b c.args.packet) refl c.in_err-put_abort_start.ensures.err)

pub returns-clause-err : goal.returns-clause-err
returns-clause-err c =
    let plan = c.args.network.now in
    let start = abort_start plan c.args.b c.args.packet in
    let fields = text_of_packet plan c.args.packet in
    on_err_weaker _
    (part_after c.args.out.now.items c.put_abort_start.new.out.items c.put_packet.new.out.items start fields []
    (abort_line plan c.args.b c.args.packet) c.in_ok-put_abort_start.ensures.ok
    (ap (λ t. start ++ t) (sym (append-nil fields))))
    c.put_packet.ensures.err
