use Rattle.std.proofs.Common.{◌++◌, codes, sym, ap, ◌∙◌}
use Rattle.amdl_tree.specs.Layout.{layout_of_change}
use Rattle.amdl_format.specs.Lines.{led}
use Rattle.amdl_tree.proofs.AppendLemmas.{then_text}
use Rattle.amdl_format.proofs.ListLemmas.{led_changes, led_step, led_done, names_between}
use Rattle.amdl_format.proofs.parts.put_changes.Goals as goal

pub loop-change-preserved : goal.loop-change-preserved
loop-change-preserved c =
    let before = c.loop-change.out.items in
    let first = c.loop-change.before.now in
    let change = c.change-item.result in
    let appended = c.in_ok-put_all.ensures.ok ∙ ap (λ text. before ++ (first ++ text))
    (names_between c.bytes.result.now (codes " := ") c.bytes-in-loop-change.result.now change.field change.value
    c.bytes.ensures.spelled c.bytes-in-loop-change.ensures.spelled) in record {
      text = led_step first (codes ", ") layout_of_change c.args.changes.now c.loop-change.change-index change
          before c.put_all.new.out.items _ c.loop-change-test.true c.change-item.is c.loop-change.invariant.text
          appended;
      kept = λ front begun. c.put_all.ensures.kept front (c.loop-change.invariant.kept front begun);
    }

pub returns-clause-ok : goal.returns-clause-ok
returns-clause-ok c =
    let old = c.args.out.now.items in
    let changes = c.args.changes.now in
    let all = led (codes " [") (codes ", ") layout_of_change changes in
    let done = led_done c.loop-change.before.now (codes ", ") layout_of_change changes c.loop-change.change-index
    c.loop-change.out.items (old ++ all) c.loop-change-test.false c.loop-change.invariant.text in
    then_text _ old c.loop-change.out.items c.put_all-2.new.out.items all (codes "]") _
    done (led_changes changes (sym c.is_empty.ensures ∙ c.if-is_empty.false)) c.put_all-2.ensures.ok
