use Rattle.std.proofs.Common.{◌++◌, codes, ap, ◌∙◌}
use Rattle.amdl_tree.specs.Layout.{layout_of_equal}
use Rattle.amdl_format.proofs.ListLemmas.{led_listed, led_step, led_done, names_between}
use Rattle.amdl_format.proofs.parts.put_equals.Goals as goal

pub loop-equal-init : goal.loop-equal-init
loop-equal-init c = record {
  text = ap (λ text. c.args.out.now.items ++ text) (led_listed layout_of_equal c.args.equals.now);
  kept = λ front begun. begun;
}

pub loop-equal-preserved : goal.loop-equal-preserved
loop-equal-preserved c =
    let before = c.loop-equal.out.items in
    let first = c.loop-equal.before.now in
    let equal = c.equal-item.result in
    let appended = c.in_ok-put_all.ensures.ok ∙ ap (λ text. before ++ (first ++ text))
    (names_between c.bytes.result.now (codes " = ") c.bytes-in-loop-equal.result.now equal.field equal.value
    c.bytes.ensures.spelled c.bytes-in-loop-equal.ensures.spelled) in record {
      text = led_step first (codes ", ") layout_of_equal c.args.equals.now c.loop-equal.equal-index equal
          before c.put_all.new.out.items _ c.loop-equal-test.true c.equal-item.is c.loop-equal.invariant.text appended;
      kept = λ front begun. c.put_all.ensures.kept front (c.loop-equal.invariant.kept front begun);
    }

pub returns-clause-ok : goal.returns-clause-ok
returns-clause-ok c =
    led_done c.loop-equal.before.now (codes ", ") layout_of_equal c.args.equals.now c.loop-equal.equal-index
    c.loop-equal.out.items _ c.loop-equal-test.false c.loop-equal.invariant.text
