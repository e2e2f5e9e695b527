use Rattle.std.proofs.Common.{◌++◌, codes, ap, ◌∙◌, append-nil}
use Rattle.amdl_tree.specs.Layout.{as_written}
use Rattle.amdl_format.proofs.ListLemmas.{led_names, led_step, led_done}
use Rattle.amdl_format.proofs.parts.put_names.Goals as goal

pub loop-name-init : goal.loop-name-init
loop-name-init c = record {
  text = ap (λ text. c.args.out.now.items ++ text) (led_names c.args.names.now);
  kept = λ front begun. begun;
}

pub loop-name-preserved : goal.loop-name-preserved
loop-name-preserved c =
    let before = c.loop-name.out.items in
    let comma = c.loop-name.comma.now in
    let appended =
    c.in_ok-put_all.ensures.ok
    ∙ ap (λ t. before ++ (comma ++ t)) (append-nil c.bytes.result.now ∙ c.bytes.ensures.spelled) in record {
      text = led_step comma (codes ", ") as_written c.args.names.now c.loop-name.name-index c.name-item.result
          before c.put_all.new.out.items _ c.loop-name-test.true c.name-item.is c.loop-name.invariant.text appended;
      kept = λ front begun. c.put_all.ensures.kept front (c.loop-name.invariant.kept front begun);
    }

pub returns-clause-ok : goal.returns-clause-ok
returns-clause-ok c =
    led_done c.loop-name.comma.now (codes ", ") as_written c.args.names.now c.loop-name.name-index
    c.loop-name.out.items _ c.loop-name-test.false c.loop-name.invariant.text
