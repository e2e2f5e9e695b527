use Rattle.std.proofs.Common.{◌++◌, codes, ap}
use Rattle.amdl_tree.specs.Layout.{layout_of_atom}
use Rattle.amdl_format.proofs.ListLemmas.{led_first, led_step_twice, led_done}
use Rattle.amdl_format.proofs.parts.put_first.Goals as goal

pub loop-atom-init : goal.loop-atom-init
loop-atom-init c = record {
  text = ap (λ text. c.args.out.now.items ++ text) (led_first c.args.first.now);
  kept = λ front begun. begun;
}

pub loop-atom-preserved : goal.loop-atom-preserved
loop-atom-preserved c = record {
  text = led_step_twice c.loop-atom.before.now
      (codes ", ") layout_of_atom c.args.first.now c.loop-atom.atom-index c.atom-item.result
      c.loop-atom.out.items c.put_all.new.out.items c.put_atom.new.out.items _
      c.loop-atom-test.true c.atom-item.is c.loop-atom.invariant.text c.in_ok-put_all.ensures.ok
      c.in_ok-put_atom.ensures.ok;
  kept = λ front begun. c.put_atom.ensures.kept front
      (c.put_all.ensures.kept front (c.loop-atom.invariant.kept front begun));
}

pub returns-clause-ok : goal.returns-clause-ok
returns-clause-ok c =
    led_done c.loop-atom.before.now (codes ", ") layout_of_atom c.args.first.now c.loop-atom.atom-index
    c.loop-atom.out.items _ c.loop-atom-test.false c.loop-atom.invariant.text
