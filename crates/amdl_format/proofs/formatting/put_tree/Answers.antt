use Rattle.amdl_tree.specs.Layout.{layout_of_item, line}
use Rattle.amdl_format.proofs.ListLemmas.{pieces_step, pieces_done}
use Rattle.amdl_format.proofs.formatting.put_tree.Goals as goal

pub loop-item-preserved : goal.loop-item-preserved
loop-item-preserved c =
    let items = c.as_slice-item-items.ensures in record {
      text = pieces_step
          (λ item. line (layout_of_item item)) c.args.tree.now.items c.loop-item.item-index c.item-item.result
          c.loop-item.out.items c.put_item.new.out.items _
          (rw items at c.loop-item-test.true)
          (rw items at c.item-item.is) c.loop-item.invariant.text c.in_ok-put_item.ensures.ok;
      kept = λ front begun. c.put_item.ensures.kept front (c.loop-item.invariant.kept front begun);
    }

pub returns-clause-ok : goal.returns-clause-ok
returns-clause-ok c =
    pieces_done (λ item. line (layout_of_item item)) c.args.tree.now.items c.loop-item.item-index
    c.loop-item.out.items _ (rw c.as_slice-item-items.ensures at c.loop-item-test.false) c.loop-item.invariant.text
