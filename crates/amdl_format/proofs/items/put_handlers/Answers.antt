use Rattle.std.proofs.Common.{◌++◌, sym, ap}
use Rattle.amdl_tree.specs.Layout.{lines_of_handler}
use Rattle.amdl_format.specs.Lines.{text_at}
use Rattle.amdl_format.proofs.LineLemmas.{text_of_parts}
use Rattle.amdl_format.proofs.ListLemmas.{pieces_step, pieces_done}
use Rattle.amdl_format.proofs.items.put_handlers.Goals as goal

pub loop-handler-init : goal.loop-handler-init
loop-handler-init c = record {
  text = ap (λ text. c.args.out.now.items ++ text) (sym (text_of_parts 1 lines_of_handler c.args.handlers.now));
  kept = λ front begun. begun;
}

pub loop-handler-preserved : goal.loop-handler-preserved
loop-handler-preserved c = record {
  text = pieces_step
      (λ handler. text_at 1
      (lines_of_handler handler)) c.args.handlers.now c.loop-handler.handler-index c.handler-item.result
      c.loop-handler.out.items c.put_handler.new.out.items _
      c.loop-handler-test.true c.handler-item.is c.loop-handler.invariant.text c.in_ok-put_handler.ensures.ok;
  kept = λ front begun. c.put_handler.ensures.kept front (c.loop-handler.invariant.kept front begun);
}

pub returns-clause-ok : goal.returns-clause-ok
returns-clause-ok c =
    pieces_done (λ handler. text_at 1 (lines_of_handler handler)) c.args.handlers.now c.loop-handler.handler-index
    c.loop-handler.out.items _ c.loop-handler-test.false c.loop-handler.invariant.text
