use Rattle.std.proofs.Common.{◌++◌, sym, ap}
use Rattle.amdl_tree.specs.Layout.{layout_of_relation}
use Rattle.amdl_format.specs.Lines.{line_at}
use Rattle.amdl_format.proofs.LineLemmas.{text_of_lines}
use Rattle.amdl_format.proofs.ListLemmas.{pieces_step, pieces_done}
use Rattle.amdl_format.proofs.items.put_relations.Goals as goal

pub loop-relation-init : goal.loop-relation-init
loop-relation-init c = record {
  text = ap (λ text. c.args.out.now.items ++ text) (sym (text_of_lines 1 layout_of_relation c.args.relations.now));
  kept = λ front begun. begun;
}

pub loop-relation-preserved : goal.loop-relation-preserved
loop-relation-preserved c = record {
  text = pieces_step
      (λ relation. line_at 1
      (layout_of_relation relation)) c.args.relations.now c.loop-relation.relation-index c.relation-item.result
      c.loop-relation.out.items c.put_relation.new.out.items _
      c.loop-relation-test.true c.relation-item.is c.loop-relation.invariant.text c.in_ok-put_relation.ensures.ok;
  kept = λ front begun. c.put_relation.ensures.kept front (c.loop-relation.invariant.kept front begun);
}

pub returns-clause-ok : goal.returns-clause-ok
returns-clause-ok c =
    pieces_done
    (λ relation. line_at 1 (layout_of_relation relation)) c.args.relations.now c.loop-relation.relation-index
    c.loop-relation.out.items _ c.loop-relation-test.false c.loop-relation.invariant.text
