use Rattle.schedule_text.specs.Written.{further_text}
use Rattle.schedule_text.proofs.FrontLemmas.{pieces_next, pieces_done}
use Rattle.schedule_text.proofs.writing.put_further.Goals as goal

pub loop-choice-preserved : goal.loop-choice-preserved
loop-choice-preserved c = record {
  text = pieces_next further_text c.args.choices.now c.loop-choice.choice-index 0 c.loop-choice.out.items
      c.put_one_more.new.out.items _ c.loop-choice-test.true c.loop-choice.invariant.text
      c.in_ok-put_one_more.ensures.ok;
  kept = λ front begun. c.put_one_more.ensures.kept front (c.loop-choice.invariant.kept front begun);
}

pub returns-clause-ok : goal.returns-clause-ok
returns-clause-ok c =
    pieces_done further_text c.args.choices.now c.loop-choice.choice-index c.loop-choice.out.items _
    c.loop-choice-test.false c.loop-choice.invariant.text
