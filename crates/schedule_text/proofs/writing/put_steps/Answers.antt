use Rattle.schedule_text.specs.Written.{line_of_step}
use Rattle.schedule_text.proofs.FrontLemmas.{pieces_step, pieces_done}
use Rattle.schedule_text.proofs.writing.put_steps.Goals as goal

pub loop-step-preserved : goal.loop-step-preserved
loop-step-preserved c = record {
  text = pieces_step (line_of_step c.args.net.now) c.args.steps.now c.loop-step.step-index c.step-item.result
      c.loop-step.out.items c.put_step.new.out.items _ c.loop-step-test.true c.step-item.is
      c.loop-step.invariant.text c.in_ok-put_step.ensures.ok;
  kept = λ front begun. c.put_step.ensures.kept front (c.loop-step.invariant.kept front begun);
}

pub returns-clause-ok : goal.returns-clause-ok
returns-clause-ok c =
    pieces_done (line_of_step c.args.net.now) c.args.steps.now c.loop-step.step-index c.loop-step.out.items _
    c.loop-step-test.false c.loop-step.invariant.text
