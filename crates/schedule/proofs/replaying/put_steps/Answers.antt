use Rattle.std.proofs.Common.{◌+◌, sym, refl, subst, arith, length, take}
use Rattle.std.proofs.lemmas.Option.{slice_get_read}
use Rattle.schedule.specs.Replays.{IsStopped, SoFar}
use Rattle.schedule.proofs.ReplayLemmas.{stopped, next_told}
use Rattle.schedule.proofs.replaying.put_steps.Goals as goal

pub returns-in-Err-clause-told : goal.returns-in-Err-clause-told
returns-in-Err-clause-told c =
    let steps = c.args.steps.now in
    subst (λ r. IsStopped c.args.net.now c.args.state.now steps c.args.out.now.items r c.put_step.new.out.items)
    (sym c.refused.ensures)
    (stopped c.args.net.now c.args.state.now steps c.args.out.now.items c.loop-k.state c.loop-k.k c.index-steps-k.result
    c.loop-k.out.items c.put_step.new.out.items c.loop-k.bad c.in-Err.why
    (slice_get_read steps (length steps) c.loop-k.k c.index-steps-k.result refl (omega (arith, c.loop-k-test.true))
    c.index-steps-k.is) c.loop-k.invariant.so_far c.in-Err.ensures.told)

pub loop-k-preserved : goal.loop-k-preserved
loop-k-preserved c = let steps = c.args.steps.now in record {
  so_far = subst
      (λ n. SoFar c.args.net.now c.args.state.now c.put_step.new.state (take (c.loop-k.k + 1) steps)
      c.args.out.now.items c.put_step.new.out.items n)
      (sym c.counted-bad.ensures)
      (next_told c.args.net.now c.args.state.now steps c.args.out.now.items c.loop-k.state c.put_step.new.state
      c.loop-k.k c.index-steps-k.result c.loop-k.out.items c.put_step.new.out.items c.loop-k.bad c.in-Ok.is_bad
      c.runs_compose.ensures c.step_keeps_world.ensures c.sound.ensures
      (slice_get_read steps (length steps) c.loop-k.k c.index-steps-k.result refl (omega (arith, c.loop-k-test.true))
      c.index-steps-k.is) c.loop-k.invariant.so_far c.in-Ok.ensures.told);
  kept = λ front begun. c.put_step.ensures.kept front (c.loop-k.invariant.kept front begun);
}
