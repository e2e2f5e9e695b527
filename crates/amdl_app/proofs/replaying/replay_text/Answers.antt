use Rattle.std.proofs.Common.{refl, subst}
use Rattle.net_plan.specs.declared.plan.Plan.{Plan}
use Rattle.schedule_file.specs.Replaying.{IsToldOf}
use Rattle.amdl_app.proofs.replaying.replay_text.Goals as goal

pub returns : goal.returns
returns c = (
  c.in_ok-told.told.status,
  c.in_ok-told.told.text.items,
  subst
      (λ (plan : Plan). IsToldOf plan c.args.mode c.args.text.now c.in_ok-told.told.status
      c.in_ok-told.told.text.items) c.network.ensures c.in_ok-told.ensures,
  refl,
)
