use Rattle.std.proofs.Common.{ℕ, subst}
use Rattle.net_plan.specs.Ends.{IsEndAt}
use Rattle.net_plan.specs.declared.fact.Place.TheVariants.{Host}
use Rattle.net_plan.proofs.Linked.{partner_is_unique}
use Rattle.net_plan.proofs.network.Network.bad_delivery.Goals as goal

pub returns-in-Some : goal.returns-in-Some
returns-in-Some c = (
  λ yes. let found =
      c.forbidden_at.ensures.0 yes in (found.0, c.in-Some.other, c.in-Some.ensures.linked, found.1, found.2),
  λ bad. c.forbidden_at.ensures.1 (
    bad.0,
    subst (λ (end : ℕ). IsEndAt c.args.self.now end (Host bad.0))
        (partner_is_unique c.args.self.now c.args.end bad.1 c.in-Some.other c.sound.ensures bad.2
        c.in-Some.ensures.linked) bad.3,
    bad.4,
  ),
)

pub returns-in-None : goal.returns-in-None
returns-in-None c = (λ yes. absurd (cc), λ bad. absurd (c.in-None.ensures.linked bad.1 bad.2))
