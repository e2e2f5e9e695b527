use Rattle.std.proofs.Common.{◌≡◌, ℕ, subst}
use Rattle.net_plan.specs.declared.fact.Place.TheVariants.{Host}
use Rattle.net_plan.specs.Plan.{Forbids}
use Rattle.net_plan.proofs.EndLemmas as ends
use Rattle.net_plan.proofs.network.Network.forbidden_at.Goals as goal

same_host : (one two : ℕ) → Host one ≡ Host two → one ≡ two
same_host one two e = cc

pub forbidden-requires-clause-host : goal.forbidden-requires-clause-host
forbidden-requires-clause-host c = ((ends.host_ends c.args.self.now c.args.end c.in-Host.host).0 c.in-Host.ensures).0

pub returns-in-Host : goal.returns-in-Host
returns-in-Host c = (
  λ yes. (c.in-Host.host, c.in-Host.ensures, c.forbidden.ensures.0 yes),
  λ bad.
      let same : bad.0 ≡ c.in-Host.host =
      same_host bad.0 c.in-Host.host
      (ends.end_once c.args.self.now c.args.end (Host bad.0) (Host c.in-Host.host) bad.1 c.in-Host.ensures) in
      c.forbidden.ensures.1 (subst (λ (host : ℕ). Forbids c.args.self.now host c.args.packet) same bad.2),
)
