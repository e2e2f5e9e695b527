use Rattle.std.proofs.Common.{ℕ, sym, ap, subst, ◌∙◌}
use Rattle.net_plan.specs.Ends.{IsEndAt}
use Rattle.net_plan.specs.declared.fact.Place.TheVariants.{Host}
use Rattle.plan_text.specs.Text.{host_of_place, host_of_end}
use Rattle.plan_text.proofs.report.host_over.Goals as goal

pub host_of_end-requires-clause-at_host : goal.host_of_end-requires-clause-at_host
host_of_end-requires-clause-at_host c =
    let to_host = c.requires.linked in (
      to_host.0,
      subst (λ (end : ℕ). IsEndAt c.args.network.now end (Host to_host.0))
          (c.partner_is_unique.ensures c.args.network.now c.args.end to_host.1 c.in-Some.other c.sound.ensures to_host.2
          c.in-Some.ensures.linked) to_host.3,
    )

pub unreachable-requires : goal.unreachable-requires
unreachable-requires c = c.in-None.ensures.linked c.requires.linked.1 c.requires.linked.2

pub returns-clause-host : goal.returns-clause-host
returns-clause-host c =
    ap (host_of_end c.args.network.now) (sym c.in-Some.ensures.value) ∙ ap host_of_place c.host_of_end.ensures

pub returns-clause-in_range : goal.returns-clause-in_range
returns-clause-in_range c =
    ((c.host_ends.ensures c.args.network.now c.in-Some.other c.host_of_end.result).0 c.host_of_end.ensures).0
