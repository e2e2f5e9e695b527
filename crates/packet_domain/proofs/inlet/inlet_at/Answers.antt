use Rattle.std.proofs.Common.{refl}
use Rattle.net_plan.proofs.EndLemmas.{port_ends}
use Rattle.packet_domain.proofs.PlaceLemmas.{leads_to_host}
use Rattle.packet_domain.proofs.inlet.inlet_at.Goals as goal

pub returns-in-Port : goal.returns-in-Port
returns-in-Port c =
    let at = (port_ends c.args.net.now c.args.other c.in-Port.b c.in-Port.port).0 c.in-Port.ensures in (
      refl,
      record {
        leads = (c.args.other, c.requires.linked, c.in-Port.ensures);
        end = c.requires.end;
        boxed = at.0;
        port = at.1;
      },
    )

pub returns-in-Host : goal.returns-in-Host
returns-in-Host c box port leads =
    leads_to_host c.partner_is_unique.ensures c.args.net.now c.sound.ensures c.args.end c.args.other c.requires.linked
    c.in-Host.field-0 box port c.in-Host.ensures leads
