use Rattle.std.proofs.Common.{ap, ◌∙◌}
use Rattle.header_set.specs.Headers.{product}
use Rattle.packet_domain.proofs.DoneLemmas.{next_of}
use Rattle.packet_domain.proofs.done.next_packet.Goals as goal

pub returns : goal.returns
returns g c =
    next_of c.args.net.now c.args.work.now.done c.args.end c.cell_of-first.result c.count-packets.result
    c.cell_of-first.ensures.cell (c.count-packets.ensures.product ∙ ap product c.headers.ensures) c.requires.end c.args.from c.next_in.result
    c.next_in.ensures
