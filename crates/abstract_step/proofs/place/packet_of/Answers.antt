use Rattle.abstract_step.proofs.PlaceLemmas.{packet_read}
use Rattle.abstract_step.proofs.place.packet_of.Goals as goal

pub returns : goal.returns
returns c =
    packet_read c.args.place.now.net.now c.sound.ensures c.args.place.now.b c.requires.place.boxed
    c.fields_are_below_sizes.ensures c.fields_determine_packet.ensures c.args.place.now.p c.args.picked.now
    c.args.changes.now c.changed.result c.requires.place.packet c.requires.fits c.changed.ensures.fields
    c.changed.ensures.in_range
