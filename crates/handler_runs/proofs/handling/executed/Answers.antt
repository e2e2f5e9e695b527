use Rattle.handler_runs.specs.Code.{standing}
use Rattle.handler_runs.specs.Executing.{environment}
use Rattle.handler_runs.proofs.EndLemmas.{executed, left_within}
use Rattle.handler_runs.proofs.handling.executed.Goals as goal

pub ending_of-requires : goal.ending_of-requires
ending_of-requires c =
    left_within (environment c.args.headers.now c.args.relations.now c.args.packet) c.args.handler.now
    c.args.contents.now c.args.choices.now c.fields_are_below_sizes.ensures c.fields_determine_packet.ensures
    c.fields_are_free.ensures c.held_is_member.ensures c.with_keeps_rising.ensures c.without_keeps_rising.ensures
    c.requires c.in-Ok.end.course (standing c.in-Ok.end.progress) c.in-Ok.ensures

pub returns-in-Ok : goal.returns-in-Ok
returns-in-Ok c =
    executed (environment c.args.headers.now c.args.relations.now c.args.packet) c.args.handler.now
    c.args.contents.now c.args.choices.now c.fields_are_below_sizes.ensures c.fields_determine_packet.ensures
    c.fields_are_free.ensures c.held_is_member.ensures c.with_keeps_rising.ensures c.without_keeps_rising.ensures
    c.requires c.in-Ok.end.course (standing c.in-Ok.end.progress) c.ending_of.result c.in-Ok.ensures
    c.ending_of.ensures
