use Rattle.handler_runs.specs.Executing.{environment}
use Rattle.handler_runs.proofs.EndLemmas.{only_answer, only_refusal}
use Rattle.handler_runs.proofs.handling.execute.Goals as goal

pub returns-clause-executes : goal.returns-clause-executes
returns-clause-executes c =
    only_answer (environment c.args.headers.now c.args.relations.now c.args.packet) c.args.handler.now
    c.args.contents.now c.args.choices.now c.fields_determine_packet.ensures c.requires.ready.environment.headers
    c.executed.result c.executed.ensures

pub returns-clause-bad_choice : goal.returns-clause-bad_choice
returns-clause-bad_choice c =
    only_refusal (environment c.args.headers.now c.args.relations.now c.args.packet) c.args.handler.now
    c.args.contents.now c.args.choices.now c.executed.result c.executed.ensures
