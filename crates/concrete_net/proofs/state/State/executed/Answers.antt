use Rattle.std.proofs.Common.{List, ℕ, [], ap, ◌∙◌, get_or}
use Rattle.handler_runs.specs.Executing.{environment}
use Rattle.concrete_net.proofs.PortLemmas.{setting, executable, is_executed}
use Rattle.concrete_net.proofs.state.State.executed.Goals as goal

pub execute-requires : goal.execute-requires
execute-requires c =
    executable c.args.net.now c.sound.ensures c.args.b c.args.port c.args.packet c.requires.boxed c.requires.port
    c.requires.packet c.args.self.now.world c.requires.world
    (environment c.headers.result.now c.of_box.result.now c.args.packet) c.handler.result.now c.contents.result.now
    (setting c.args.net.now c.sound.ensures c.args.b c.args.port c.args.packet c.requires.boxed c.requires.port
    c.headers.result.now c.of_box.result.now c.handler.result.now c.headers.ensures
    (c.of_box.ensures ∙ ap (λ (l : List (List (List ℕ))). get_or l c.args.b []) c.requires.arguments)
    c.handler.ensures)
    c.contents.ensures

pub returns : goal.returns
returns c =
    is_executed c.args.net.now c.args.b c.args.port c.args.packet c.args.self.now.world
    (environment c.headers.result.now c.of_box.result.now c.args.packet) c.handler.result.now c.contents.result.now
    c.args.choices.now c.execute.result
    (setting c.args.net.now c.sound.ensures c.args.b c.args.port c.args.packet c.requires.boxed c.requires.port
    c.headers.result.now c.of_box.result.now c.handler.result.now c.headers.ensures
    (c.of_box.ensures ∙ ap (λ (l : List (List (List ℕ))). get_or l c.args.b []) c.requires.arguments)
    c.handler.ensures)
    c.contents.ensures c.execute.ensures.answer
