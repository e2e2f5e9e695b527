use Rattle.std.proofs.Common.{Ok, Err}
use Rattle.amdl_parser.specs.declared.refusal.SyntaxRefusal.TheVariants.{Syntax, Deep}
use Rattle.amdl_parser.proofs.TreeAnswers.{is_answer, forced}
use Rattle.amdl_parser.proofs.reading.parse.Goals as goal

pub returns-clause-answer : goal.returns-clause-answer
returns-clause-answer c = is_answer c.args.tokens.now c.read_whole.result c.show_names.ensures c.read_whole.ensures

pub returns-clause-read : goal.returns-clause-read
returns-clause-read c =
    λ tree fits spelled. forced c.args.tokens.now c.read_whole.result c.show_names.ensures c.read_whole.ensures
    (Ok tree) ((fits, spelled), λ e. cc)

pub returns-clause-syntax : goal.returns-clause-syntax
returns-clause-syntax c =
    λ k stops. forced c.args.tokens.now c.read_whole.result c.show_names.ensures c.read_whole.ensures (Err (Syntax k))
    (stops, λ e. cc)

pub returns-clause-deep : goal.returns-clause-deep
returns-clause-deep c =
    λ k stops. forced c.args.tokens.now c.read_whole.result c.show_names.ensures c.read_whole.ensures (Err (Deep k))
    (stops, λ e. cc)
