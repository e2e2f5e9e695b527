use Rattle.schedule_text.proofs.ResolveLemmas.{is_found, is_unknown, is_outside}
use Rattle.schedule_text.proofs.resolving.resolve.Goals as goal

pub returns-clause-found : goal.returns-clause-found
returns-clause-found c = λ all. is_found c.args.net.now c.args.steps.now c.resolve_all.result c.resolve_all.ensures all

pub returns-clause-unknown : goal.returns-clause-unknown
returns-clause-unknown c =
    λ s first. is_unknown c.args.net.now c.args.steps.now c.resolve_all.result c.resolve_all.ensures s first

pub returns-clause-outside : goal.returns-clause-outside
returns-clause-outside c =
    λ s first. is_outside c.args.net.now c.args.steps.now c.resolve_all.result c.resolve_all.ensures s first
