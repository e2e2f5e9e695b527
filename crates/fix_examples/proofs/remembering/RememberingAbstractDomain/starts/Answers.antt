use Rattle.std.proofs.Common.{◌⊎◌, subst}
use Rattle.std.specs.List.{Contains}
use Rattle.fix_engine.specs.Progress.{found_in}
use Rattle.fix_examples.specs.Paths.{Memory, IsEdgePath}
use Rattle.fix_examples.proofs.remembering.RememberingAbstractDomain.starts.Goals as goal

pub returns-clause-only : goal.returns-clause-only
returns-clause-only g c =
    λ cell found. subst
    (λ (m : Memory). Contains (found_in c.args.work.now) cell ⊎ IsEdgePath m.graph cell) c.self.view_is
    (c.offer_edges.ensures.only cell found)
