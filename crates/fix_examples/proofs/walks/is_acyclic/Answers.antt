use Rattle.std.proofs.Common.{subst}
use Rattle.fix_examples.specs.declared.graph.Graph.{Graph}
use Rattle.fix_examples.specs.Walks.{HasNoRoundTrip}
use Rattle.fix_examples.proofs.walks.is_acyclic.Goals as goal
use Rattle.fix_examples.proofs.walks.is_acyclic.Goals.{then-acyclic, else-acyclic}

pub returns : goal.returns
returns g c =
    λ acyclic. elim c.if-acyclic.branch [
      | then-acyclic w ↦
          subst (λ (d : Graph). HasNoRoundTrip d) c.in_ok-set.ensures.same
          (λ first last next edges edge is reaches leads back. w.safe_runs.ensures.safe first last edges is reaches
          edge next leads back)
      | else-acyclic w ↦ absurd (cc (acyclic, w.if-acyclic.false))
    ]
