use Rattle.std.proofs.Common.{◌≡◌, true}
use Rattle.amdl_tree.specs.Laws.{Follows}
use Rattle.amdl_tree.proofs.DerivationLemmas.{derivable_start, derivable_step, derivable_from, derivable_kept}
use Rattle.amdl_tree.proofs.laws.derivable_is_least.Goals as goal

pub returns : goal.returns
returns g c =
    λ test. record {
      start = derivable_start (Follows test);
      step = derivable_step (Follows test);
      from = derivable_from (Follows test);
      least = λ p. derivable_kept (Follows test) (λ x. p x ≡ true);
    }
