use Rattle.std.proofs.Common.{◌≡◌, [], ◌++◌, ap, sym, subst}
use Rattle.amdl_tree.specs.Lexical.{StandsFor}
use Rattle.amdl_tree.specs.Spelling.{spell}
use Rattle.amdl_tree.proofs.PieceLemmas.{stands_once}
use Rattle.amdl_tree.proofs.StandLemmas.{tree_stands}
use Rattle.amdl_tree.proofs.TreeOnce.{tree_once}
use Rattle.amdl_tree.proofs.laws.layout_is_one_to_one.Goals as goal

pub returns : goal.returns
returns c t u p q e =
    let other : StandsFor _ (spell u) = subst (λ text. StandsFor text (spell u)) (sym e) (tree_stands u q) in
    let same : spell t ≡ spell u = stands_once _ (spell t) (spell u) (tree_stands t p) other in
    (tree_once.once t u [] [] p q tt tt (ap (λ tokens. tokens ++ []) same)).0
