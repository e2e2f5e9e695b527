use Rattle.std.proofs.Common.{◌∙◌, sym}
use Rattle.amdl_tree.proofs.EqualityLemmas.{patterns_decide}
use Rattle.amdl_tree.proofs.tree.same_pattern.Goals as goal

pub returns : goal.returns
returns c =
    let decide = patterns_decide c.args.one.now c.args.other.now in
    ((λ e. decide.0 (sym c.eq.ensures ∙ e)), (λ e. c.eq.ensures ∙ decide.1 e))
