use Rattle.derived_facts.proofs.CellDerivations.{are_derived, if_ok}
use Rattle.derived_facts.proofs.derived.derived_findings.Goals as goal

pub returns : goal.returns
returns c =
    if_ok _ _ c.findings_of.result
    (λ findings found. are_derived c.args.network.now _ findings c.in_ok-facts.ensures.derivable found)
    c.findings_of.ensures
