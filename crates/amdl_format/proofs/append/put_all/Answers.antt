use Rattle.amdl_format.proofs.FrontLemmas.{fronts_kept}
use Rattle.amdl_format.proofs.append.put_all.Goals as goal

pub returns-clause-kept : goal.returns-clause-kept
returns-clause-kept c = fronts_kept _ _ c.put_all.ensures.kept
