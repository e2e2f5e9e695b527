use Rattle.schedule_text.proofs.FrontLemmas.{fronts_kept}
use Rattle.schedule_text.proofs.writing.put.Goals as goal

pub returns-clause-kept : goal.returns-clause-kept
returns-clause-kept c =
    λ front begun. fronts_kept c.args.out.now.items c.put_all.new.out.items c.put_all.ensures.kept front begun
