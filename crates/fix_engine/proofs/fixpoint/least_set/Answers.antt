use Rattle.cell_sets.specs.Marks.{members_of}
use Rattle.cell_sets.proofs.MemberLemmas.{listed_iff}
use Rattle.fix_engine.specs.Progress.{found_in}
use Rattle.fix_engine.proofs.RuleLemmas.{closed_same}
use Rattle.fix_engine.proofs.fixpoint.least_set.Goals as goal

pub returns-clause-closed : goal.returns-clause-closed
returns-clause-closed g c =
    let marks = g.S.CellSet.marks c.into_set.result in
    let found = c.into_set.ensures.found in
    closed_same (g.D.AbstractDomain.follows (g.D.AbstractDomain.subject c.args.domain.now)) (found_in c.least.new.work)
    (members_of marks) (λ cell. (
      λ has. (listed_iff marks cell).1 ((found cell).1 has),
      λ has. (found cell).0 ((listed_iff marks cell).0 has),
    )) c.least.ensures.closed

pub returns-clause-exact : goal.returns-clause-exact
returns-clause-exact g c =
    let found = c.into_set.ensures.found in
    λ cell. (
      λ has. (c.least.ensures.exact cell).0 ((found cell).0 has),
      λ derivable. (found cell).1 ((c.least.ensures.exact cell).1 derivable),
    )
