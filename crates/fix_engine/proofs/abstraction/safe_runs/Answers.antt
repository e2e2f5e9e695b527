use Rattle.std.proofs.Common.{subst}
use Rattle.cell_sets.specs.Marks.{members_of}
use Rattle.cell_sets.proofs.MemberLemmas.{listed_iff, members_below}
use Rattle.fix_engine.specs.Closed.{AreBelow}
use Rattle.fix_engine.proofs.RunLemmas.{covered_run, safe_run}
use Rattle.fix_engine.proofs.abstraction.safe_runs.Goals as goal

pub returns-clause-covered : goal.returns-clause-covered
returns-clause-covered g c =
    let about = g.A.AbstractDomain.subject c.args.abstraction.now in
    let marks = g.S.CellSet.marks c.args.set.now in
    let below = subst (λ n. AreBelow n (members_of marks)) c.requires.cells (members_below marks) in
    covered_run (g.A.Abstraction.is_first about) (g.A.Abstraction.leads about) (g.A.Abstraction.is_bad about)
    (g.A.Abstraction.covers about (members_of marks))
    (g.A.Abstraction.is_bad_cell about) (members_of marks)
    (λ world. g.met.A.Abstraction.covers_first about (members_of marks) world below c.requires.closed)
    (λ old step new. g.met.A.Abstraction.covers_next about (members_of marks) old new step below c.requires.closed)
    (λ old step new. g.met.A.Abstraction.shows_bad about (members_of marks) old new step below c.requires.closed)

pub returns-clause-safe : goal.returns-clause-safe
returns-clause-safe g c =
    let about = g.A.AbstractDomain.subject c.args.abstraction.now in
    let marks = g.S.CellSet.marks c.args.set.now in
    let below = subst (λ n. AreBelow n (members_of marks)) c.requires.cells (members_below marks) in
    safe_run (g.A.Abstraction.is_first about) (g.A.Abstraction.leads about) (g.A.Abstraction.is_bad about)
    (g.A.Abstraction.covers about (members_of marks))
    (g.A.Abstraction.is_bad_cell about) (members_of marks)
    (λ world. g.met.A.Abstraction.covers_first about (members_of marks) world below c.requires.closed)
    (λ old step new. g.met.A.Abstraction.covers_next about (members_of marks) old new step below c.requires.closed)
    (λ old step new. g.met.A.Abstraction.shows_bad about (members_of marks) old new step below c.requires.closed)
    (λ cell listed. c.requires.clean cell ((listed_iff marks cell).0 listed))
