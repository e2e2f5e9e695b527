use Rattle.std.proofs.Common.{◌≡◌, ◌-◌, length}
use Rattle.fix_engine.specs.Progress.{found_in}
use Rattle.fix_engine.proofs.RuleLemmas.{IsHandled, IsDerived}
use Rattle.fix_engine.proofs.fixpoint.least.Given as goal

abbrev pub invariant-loop-cell : goal.invariant-loop-cell
invariant-loop-cell g l =
    record {
      same : g.D.AbstractDomain.subject l.domain ≡ g.D.AbstractDomain.subject l.fn.domain;
      cells : l.work.cells ≡ g.D.AbstractDomain.count (g.D.AbstractDomain.subject l.fn.domain);
      tracked : g.D.AbstractDomain.tracks l.domain l.work;
      handled : IsHandled (g.D.AbstractDomain.follows (g.D.AbstractDomain.subject l.fn.domain)) l.work.done
          (found_in l.work);
      derived : IsDerived (g.D.AbstractDomain.follows (g.D.AbstractDomain.subject l.fn.domain)) (found_in l.work);
    }

abbrev pub decreases-loop-cell : goal.decreases-loop-cell
decreases-loop-cell g l = l.work.cells - length l.work.done
