use Rattle.std.proofs.Common.{ap, subst, ◌∙◌}
use Rattle.std.specs.List.{Contains}
use Rattle.amdl_tree.specs.Derivation.{IsDerivable}
use Rattle.fix_engine.specs.Progress.{found_in}
use Rattle.fix_engine.specs.Rules.{GivenOrFollows, HasReacted}
use Rattle.fix_engine.proofs.ProgressLemmas.{Takes-found}
use Rattle.fix_engine.proofs.RuleLemmas.{started, handled_react, derived_from, closed_end, exact_end}
use Rattle.fix_engine.proofs.fixpoint.least.Goals as goal

pub loop-cell-init : goal.loop-cell-init
loop-cell-init g c =
    let about = g.D.AbstractDomain.subject c.args.domain.now in
    let begun =
    started (g.D.AbstractDomain.follows about)
    (g.D.AbstractDomain.count about) c.args.work.now c.starts.new.work c.requires c.starts.ensures.grows
    c.starts.ensures.all c.starts.ensures.only in
    record {
      same = c.starts.ensures.same;
      cells = c.starts.ensures.grows.cells ∙ ap (λ p. p.cells) c.requires;
      tracked = c.starts.ensures.tracks c.requires;
      handled = begun.0;
      derived = begun.1;
    }

pub loop-cell-preserved : goal.loop-cell-preserved
loop-cell-preserved g c =
    let about = g.D.AbstractDomain.subject c.args.domain.now in
    let rules = g.D.AbstractDomain.follows about in
    let kept = c.loop-cell.invariant in
    let taken = c.in-Some.ensures.taken in
    let old = c.loop-cell.work in
    let mid = c.take.new.self in
    let new = c.react.new.work in
    let reacted =
    subst
    (λ a. HasReacted (g.D.AbstractDomain.follows a) c.in-Some.cell mid.done
    (found_in new)) kept.same c.react.ensures.all in
    record {
      same = c.react.ensures.same ∙ kept.same;
      cells = c.react.ensures.grows.cells ∙ taken.cells ∙ kept.cells;
      tracked = c.react.ensures.tracks;
      handled = handled_react rules old c.in-Some.cell mid new taken c.react.ensures.grows reacted kept.handled;
      derived = λ cell found.
          derived_from rules (found_in mid)
          (λ other before. kept.derived other
          (subst (λ l. Contains l other) (Takes-found old c.in-Some.cell mid taken) before)) cell
          (subst (λ a. IsDerivable (GivenOrFollows (g.D.AbstractDomain.follows a) (found_in mid)) cell) kept.same
          (c.react.ensures.only cell found));
    }

pub returns-clause-closed : goal.returns-clause-closed
returns-clause-closed g c =
    closed_end
    (g.D.AbstractDomain.follows
    (g.D.AbstractDomain.subject c.args.domain.now)) c.loop-cell.work c.take.new.self c.in_default.ensures.taken
    c.loop-cell.invariant.handled

pub returns-clause-exact : goal.returns-clause-exact
returns-clause-exact g c =
    exact_end
    (g.D.AbstractDomain.follows
    (g.D.AbstractDomain.subject c.args.domain.now)) c.loop-cell.work c.take.new.self c.in_default.ensures.taken
    c.loop-cell.invariant.handled c.loop-cell.invariant.derived
