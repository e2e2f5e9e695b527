use Rattle.std.proofs.Common.{◌≡◌, ◌/◌, ◌%◌, true, set, sym, ap, subst, ◌∙◌}
use Rattle.amdl_tree.specs.Derivation.{IsDerivable}
use Rattle.fix_engine.specs.Progress.{found_in}
use Rattle.fix_engine.specs.Rules.{GivenOrFollows}
use Rattle.fix_engine.proofs.ProgressLemmas.{Takes-done}
use Rattle.fix_examples.specs.Paths.{Memory, Follows, Remembers, cells_of}
use Rattle.fix_examples.proofs.PathLemmas.{in_range, ends_below, remembered}
use Rattle.fix_examples.proofs.remembering.RememberingAbstractDomain.react.Goals as goal

pub react_to-requires-clause-ends : goal.react_to-requires-clause-ends
react_to-requires-clause-ends g c =
    let graph = c.self.inside.graph in
    let begins = c.self.inside.begins.items in
    let work = c.args.work.now in
    let before = c.requires.tracks.0 in
    let takes = c.requires.tracks.1 in
    let known =
    subst (λ (m : Memory). Remembers m.graph m.begins before.done) (sym c.self.view_is) c.requires.tracks.2 in
    let cells : work.cells ≡ cells_of graph =
    c.requires.cells ∙ sym (ap (λ (m : Memory). cells_of m.graph) c.self.view_is) in
    let below =
    in_range graph work c.args.cell cells c.sound.ensures.below (Takes-done before c.args.cell work takes) in
    let after = remembered graph begins before work c.args.cell takes known c.self.invariant below in
    λ off begin.
    let on = (after (c.args.cell % graph.nodes) (ends_below graph c.args.cell below).1).1 begin in
    cc (off, on, c.remember-goes_on.ensures.goes_on, c.remember-goes_on.ensures.marked)

pub returns-clause-only : goal.returns-clause-only
returns-clause-only g c =
    λ found has. subst
    (λ (m : Memory). IsDerivable (GivenOrFollows (Follows m.graph) (found_in c.args.work.now)) found) c.self.view_is
    (c.react_to.ensures.only found has)

pub returns-clause-tracks : goal.returns-clause-tracks
returns-clause-tracks g c =
    let graph = c.self.inside.graph in
    let begins = c.self.inside.begins.items in
    let work = c.args.work.now in
    let before = c.requires.tracks.0 in
    let takes = c.requires.tracks.1 in
    let known =
    subst (λ (m : Memory). Remembers m.graph m.begins before.done) (sym c.self.view_is) c.requires.tracks.2 in
    let cells : work.cells ≡ cells_of graph =
    c.requires.cells ∙ sym (ap (λ (m : Memory). cells_of m.graph) c.self.view_is) in
    let below =
    in_range graph work c.args.cell cells c.sound.ensures.below (Takes-done before c.args.cell work takes) in
    let after = remembered graph begins before work c.args.cell takes known c.self.invariant below in
    subst (λ l. Remembers graph l c.react_to.new.work.done) (sym c.remember-goes_on.ensures.marked)
    (subst (Remembers graph (set begins (c.args.cell / graph.nodes) true))
    (sym c.react_to.ensures.grows.done) after)
