use Rattle.std.proofs.Common.{◌/◌, ◌%◌, sym, subst}
use Rattle.fix_examples.proofs.PathLemmas.{FirstTurn, no_first_turn, in_range, ends_below, both_all, both_only}
use Rattle.fix_examples.proofs.paths.react_to.Goals as goal
use Rattle.fix_examples.proofs.paths.react_to.Goals.{then-goes_on, else-goes_on}

pub offer_as_first-requires-clause-from : goal.offer_as_first-requires-clause-from
offer_as_first-requires-clause-from g c =
    (ends_below c.args.graph.now c.args.cell
    (in_range c.args.graph.now c.args.work.now c.args.cell c.requires.cells c.sound.ensures.below c.requires.done)).0

pub offer_as_first-requires-clause-middle : goal.offer_as_first-requires-clause-middle
offer_as_first-requires-clause-middle g c =
    (ends_below c.args.graph.now c.args.cell
    (in_range c.args.graph.now c.args.work.now c.args.cell c.requires.cells c.sound.ensures.below c.requires.done)).1

pub offer_as_second-requires-clause-middle : goal.offer_as_second-requires-clause-middle
offer_as_second-requires-clause-middle g c =
    (ends_below c.args.graph.now c.args.cell
    (in_range c.args.graph.now c.args.work.now c.args.cell c.requires.cells c.sound.ensures.below c.requires.done)).0

pub offer_as_second-requires-clause-to : goal.offer_as_second-requires-clause-to
offer_as_second-requires-clause-to g c =
    (ends_below c.args.graph.now c.args.cell
    (in_range c.args.graph.now c.args.work.now c.args.cell c.requires.cells c.sound.ensures.below c.requires.done)).1

pub returns-clause-all : goal.returns-clause-all
returns-clause-all g c =
    let graph = c.args.graph.now in
    let old = c.args.work.now in
    let cell = c.args.cell in
    let turn : FirstTurn graph (cell / graph.nodes) (cell % graph.nodes) old c.if-goes_on.work =
    elim c.if-goes_on.branch [
      | then-goes_on w ↦ subst (FirstTurn graph (cell / graph.nodes) (cell % graph.nodes) old)
          (sym w.work-is) record {
            grows = w.offer_as_first.ensures.grows;
            all = w.offer_as_first.ensures.all;
            only =
                w.offer_as_first.ensures.only;
          }
      | else-goes_on w ↦ subst (FirstTurn graph (cell / graph.nodes) (cell % graph.nodes) old) (sym w.work-is)
          (no_first_turn graph (cell / graph.nodes) (cell % graph.nodes) old (c.requires.ends w.if-goes_on.false))
    ] in
    both_all graph old c.if-goes_on.work c.offer_as_second.new.work cell
    (in_range graph old cell c.requires.cells c.sound.ensures.below c.requires.done) c.requires.done turn
    c.offer_as_second.ensures.grows c.offer_as_second.ensures.all

pub returns-clause-only : goal.returns-clause-only
returns-clause-only g c =
    let graph = c.args.graph.now in
    let old = c.args.work.now in
    let cell = c.args.cell in
    let turn : FirstTurn graph (cell / graph.nodes) (cell % graph.nodes) old c.if-goes_on.work =
    elim c.if-goes_on.branch [
      | then-goes_on w ↦ subst (FirstTurn graph (cell / graph.nodes) (cell % graph.nodes) old)
          (sym w.work-is) record {
            grows = w.offer_as_first.ensures.grows;
            all = w.offer_as_first.ensures.all;
            only =
                w.offer_as_first.ensures.only;
          }
      | else-goes_on w ↦ subst (FirstTurn graph (cell / graph.nodes) (cell % graph.nodes) old) (sym w.work-is)
          (no_first_turn graph (cell / graph.nodes) (cell % graph.nodes) old (c.requires.ends w.if-goes_on.false))
    ] in
    both_only graph old c.if-goes_on.work c.offer_as_second.new.work cell
    (in_range graph old cell c.requires.cells c.sound.ensures.below c.requires.done) c.requires.done turn
    c.offer_as_second.ensures.grows c.offer_as_second.ensures.only
