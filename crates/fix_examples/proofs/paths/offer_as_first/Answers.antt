use Rattle.std.proofs.Common.{ℕ, ◌+◌, ◌<◌, refl, sym, subst, arith}
use Rattle.std.specs.List.{Contains}
use Rattle.fix_engine.specs.Progress.{Offers}
use Rattle.fix_examples.specs.Paths.{cell_of, IsFromFirst}
use Rattle.fix_examples.proofs.PathLemmas.{Tried, tried_offer, tried_skip, done_before, done_after}
use Rattle.fix_examples.proofs.paths.offer_as_first.Goals as goal
use Rattle.fix_examples.proofs.paths.offer_as_first.Goals.{then-is_done, else-is_done}

pub loop-to-preserved : goal.loop-to-preserved
loop-to-preserved g c =
    let graph = c.args.graph.now in
    let old = c.args.work.now in
    let now = c.loop-to.work in
    let at = c.loop-to.to in
    let tried = c.loop-to.invariant in
    let P = IsFromFirst graph c.args.from c.args.middle old.done in
    let D = λ (to : ℕ). (to < graph.nodes) × Contains old.done (cell_of graph c.args.middle to) in
    let cell = λ (to : ℕ). cell_of graph c.args.from to in
    let below : at < graph.nodes = omega arith in
    elim c.if-is_done.branch [
      | then-is_done w ↦
          let has : Contains old.done (cell_of graph c.args.middle at) =
          done_before old now tried.adds.grows c.cell_of.result
          (cell_of graph c.args.middle at) c.cell_of.ensures.is (c.is_done.ensures.0 w.if-is_done.true) in
          let offers =
          subst (λ (x : ℕ). Offers now x w.offer.new.self) w.cell_of-then-is_done.ensures.is w.offer.ensures in
          subst (λ p. Tried P D cell old p (at + 1)) (sym w.work-is)
          (tried_offer P D cell old now w.offer.new.self at tried offers (at, below, has, refl))
      | else-is_done w ↦
          subst (λ p. Tried P D cell old p (at + 1)) (sym w.work-is)
          (tried_skip P D cell old now at tried
          (λ reason. cc (
            w.if-is_done.false,
            c.is_done.ensures.1
                (done_after old now tried.adds.grows c.cell_of.result
                (cell_of graph c.args.middle at) c.cell_of.ensures.is reason.1),
          )))
    ]
