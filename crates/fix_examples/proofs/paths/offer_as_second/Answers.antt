use Rattle.std.proofs.Common.{ℕ, ◌+◌, ◌<◌, refl, sym, subst, arith}
use Rattle.std.specs.List.{Contains}
use Rattle.fix_engine.specs.Progress.{Offers}
use Rattle.fix_examples.specs.Paths.{cell_of, IsFromSecond}
use Rattle.fix_examples.proofs.PathLemmas.{Tried, tried_offer, tried_skip, done_before, done_after}
use Rattle.fix_examples.proofs.paths.offer_as_second.Goals as goal
use Rattle.fix_examples.proofs.paths.offer_as_second.Goals.{then-is_done, else-is_done}

pub loop-from-preserved : goal.loop-from-preserved
loop-from-preserved g c =
    let graph = c.args.graph.now in
    let old = c.args.work.now in
    let now = c.loop-from.work in
    let at = c.loop-from.from in
    let tried = c.loop-from.invariant in
    let P = IsFromSecond graph c.args.middle c.args.to old.done in
    let D = λ (from : ℕ). (from < graph.nodes) × Contains old.done (cell_of graph from c.args.middle) in
    let cell = λ (from : ℕ). cell_of graph from c.args.to in
    let below : at < graph.nodes = omega arith in
    elim c.if-is_done.branch [
      | then-is_done w ↦
          let has : Contains old.done (cell_of graph at c.args.middle) =
          done_before old now tried.adds.grows c.cell_of.result
          (cell_of graph at c.args.middle) c.cell_of.ensures.is (c.is_done.ensures.0 w.if-is_done.true) in
          let offers =
          subst (λ (x : ℕ). Offers now x w.offer.new.self) w.cell_of-then-is_done.ensures.is w.offer.ensures in
          subst (λ p. Tried P D cell old p (at + 1)) (sym w.work-is)
          (tried_offer P D cell old now w.offer.new.self at tried offers (at, below, has, refl))
      | else-is_done w ↦
          subst (λ p. Tried P D cell old p (at + 1)) (sym w.work-is)
          (tried_skip P D cell old now at tried
          (λ reason. cc (
            w.if-is_done.false,
            c.is_done.ensures.1
                (done_after old now tried.adds.grows c.cell_of.result
                (cell_of graph at c.args.middle) c.cell_of.ensures.is reason.1),
          )))
    ]
