use Rattle.std.proofs.Common.{◌++◌, take}
use Rattle.outside.proofs.StreamLemmas.{front-append, Appends-append}
use Rattle.outside.proofs.streams.write_all.Goals as goal

pub loop-rest-preserved : goal.loop-rest-preserved
loop-rest-preserved g c =
    let now = c.loop-rest.invariant in (
      now.0 ++ take c.in_ok-count.count c.loop-rest.rest.now,
      front-append _ now.0 c.loop-rest.rest.now _ _ c.in_ok-count.count now.1 c.split_at.ensures.front
          c.split_at.ensures.back,
      Appends-append _ (g.W.Write.contents c.loop-rest.writer) _ _ _ now.2 c.in_ok-count.ensures.took,
    )
