use Rattle.std.proofs.Common.{rules, sym, ◌∙◌}
use Rattle.abstract_step.proofs.MaskLemmas.{check_next, check_marked, none_marked}
use Rattle.abstract_step.proofs.masks.is_consistent.Goals as goal
use Rattle.abstract_step.proofs.masks.is_consistent.Goals.{else-rest-eq0-via-then-rest-eq0+else-has}
use Rattle.abstract_step.proofs.masks.is_consistent.Goals.{else-rest-eq0-via-else-rest-eq0}

pub loop-tuple-preserved : goal.loop-tuple-preserved
loop-tuple-preserved c =
    elim c.else-rest-eq0.branch [
      | else-rest-eq0-via-then-rest-eq0+else-has w ↦
          check_next c.held_is_member.ensures c.args.tuples.now c.args.mask c.loop-tuple.tuple-index c.loop-tuple.rest _
          c.loop-tuple-test.true (search rules)
          (sym w.has.ensures ∙ none_marked w.has.result c.loop-tuple.rest (search rules) (search rules))
          c.loop-tuple.invariant
      | else-rest-eq0-via-else-rest-eq0 w ↦
          check_marked c.held_is_member.ensures c.args.tuples.now c.args.mask c.loop-tuple.tuple-index c.loop-tuple.rest
          c.loop-tuple-test.true (search rules) c.loop-tuple.invariant
    ]
