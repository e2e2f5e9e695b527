use Rattle.std.proofs.Common.{◌≡◌, ℕ, ◌+◌, ◌∷◌, ◌++◌, [], ◌<◌, ◌≤◌, List, length, map, take, slice_index_or, sum_by}
use Rattle.std.proofs.Common.{sym, ap, ◌∙◌, zero-add, arith}
use Rattle.std.specs.List.{range_with_len}
use Rattle.std.proofs.lemmas.List.FromFn.{map-range_with_len_more}
use Rattle.std.proofs.lemmas.List.Sums.{sum_by_more, sum_by-take-le}
use Rattle.net_plan.specs.declared.plan.Plan.{Plan}
use Rattle.net_plan.specs.declared.plan.BoxPlan.{BoxPlan}
use Rattle.net_plan.specs.declared.plan.ClassPlan.{ClassPlan}
use Rattle.net_plan.specs.Plan.{class_of, ports_of}
use Rattle.net_plan.specs.Kept.{first_end}
use Rattle.net_plan.specs.Sound.{IsSound}
use Rattle.net_plan.proofs.EndLemmas.{ends_counted}
use Rattle.net_plan.proofs.TableLemmas.{ends_small}
use Rattle.net_plan.proofs.tables.first_ends_of.Goals as goal

-- the end behind the ports of the box
behind : (plan : Plan) (i : ℕ) (boxes : List BoxPlan) (box : BoxPlan) (class : ClassPlan) (ports : List (List ℕ))
    (end : ℕ) →
    boxes ≡ plan.boxes → i < length boxes → box ≡ slice_index_or boxes i box → class ≡ class_of plan box →
    ports ≡ class.ports → end ≡ first_end plan i →
    end + length ports ≡ first_end plan (i + 1)
behind plan i boxes box class ports end are less is is_class is_ports is_end =
    let in' : i < length plan.boxes = omega (arith, ap length are, less) in
    let more : sum_by (ports_of plan) (take (i + 1) plan.boxes)
    ≡ sum_by (ports_of plan) (take i plan.boxes) + ports_of plan (slice_index_or plan.boxes i box) =
    sum_by_more (ports_of plan) plan.boxes i box in' in
    let same : ports_of plan (slice_index_or plan.boxes i box) ≡ ports_of plan box =
    ap (ports_of plan) (sym (is ∙ ap (λ (l : List BoxPlan). slice_index_or l i box) are)) in
    let count : length ports ≡ ports_of plan box =
    ap length is_ports ∙ ap (λ (k : ClassPlan). length k.ports) is_class in
    omega (arith, more, same, count, is_end)

small : (plan : Plan) (i : ℕ) → IsSound plan → first_end plan i ≤ 4194304
small plan i sound =
    let fewer : sum_by (ports_of plan) (take i plan.boxes) ≤ sum_by (ports_of plan) plan.boxes =
    sum_by-take-le (ports_of plan) plan.boxes i in
    omega (arith, fewer, ends_counted plan, ends_small plan sound)

pub overflow_add-end : goal.overflow_add-end
overflow_add-end c =
    let next : c.loop-boxed.end + length c.as_slice-in-loop-boxed.result.now
    ≡ first_end c.args.plan.now (c.loop-boxed.boxed-index + 1) =
    behind c.args.plan.now c.loop-boxed.boxed-index c.as_slice-boxed-items.result.now c.boxed-item.result
    c.class_of_box.result.now c.as_slice-in-loop-boxed.result.now c.loop-boxed.end
    c.as_slice-boxed-items.ensures c.loop-boxed-test.true c.boxed-item.is c.class_of_box.ensures.class
    c.as_slice-in-loop-boxed.ensures c.loop-boxed.invariant.next in
    omega (arith, next, small c.args.plan.now (c.loop-boxed.boxed-index + 1) c.requires)

pub loop-boxed-preserved : goal.loop-boxed-preserved
loop-boxed-preserved c =
    let i : ℕ = c.loop-boxed.boxed-index in
    record {
      made =
          c.in_ok-push.ensures.ok
          ∙ ap (λ (ends : List ℕ). ends ++ c.loop-boxed.end ∷ []) c.loop-boxed.invariant.made
          ∙ ap (λ (end : ℕ). map (first_end c.args.plan.now) (range_with_len 0 i) ++ end
          ∷ []) c.loop-boxed.invariant.next
          ∙ sym (map-range_with_len_more (first_end c.args.plan.now) 0 i i (zero-add i));
      next = behind c.args.plan.now c.loop-boxed.boxed-index c.as_slice-boxed-items.result.now c.boxed-item.result
          c.class_of_box.result.now c.as_slice-in-loop-boxed.result.now c.loop-boxed.end
          c.as_slice-boxed-items.ensures c.loop-boxed-test.true c.boxed-item.is c.class_of_box.ensures.class
          c.as_slice-in-loop-boxed.ensures c.loop-boxed.invariant.next;
    }
