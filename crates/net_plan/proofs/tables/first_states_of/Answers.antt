use Rattle.std.proofs.Common.{◌≡◌, ℕ, ◌+◌, ◌*◌, ◌^◌, ◌∷◌, ◌++◌, [], ◌<◌, List, length, map, slice_index_or, sym, ap}
use Rattle.std.proofs.Common.{◌∙◌, zero-add, arith}
use Rattle.std.specs.List.{range_with_len}
use Rattle.std.proofs.lemmas.List.FromFn.{map-range_with_len_more}
use Rattle.std.proofs.lemmas.List.{get_or_default}
use Rattle.net_plan.specs.declared.plan.Plan.{Plan}
use Rattle.net_plan.specs.declared.plan.BoxPlan.{BoxPlan}
use Rattle.net_plan.specs.declared.plan.ClassPlan.{ClassPlan}
use Rattle.net_plan.specs.Plan.{packets_of, boxes_of, box_at, class_of, masks_of}
use Rattle.net_plan.specs.Kept.{first_state}
use Rattle.net_plan.proofs.StateLemmas.{next_state}
use Rattle.net_plan.proofs.TableLemmas.{states_small}
use Rattle.net_plan.proofs.tables.first_states_of.Goals as goal

-- the cell behind those of the box
behind : (plan : Plan) (i : ℕ) (boxes : List BoxPlan) (box : BoxPlan) (class : ClassPlan) (masks packets cell : ℕ) →
    boxes ≡ plan.boxes → i < length boxes → box ≡ slice_index_or boxes i box → class ≡ class_of plan box →
    masks ≡ 2 ^ length class.queries → packets ≡ packets_of plan → cell ≡ first_state plan i →
    cell + packets * masks ≡ first_state plan (i + 1)
behind plan i boxes box class masks packets cell are less is is_class is_masks is_packets is_cell =
    let in' : i < boxes_of plan = omega (arith, ap length are, less) in
    let here : box ≡ box_at plan i =
    is ∙ ap (λ (l : List BoxPlan). slice_index_or l i box) are
    ∙ get_or_default plan.boxes i box (record { name = []; class = 0; first = [] }) in' in
    let count : masks ≡ masks_of plan (box_at plan i) =
    is_masks ∙ ap (λ (k : ClassPlan). 2 ^ length k.queries) (is_class ∙ ap (class_of plan) here) in
    let rows : packets * masks ≡ packets_of plan * masks_of plan (box_at plan i) =
    ap (λ (n : ℕ). n * masks) is_packets ∙ ap (λ (n : ℕ). packets_of plan * n) count in
    omega (arith, rows, is_cell, next_state plan i in')

pub overflow_add-cell : goal.overflow_add-cell
overflow_add-cell c =
    let next : c.loop-boxed.cell + c.args.packets * c.mask_count.result
    ≡ first_state c.args.plan.now (c.loop-boxed.boxed-index + 1) =
    behind c.args.plan.now c.loop-boxed.boxed-index c.as_slice-boxed-items.result.now c.boxed-item.result
    c.class_of_box.result.now c.mask_count.result c.args.packets c.loop-boxed.cell
    c.as_slice-boxed-items.ensures c.loop-boxed-test.true c.boxed-item.is c.class_of_box.ensures.class
    c.mask_count.ensures.masks c.requires.packets c.loop-boxed.invariant.last in
    omega (arith, next, states_small c.args.plan.now (c.loop-boxed.boxed-index + 1) c.requires.sound)

pub loop-boxed-preserved : goal.loop-boxed-preserved
loop-boxed-preserved c =
    let i : ℕ = c.loop-boxed.boxed-index in
    let next : c.loop-boxed.cell + c.args.packets * c.mask_count.result ≡ first_state c.args.plan.now (i + 1) =
    behind c.args.plan.now c.loop-boxed.boxed-index c.as_slice-boxed-items.result.now c.boxed-item.result
    c.class_of_box.result.now c.mask_count.result c.args.packets c.loop-boxed.cell
    c.as_slice-boxed-items.ensures c.loop-boxed-test.true c.boxed-item.is c.class_of_box.ensures.class
    c.mask_count.ensures.masks c.requires.packets c.loop-boxed.invariant.last in
    record {
      made =
          c.in_ok-push-2.ensures.ok
          ∙ ap (λ (states : List ℕ). states ++ (c.loop-boxed.cell + c.args.packets * c.mask_count.result)
          ∷ []) c.loop-boxed.invariant.made
          ∙ ap (λ (cell : ℕ). map (first_state c.args.plan.now) (range_with_len 0 (i + 1)) ++ cell ∷ []) next
          ∙ sym (map-range_with_len_more (first_state c.args.plan.now) 0 (i + 1) (i + 1) (zero-add (i + 1)));
      last = next;
    }
