use Rattle.std.proofs.Common.{◌≡◌, ◌<◌, ◌∙◌, ◌++◌, ◌∷◌, [], List, ℕ, ap, subst, get_or, length}
use Rattle.net_plan.specs.declared.plan.BoxPlan.{BoxPlan}
use Rattle.net_plan.specs.Plan.{class_of}
use Rattle.net_runs.specs.World.{relations_of}
use Rattle.concrete_net.proofs.TableLemmas.{mapped_more}
use Rattle.concrete_net.proofs.arguments.sizes_of_boxes.Goals as goal

pub loop-boxed-preserved : goal.loop-boxed-preserved
loop-boxed-preserved c =
    let same : c.as_slice-boxed-items.result.now ≡ c.args.plan.now.boxes = c.as_slice-boxed-items.ensures in
    c.in_ok-push.ensures.ok
    ∙ ap (λ (x : List (List ℕ)). c.loop-boxed.sizes ++ x ∷ []) c.in_ok-sizes_of_box.ensures
    ∙ mapped_more (λ (box : BoxPlan). relations_of c.args.plan.now (class_of c.args.plan.now box))
    c.args.plan.now.boxes c.loop-boxed.boxed-index c.boxed-item.result c.loop-boxed.sizes
    (subst (λ (l : List BoxPlan). c.loop-boxed.boxed-index < length l) same c.loop-boxed-test.true)
    (subst (λ (l : List BoxPlan). c.boxed-item.result ≡ get_or l c.loop-boxed.boxed-index c.boxed-item.result) same
    c.boxed-item.is)
    c.loop-boxed.invariant
