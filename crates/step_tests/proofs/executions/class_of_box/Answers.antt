use Rattle.std.proofs.Common.{List, get_or, sym, ap, subst, ◌∙◌}
use Rattle.net_plan.specs.declared.plan.BoxPlan.{BoxPlan}
use Rattle.net_plan.specs.declared.plan.ClassPlan.{ClassPlan}
use Rattle.net_plan.specs.Sound.{IsBox, IsClass}
use Rattle.step_tests.proofs.executions.class_of_box.Goals as goal

pub returns-clause-sound : goal.returns-clause-sound
returns-clause-sound c =
    let boxed : BoxPlan = get_or c.as_slice.result.now c.args.b c.index-as_slice-b.result in
    let is_box : IsBox c.args.plan.now boxed =
    subst (λ (l : List BoxPlan). IsBox c.args.plan.now (get_or l c.args.b c.index-as_slice-b.result))
    (sym c.as_slice.ensures)
    (c.requires.sound.classes.boxes c.args.b c.index-as_slice-b.result c.requires.boxed) in
    subst (IsClass c.args.plan.now)
    (sym (c.index-as_slice-class.is
    ∙ ap (λ (l : List ClassPlan). get_or l boxed.class c.index-as_slice-class.result) c.as_slice-2.ensures))
    (c.requires.sound.classes.classes boxed.class c.index-as_slice-class.result is_box.class)
