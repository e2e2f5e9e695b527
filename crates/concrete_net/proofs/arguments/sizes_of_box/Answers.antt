use Rattle.std.proofs.Common.{List, get_or, sym, ap, subst, ◌∙◌}
use Rattle.net_plan.specs.declared.plan.ClassPlan.{ClassPlan}
use Rattle.net_plan.specs.Sound.{IsClass}
use Rattle.concrete_net.proofs.arguments.sizes_of_box.Goals as goal

pub sizes_of_class-requires-clause-class : goal.sizes_of_class-requires-clause-class
sizes_of_class-requires-clause-class c =
    subst (IsClass c.args.plan.now)
    (sym (c.index-as_slice-boxed.is
    ∙ ap (λ (l : List ClassPlan). get_or l c.args.boxed.now.class c.index-as_slice-boxed.result) c.as_slice.ensures))
    (c.requires.sound.classes.classes c.args.boxed.now.class c.index-as_slice-boxed.result c.requires.class)
