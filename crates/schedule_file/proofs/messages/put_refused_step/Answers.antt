use Rattle.std.proofs.Common.{OnErr, sym, subst}
use Rattle.amdl_tree.specs.Appends.{AppendsPart}
use Rattle.concrete_net.specs.declared.refusal.StepRefusal.{StepRefusal}
use Rattle.schedule_file.specs.Messages.{refused_step}
use Rattle.schedule_file.proofs.messages.put_refused_step.Goals as goal

pub returns-in-NoSuch-clause-err : goal.returns-in-NoSuch-clause-err
returns-in-NoSuch-clause-err c =
    subst (λ (why : StepRefusal). OnErr c.put_placed.result
    (AppendsPart c.args.out.now.items c.put_placed.new.out.items (refused_step c.args.step why)))
    (sym c.in-NoSuch.is) c.put_placed.ensures.err
