use Rattle.std.proofs.Common.{◌≡◌, ◌++◌, OnOk, OnErr, sym, subst}
use Rattle.amdl_tree.specs.Appends.{AppendsPart}
use Rattle.schedule_file.specs.declared.refusal.FileRefusal.{FileRefusal}
use Rattle.schedule_file.specs.Messages.{refused_schedule}
use Rattle.schedule_file.proofs.messages.put_refused.Goals as goal

pub returns-in-WordTooLong-clause-ok : goal.returns-in-WordTooLong-clause-ok
returns-in-WordTooLong-clause-ok c =
    subst (λ (refusal : FileRefusal). OnOk c.put_placed-in-WordTooLong.result
    (c.put_placed-in-WordTooLong.new.out.items ≡ c.args.out.now.items ++ refused_schedule refusal))
    (sym c.in-WordTooLong.is) c.put_placed-in-WordTooLong.ensures.ok

pub returns-in-WordTooLong-clause-err : goal.returns-in-WordTooLong-clause-err
returns-in-WordTooLong-clause-err c =
    subst (λ (refusal : FileRefusal). OnErr c.put_placed-in-WordTooLong.result
    (AppendsPart c.args.out.now.items c.put_placed-in-WordTooLong.new.out.items (refused_schedule refusal)))
    (sym c.in-WordTooLong.is) c.put_placed-in-WordTooLong.ensures.err

pub returns-in-UnknownName-clause-ok : goal.returns-in-UnknownName-clause-ok
returns-in-UnknownName-clause-ok c =
    subst (λ (refusal : FileRefusal). OnOk c.put_placed-in-UnknownName.result
    (c.put_placed-in-UnknownName.new.out.items ≡ c.args.out.now.items ++ refused_schedule refusal))
    (sym c.in-UnknownName.is) c.put_placed-in-UnknownName.ensures.ok

pub returns-in-UnknownName-clause-err : goal.returns-in-UnknownName-clause-err
returns-in-UnknownName-clause-err c =
    subst (λ (refusal : FileRefusal). OnErr c.put_placed-in-UnknownName.result
    (AppendsPart c.args.out.now.items c.put_placed-in-UnknownName.new.out.items (refused_schedule refusal)))
    (sym c.in-UnknownName.is) c.put_placed-in-UnknownName.ensures.err
