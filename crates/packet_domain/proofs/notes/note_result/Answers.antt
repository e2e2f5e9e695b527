use Rattle.std.proofs.Common.{sym, subst, ◌∙◌}
use Rattle.net_plan.specs.declared.plan.Plan.{Plan}
use Rattle.abstract_step.specs.Step.{result_at}
use Rattle.move_table.specs.Moves.{Noted, Patches}
use Rattle.packet_domain.proofs.NoteLemmas.{result_goes_on, result_aborts}
use Rattle.packet_domain.proofs.notes.note_result.Goals as goal

pub returns-then-not-aborted-clause-noted : goal.returns-then-not-aborted-clause-noted
returns-then-not-aborted-clause-noted g c =
    result_goes_on c.args.net.now c.args.b c.args.p c.args.v (result_at c.args.fired.now c.args.i)
    c.args.table.now.moves c.note.new.self.moves c.args.work.now c.note.new.work
    (sym c.aborted.ensures ∙ c.if-not-aborted.true)
    (subst (λ writes. Noted c.args.net.now (Patches c.args.net.now c.args.b c.args.p c.args.v writes)
    c.args.table.now.moves c.note.new.self.moves c.args.work.now c.note.new.work) c.update.ensures
    (subst (λ (plan : Plan). Noted plan (Patches plan c.args.b c.args.p c.args.v c.update.result.now)
    c.args.table.now.moves c.note.new.self.moves c.args.work.now c.note.new.work) c.requires.table
    c.note.ensures.noted))

pub returns-else-not-aborted-clause-noted : goal.returns-else-not-aborted-clause-noted
returns-else-not-aborted-clause-noted g c =
    result_aborts c.args.net.now c.args.b c.args.p c.args.v (result_at c.args.fired.now c.args.i)
    c.args.table.now.moves c.args.work.now c.requires.sized (sym c.aborted.ensures ∙ c.if-not-aborted.false)
