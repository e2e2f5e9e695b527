use Rattle.std.proofs.Common.{sym, subst, ◌∙◌}
use Rattle.abstract_step.specs.Step.{result_at}
use Rattle.move_table.specs.Moves.{IsPatch}
use Rattle.packet_domain.proofs.ChangeLemmas.{change_given}
use Rattle.packet_domain.proofs.changes.offer_change.Goals as goal

pub returns-then-not-aborted : goal.returns-then-not-aborted
returns-then-not-aborted g c =
    change_given c.args.net.now c.args.b c.args.q c.args.w c.args.work.now c.offer.new.work
    (result_at c.args.fired.now c.args.i) c.patch-after.result (sym c.aborted.ensures ∙ c.if-not-aborted.true)
    c.requires.answered
    (subst (λ writes. IsPatch c.args.net.now c.args.b writes c.args.q c.args.w c.patch-after.result) c.update.ensures
    c.patch-after.ensures.exact)
    c.offer.ensures
