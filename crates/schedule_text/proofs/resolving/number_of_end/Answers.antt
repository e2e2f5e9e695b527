use Rattle.std.proofs.Common.{ℕ, MatchOption, sym, subst}
use Rattle.schedule_text.specs.Resolved.{IsEndCalled}
use Rattle.schedule_text.proofs.resolving.number_of_end.Goals as goal

pub returns-in-Host : goal.returns-in-Host
returns-in-Host c =
    subst
    (λ end. MatchOption c.find_end.result ((number : ℕ) → IsEndCalled c.args.net.now end number → ⊥)
    (IsEndCalled c.args.net.now end)) (sym c.in-Host.is) c.find_end.ensures

pub returns-in-Port : goal.returns-in-Port
returns-in-Port c =
    subst
    (λ end. MatchOption c.find_end-in-Port.result ((number : ℕ) → IsEndCalled c.args.net.now end number → ⊥)
    (IsEndCalled c.args.net.now end)) (sym c.in-Port.is) c.find_end-in-Port.ensures
