use Rattle.std.proofs.Common.{sym, ◌∙◌}
use Rattle.outside.proofs.NamingLemmas.{first_naming-here, first_naming-next}
use Rattle.outside.proofs.failing.kept_by.Goals as goal

pub returns-then-from-call : goal.returns-then-from-call
returns-then-from-call c =
    sym (c.loop-naming.invariant ∙ first_naming-here _ c.loop-naming.naming-index _ _ c.loop-naming-test.true (cc))

pub loop-naming-preserved : goal.loop-naming-preserved
loop-naming-preserved c =
    c.loop-naming.invariant
    ∙ first_naming-next _ c.loop-naming.naming-index (record { call = 0; kept = 0 }) _ c.loop-naming-test.true
    (λ e. c.if-from-call.false (cc))
