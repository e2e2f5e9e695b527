use Rattle.std.proofs.Common.{◌≡◌, ap, sym, ◌∙◌, None}
use Rattle.outside.specs.Failing.{Failing, NamedCalls}
use Rattle.outside.specs.Naming.{first_naming, named_calls}
use Rattle.outside.proofs.NamingLemmas.{named_calls-push, naming-new, naming-again, none_from_not_some, get-named_calls}
use Rattle.outside.proofs.failing.FailingCalls.name_call.Goals as goal

pub returns-in_ok-push-clause-ok : goal.returns-in_ok-push-clause-ok
returns-in_ok-push-clause-ok c =
    let was = c.self.inside in
    let with_calls : NamedCalls → Failing = λ m. record { named = m; calls = was.calls; faults = was.faults } in
    let none : first_naming was.named.items c.args.call ≡ None =
    none_from_not_some _ (rw (← c.deref.ensures.value, ← c.from.ensures, ← c.kept_by.ensures) c.if-is_none.ensures) in
    rw (← c.self.view_is)
    (ap with_calls
    (ap named_calls c.in_ok-push.ensures.items ∙ named_calls-push was.named.items _ none
    ∙ sym (naming-new (named_calls was.named.items) c.args.call c.args.kept (get-named_calls _ _ ∙ none))))

pub returns-else-is_none-clause-ok : goal.returns-else-is_none-clause-ok
returns-else-is_none-clause-ok c =
    let was = c.self.inside in
    let with_calls : NamedCalls → Failing = λ m. record { named = m; calls = was.calls; faults = was.faults } in
    rw (← c.self.view_is)
    (ap with_calls
    (sym
    (naming-again (named_calls was.named.items) c.args.call c.args.kept
    (rw (get-named_calls, ← c.deref.ensures.value, ← c.from.ensures, ← c.kept_by.ensures) c.if-is_none.ensures))))
