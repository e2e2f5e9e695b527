use Rattle.std.proofs.Common.{refl, ◌∙◌}
use Rattle.outside.proofs.KeepingLemmas.{keep-set, keep-push}
use Rattle.outside.proofs.keeping.KeptFiles.keep.Goals as goal

pub returns-in-Some-clause-ok : goal.returns-in-Some-clause-ok
returns-in-Some-clause-ok c =
    let found = c.in-Some.ensures in
    rw (← c.self.view_is)
    (keep-set c.self.inside.kept.items c.deref.result.now c.in-Some.place c.index_mut.result.now _ c.args.name.now
    c.as_bytes.result.now _ c.deref.ensures.value c.as_bytes.ensures.value found.within found.first found.here
    c.index_mut.ensures.value refl c.in_ok-bytes.ensures.items)

pub returns-in_ok-push-in-None-clause-ok : goal.returns-in_ok-push-in-None-clause-ok
returns-in_ok-push-in-None-clause-ok c =
    rw (← c.self.view_is)
    (keep-push c.self.inside.kept.items c.deref.result.now _ _ c.args.name.now c.as_bytes.result.now _
    c.deref.ensures.value c.as_bytes.ensures.value c.in-None.ensures.none c.in_ok-push-in-None.ensures.items
    (c.in_ok-name-in-None.ensures.items ∙ c.as_bytes-in-None.ensures.value) c.in_ok-bytes.ensures.items)
