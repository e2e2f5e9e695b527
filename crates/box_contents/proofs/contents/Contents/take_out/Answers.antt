use Rattle.std.proofs.Common.{◌≡◌, rules, ℕ, List, not, sym, subst, ◌∙◌}
use Rattle.std.specs.List.{remove}
use Rattle.std.proofs.lemmas.List.Kept.{IsStrictlySortedBy-filter}
use Rattle.box_contents.specs.declared.entry.Entry.{Entry}
use Rattle.box_contents.specs.Contents.{IsRising, entry_cmp, same_entry, without_entry}
use Rattle.box_contents.proofs.contents.Contents.take_out.Goals as goal

rises : (old new : List Entry) (place : ℕ) (entry : Entry) → new ≡ remove old place →
    without_entry old entry ≡ remove old place → IsRising old → IsRising new
rises old new place entry is without rising =
    subst IsRising (without ∙ sym is)
    (IsStrictlySortedBy-filter entry_cmp (λ other. not (same_entry entry other)) old rising)

pub invariant_of-self : goal.invariant_of-self
invariant_of-self c =
    rises c.self.inside.items.items _ c.in-Ok.place c.args.entry c.remove.ensures.items (search rules) c.self.invariant
