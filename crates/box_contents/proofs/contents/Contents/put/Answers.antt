use Rattle.std.proofs.Common.{◌≡◌, rules, ℕ, Bool, true, false, List, sym, subst, ◌∙◌, if◌then◌else◌}
use Rattle.std.specs.List.{insert}
use Rattle.box_contents.specs.declared.entry.Entry.{Entry}
use Rattle.box_contents.specs.Contents.{IsRising, with_entry}
use Rattle.box_contents.proofs.Entries.{entries_total}
use Rattle.box_contents.proofs.Held.{with_rises}
use Rattle.box_contents.proofs.contents.Contents.put.Goals as goal

rises : (done : Bool) (old new : List Entry) (place : ℕ) (entry : Entry) →
    new ≡ (if done then (insert old place entry) else old) →
    with_entry old entry ≡ insert old place entry → IsRising old → IsRising new
rises true old new place entry is put rising = subst IsRising (put ∙ sym is) (with_rises entries_total entry old rising)
rises false old new place entry is put rising = subst IsRising (sym is) rising

pub invariant_of-self : goal.invariant_of-self
invariant_of-self c =
    rises _ c.self.inside.items.items _ c.in-Err.place c.args.entry c.insert.ensures.items
    (search rules) c.self.invariant
