use Rattle.std.proofs.Common.{◌≡◌, ℕ, List, [], ◌++◌, codes, append_assoc, append-nil}
use Rattle.amdl_tree.specs.Layout.{layout_of_changes}
use Rattle.amdl_tree.proofs.AppendLemmas.{appended_after, then_text}
use Rattle.amdl_format.specs.Lines.{blanks}
use Rattle.amdl_format.proofs.statements.put_output.Goals as goal

-- pieces in turn, grouped as in the layout and as they are put
grouped : (blank word bytes name changes stop end : List ℕ) → bytes ≡ name →
    blank ++ ((word ++ name ++ changes ++ stop) ++ end) ≡ (blank ++ (word ++ (bytes ++ []))) ++ changes ++ (stop ++ end)
grouped blank word bytes name changes stop end spelled = rw spelled (simp (append_assoc, append-nil))

pub returns-clause-ok : goal.returns-clause-ok
returns-clause-ok c =
    let old = c.args.out.now.items in
    let head = blanks c.args.level ++ (codes "output " ++ (c.bytes.result.now ++ [])) in
    let changes = layout_of_changes c.args.changes.now in
    then_text _ old c.put_changes.new.out.items c.put_all-2.new.out.items (head ++ changes) (codes ";\n") _
    (appended_after old c.put_all.new.out.items c.put_changes.new.out.items head changes
    (appended_after old c.put_blanks.new.out.items c.put_all.new.out.items (blanks c.args.level)
    (codes "output " ++ (c.bytes.result.now ++ []))
    c.in_ok-put_blanks.ensures.ok c.in_ok-put_all.ensures.ok)
    c.in_ok-put_changes.ensures.ok)
    (grouped (blanks c.args.level) (codes "output ") c.bytes.result.now c.args.port changes (codes ";")
    (codes "\n") c.bytes.ensures.spelled)
    c.put_all-2.ensures.ok
