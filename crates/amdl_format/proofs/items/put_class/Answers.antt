use Rattle.std.proofs.Common.{◌≡◌, ℕ, List, ◌++◌, codes, ap, ◌∙◌, append_assoc}
use Rattle.amdl_tree.specs.Layout.{line, lines_within_class}
use Rattle.amdl_format.specs.Lines.{text_at}
use Rattle.amdl_tree.proofs.AppendLemmas.{appended_after, then_text}
use Rattle.amdl_format.proofs.LineLemmas.{class_parts}
use Rattle.amdl_format.proofs.items.put_class.Goals as goal

-- the first line, as it is put
head_line : (bytes name : List ℕ) → bytes ≡ name →
    line (codes "middlebox " ++ name ++ codes " {") ≡ codes "middlebox " ++ (bytes ++ codes " {\n")
head_line bytes name spelled = rw spelled (simp append_assoc)

pub returns-clause-ok : goal.returns-clause-ok
returns-clause-ok c =
    let old = c.args.out.now.items in
    let head = codes "middlebox " ++ (c.bytes.result.now ++ codes " {\n") in
    let lines = text_at 1 (lines_within_class c.args.class.now) in
    then_text _ old c.put_within_class.new.out.items c.put_all-2.new.out.items (head ++ lines) (codes "}\n") _
    (appended_after old c.put_all.new.out.items c.put_within_class.new.out.items head lines c.in_ok-put_all.ensures.ok
    c.in_ok-put_within_class.ensures.ok)
    (class_parts c.args.class.now ∙ ap (λ t. t ++ lines ++ codes "}\n")
    (head_line c.bytes.result.now c.args.class.now.name c.bytes.ensures.spelled))
    c.put_all-2.ensures.ok
