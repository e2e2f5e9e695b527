use Rattle.std.proofs.Common.{◌≡◌, ℕ, List, ◌++◌, codes, append_assoc}
use Rattle.amdl_tree.specs.Layout.{layout_of_relation, listed}
use Rattle.amdl_tree.specs.declared.class.Relation.{Relation}
use Rattle.amdl_format.specs.Lines.{line_at}
use Rattle.amdl_tree.proofs.AppendLemmas.{appended_after, then_text}
use Rattle.amdl_format.proofs.items.put_relation.Goals as goal

-- a relation with its types, as it is put
abbrev tuple : List ℕ → List (List ℕ) → List ℕ
tuple name kinds = name ++ codes "(" ++ listed kinds ++ codes ")"

-- pieces in turn, grouped as in the layout and as they are put
grouped : (blank word name opening kinds closing stop end : List ℕ) →
    blank ++ ((word ++ name ++ opening ++ kinds ++ (closing ++ stop)) ++ end) ≡ (blank ++ word)
    ++ (name ++ opening ++ kinds ++ closing) ++ (stop ++ end)
grouped blank word name opening kinds closing stop end = simp append_assoc

line_parts : (relation : Relation) (kinds : List (List ℕ)) → kinds ≡ relation.kinds →
    line_at 1 (layout_of_relation relation) ≡ codes "  relation " ++ tuple relation.name kinds ++ codes ";\n"
line_parts relation kinds same =
    rw same (grouped (codes "  ") (codes "relation ") relation.name (codes "(") (listed relation.kinds) (codes ")")
    (codes ";") (codes "\n"))

pub returns-clause-ok : goal.returns-clause-ok
returns-clause-ok c =
    let old = c.args.out.now.items in
    let relation = c.args.relation.now in
    let kinds = c.as_slice.result.now in
    then_text _ old c.put_tuple.new.out.items c.put_all-2.new.out.items
    (codes "  relation " ++ tuple relation.name kinds) (codes ";\n") _
    (appended_after old c.put_all.new.out.items c.put_tuple.new.out.items (codes "  relation ")
    (tuple relation.name kinds)
    c.in_ok-put_all.ensures.ok c.in_ok-put_tuple.ensures.ok)
    (line_parts relation kinds c.as_slice.ensures) c.put_all-2.ensures.ok
