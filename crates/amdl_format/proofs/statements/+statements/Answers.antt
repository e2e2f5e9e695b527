use Rattle.std.proofs.Common.{rules, ◌≡◌, ◌+◌, ◌-◌, ◌≤◌, ℕ, List, [], ◌∷◌, ◌++◌, map, codes, sym, ap, subst, ◌∙◌}
use Rattle.std.proofs.Common.{append_assoc, arith}
use Rattle.std.specs.List.{All, flat_map}
use Rattle.amdl_tree.specs.Layout.{branch_of_alternative, indented, layout_of_changes, layout_of_guard, lines_of_choice}
use Rattle.amdl_tree.specs.Layout.{lines_of_statement}
use Rattle.amdl_tree.specs.WellBuilt.{AlternativeFits, StmtFits}
use Rattle.amdl_tree.specs.declared.statement.Stmt.{Stmt}
use Rattle.amdl_format.specs.Lines.{line_at, text_at}
use Rattle.amdl_format.proofs.FitLemmas.{choose_level, choose_inside, pick_level, pick_inside}
use Rattle.amdl_format.proofs.FormLemmas.{insert_text, remove_text, abort_text, output_text, choose_text, pick_text}
use Rattle.amdl_format.proofs.FormLemmas.{branch_text, branches_step, branches_done, choice_parts}
use Rattle.amdl_format.proofs.LineLemmas.{text_of_block, framed_parts}
use Rattle.amdl_format.proofs.ListLemmas.{appended_as, pieces_step, pieces_done}
use Rattle.amdl_tree.proofs.AppendLemmas.{appended_after, then_text}
use Rattle.amdl_format.proofs.statements.+statements.Goals as goal

pub put_statement-put_choice-requires : goal.put_statement-put_choice-requires
put_statement-put_choice-requires t c =
    let fits = subst (StmtFits (34 - c.args.level)) c.in-Choose.is c.requires.fits in
    let room : c.args.level ≤ 33 = omega (arith, choose_level (34 - c.args.level) _ fits) in (
      search rules,
      (
        room,
        subst (All (AlternativeFits (33 - c.args.level))) (sym c.as_slice-in-Choose.ensures)
            (choose_inside (34 - c.args.level) (33 - c.args.level) _ (omega arith) fits),
      ),
    )

pub put_statement-put_pick-requires : goal.put_statement-put_pick-requires
put_statement-put_pick-requires t c =
    let fits = subst (StmtFits (34 - c.args.level)) c.in-Pick.is c.requires.fits in
    let room : c.args.level ≤ 33 = omega (arith, pick_level (34 - c.args.level) _ _ _ fits) in (
      search rules,
      (
        room,
        subst (All (StmtFits (33 - c.args.level))) (sym c.as_slice-in-Pick.ensures)
            (pick_inside (34 - c.args.level) (33 - c.args.level) _ _ _ (omega arith) fits),
      ),
    )

pub put_alternative-returns-clause-ok : goal.put_alternative-returns-clause-ok
put_alternative-returns-clause-ok t c =
    let alternative = c.args.alternative.now in
    let head = line_at c.args.level (c.args.before.now ++ layout_of_guard alternative.guard ++ codes " -> {") in
    let block = λ (body : List Stmt). text_at c.args.level (indented (flat_map lines_of_statement body)) in
    then_text _ c.args.out.now.items c.put_asked.new.out.items c.put_block.new.out.items head
    (block c.as_slice.result.now) _
    c.in_ok-put_asked.ensures.ok
    (branch_text c.args.level c.args.before.now alternative ∙ ap (λ body. head ++ block body) (sym c.as_slice.ensures))
    c.put_block.ensures.ok

pub put_block-loop-stmt-init : goal.put_block-loop-stmt-init
put_block-loop-stmt-init t c = record {
  text = ap (λ text. c.args.out.now.items ++ text)
      (sym (text_of_block c.args.level lines_of_statement c.args.body.now));
  kept = λ front begun. begun;
}

pub put_block-loop-stmt-preserved : goal.put_block-loop-stmt-preserved
put_block-loop-stmt-preserved t c = record {
  text = pieces_step
      (λ stmt. text_at (c.args.level + 1)
      (lines_of_statement stmt)) c.args.body.now c.loop-stmt.stmt-index c.stmt-item.result
      c.loop-stmt.out.items c.put_statement.new.out.items _
      c.loop-stmt-test.true c.stmt-item.is c.loop-stmt.invariant.text c.in_ok-put_statement.ensures.ok;
  kept = λ front begun. c.put_statement.ensures.kept front (c.loop-stmt.invariant.kept front begun);
}

pub put_block-returns-clause-ok : goal.put_block-returns-clause-ok
put_block-returns-clause-ok t c =
    pieces_done (λ stmt. text_at (c.args.level + 1) (lines_of_statement stmt)) c.args.body.now c.loop-stmt.stmt-index
    c.loop-stmt.out.items _ c.loop-stmt-test.false c.loop-stmt.invariant.text

pub put_alternatives-loop-alternative-preserved : goal.put_alternatives-loop-alternative-preserved
put_alternatives-loop-alternative-preserved t c = record {
  text = branches_step c.args.level c.loop-alternative.before.now c.args.alternatives.now
      c.loop-alternative.alternative-index c.alternative-item.result
      c.loop-alternative.out.items c.put_alternative.new.out.items _
      c.loop-alternative-test.true c.alternative-item.is c.loop-alternative.invariant.text
      c.in_ok-put_alternative.ensures.ok;
  kept = λ front begun. c.put_alternative.ensures.kept front (c.loop-alternative.invariant.kept front begun);
}

pub put_alternatives-returns-clause-ok : goal.put_alternatives-returns-clause-ok
put_alternatives-returns-clause-ok t c =
    branches_done c.args.level c.loop-alternative.before.now c.args.alternatives.now
    c.loop-alternative.alternative-index
    c.loop-alternative.out.items _ c.loop-alternative-test.false c.loop-alternative.invariant.text

-- the first line of a `pick`, grouped as in the layout and as it is put
pick_line : (name kind first second : List ℕ) → first ≡ name → second ≡ kind →
    codes "pick " ++ name ++ codes " : " ++ kind
    ++ codes " in {" ≡ codes "pick " ++ (first ++ (codes " : " ++ (second ++ codes " in {")))
pick_line name kind first second e f = rw (e, f) (simp append_assoc)

pub put_pick-returns-clause-ok : goal.put_pick-returns-clause-ok
put_pick-returns-clause-ok t c =
    let level = c.args.level in
    let head = codes "pick " ++ (c.bytes.result.now ++ (codes " : " ++ (c.bytes-2.result.now ++ codes " in {"))) in
    let block = indented (flat_map lines_of_statement c.args.body.now) in
    let last = line_at level (codes "}") in
    then_text _ c.args.out.now.items c.put_block.new.out.items c.put_line-2.new.out.items
    (line_at level head ++ text_at level block) last _
    (appended_after c.args.out.now.items c.put_line.new.out.items c.put_block.new.out.items (line_at level head)
    (text_at level block)
    c.in_ok-put_line.ensures.ok c.in_ok-put_block.ensures.ok)
    (framed_parts level (codes "pick " ++ c.args.name ++ codes " : " ++ c.args.kind ++ codes " in {") block (codes "}")
    ∙ ap (λ text. (line_at level text ++ text_at level block) ++ last)
    (pick_line c.args.name c.args.kind c.bytes.result.now c.bytes-2.result.now c.bytes.ensures.spelled
    c.bytes-2.ensures.spelled))
    c.put_line-2.ensures.ok

pub put_choice-returns-clause-ok : goal.put_choice-returns-clause-ok
put_choice-returns-clause-ok t c =
    let level = c.args.level in
    let alternatives = c.args.alternatives.now in
    then_text _ c.args.out.now.items c.put_alternatives.new.out.items c.put_line-2.new.out.items _
    (line_at level (codes "} fi")) _
    c.in_ok-put_alternatives.ensures.ok
    (choice_parts level alternatives (sym c.is_empty.ensures ∙ c.if-is_empty.false))
    c.put_line-2.ensures.ok

-- the lines of a statement of this form
lines_of_form : (level : ℕ) (stmt form : Stmt) (text : List ℕ) → stmt ≡ form →
    text_at level (lines_of_statement form) ≡ text → text_at level (lines_of_statement stmt) ≡ text
lines_of_form level stmt form text same written = ap (λ s. text_at level (lines_of_statement s)) same ∙ written

pub put_statement-returns-in-Insert-clause-ok : goal.put_statement-returns-in-Insert-clause-ok
put_statement-returns-in-Insert-clause-ok t c =
    appended_as c.put_change.result c.args.out.now.items c.put_change.new.out.items _ _
    (lines_of_form c.args.level _ _ _ c.in-Insert.is
    (insert_text c.args.level c.in-Insert.atom)) c.put_change.ensures.ok

pub put_statement-returns-in-Remove-clause-ok : goal.put_statement-returns-in-Remove-clause-ok
put_statement-returns-in-Remove-clause-ok t c =
    appended_as c.put_change-in-Remove.result c.args.out.now.items c.put_change-in-Remove.new.out.items _ _
    (lines_of_form c.args.level _ _ _ c.in-Remove.is
    (remove_text c.args.level c.in-Remove.atom)) c.put_change-in-Remove.ensures.ok

pub put_statement-returns-in-Abort-clause-ok : goal.put_statement-returns-in-Abort-clause-ok
put_statement-returns-in-Abort-clause-ok t c =
    appended_as c.put_line.result c.args.out.now.items c.put_line.new.out.items _ _
    (lines_of_form c.args.level _ _ _ c.in-Abort.is (abort_text c.args.level)) c.put_line.ensures.ok

pub put_statement-returns-in-Output-clause-ok : goal.put_statement-returns-in-Output-clause-ok
put_statement-returns-in-Output-clause-ok t c =
    appended_as c.put_output.result c.args.out.now.items c.put_output.new.out.items _ _
    (lines_of_form c.args.level _ _ _ c.in-Output.is (output_text c.args.level c.in-Output.port c.in-Output.changes)
    ∙ ap (λ changes. line_at c.args.level
    (codes "output " ++ c.in-Output.port ++ layout_of_changes changes ++ codes ";")) (sym c.as_slice.ensures))
    c.put_output.ensures.ok

pub put_statement-returns-in-Choose-clause-ok : goal.put_statement-returns-in-Choose-clause-ok
put_statement-returns-in-Choose-clause-ok t c =
    appended_as c.put_choice.result c.args.out.now.items c.put_choice.new.out.items _ _
    (lines_of_form c.args.level _ _ _ c.in-Choose.is (choose_text c.args.level c.in-Choose.alternatives)
    ∙ ap (λ alternatives. text_at c.args.level (lines_of_choice (map branch_of_alternative alternatives)))
    (sym c.as_slice-in-Choose.ensures))
    c.put_choice.ensures.ok

pub put_statement-returns-in-Pick-clause-ok : goal.put_statement-returns-in-Pick-clause-ok
put_statement-returns-in-Pick-clause-ok t c =
    let name = c.in-Pick.name in
    let kind = c.in-Pick.kind in
    appended_as c.put_pick.result c.args.out.now.items c.put_pick.new.out.items _ _
    (lines_of_form c.args.level _ _ _ c.in-Pick.is (pick_text c.args.level name kind c.in-Pick.body)
    ∙ ap (λ body. text_at c.args.level
    ((codes "pick " ++ name ++ codes " : " ++ kind ++ codes " in {") ∷ indented (flat_map lines_of_statement body)
    ++ codes "}" ∷ []))
    (sym c.as_slice-in-Pick.ensures))
    c.put_pick.ensures.ok
