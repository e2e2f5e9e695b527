use Rattle.std.proofs.Common.{◌≡◌, List, ℕ, [], ◌∷◌, ◌++◌, sym, ap, ◌∙◌, append_assoc, append-nil}
use Rattle.std.proofs.lemmas.Result.{on_ok_weaker, on_err_weaker}
use Rattle.amdl_tree.specs.Layout.{line}
use Rattle.plan_text.specs.Text.{network_line, items_line, cells_line, counts_of}
use Rattle.amdl_tree.proofs.AppendLemmas.{on_err, part_first, part_after, appended_after}
use Rattle.plan_text.proofs.counts.put_counts.Goals as goal

-- three lines, from the end of the first one on
from_first_end : (network items cells : List ℕ) →
    line network ++ line items ++ line cells ≡ network ++ (10 ∷ (line items ++ line cells))
from_first_end network items cells = simp append_assoc

pub returns-in_err-put_network_line-clause-err : goal.returns-in_err-put_network_line-clause-err
returns-in_err-put_network_line-clause-err c =
    let plan = c.args.network.now in
    on_err _ (part_first c.args.out.now.items c.put_network_line.new.out.items (network_line plan)
    (10 ∷ (line (items_line plan) ++ line (cells_line plan))) (counts_of plan)
    (from_first_end (network_line plan) (items_line plan) (cells_line plan)) c.in_err-put_network_line.ensures.err)

pub returns-clause-ok : goal.returns-clause-ok
returns-clause-ok c =
    let plan = c.args.network.now in
    let others = 10 ∷ (line (items_line plan) ++ line (cells_line plan)) in
    on_ok_weaker _
    (λ h. appended_after c.args.out.now.items c.put_network_line.new.out.items c.put_other_counts.new.out.items
    (network_line plan) others c.in_ok-put_network_line.ensures.ok h
    ∙ ap (λ t. c.args.out.now.items ++ t)
    (sym (from_first_end (network_line plan) (items_line plan) (cells_line plan)))) c.put_other_counts.ensures.ok

pub returns-clause-err : goal.returns-clause-err
returns-clause-err c =
    let plan = c.args.network.now in
    let others = 10 ∷ (line (items_line plan) ++ line (cells_line plan)) in
    on_err_weaker _
    (part_after c.args.out.now.items c.put_network_line.new.out.items c.put_other_counts.new.out.items
    (network_line plan) others [] (counts_of plan) c.in_ok-put_network_line.ensures.ok
    (from_first_end (network_line plan) (items_line plan) (cells_line plan)
    ∙ ap (λ t. network_line plan ++ t) (sym (append-nil others))))
    c.put_other_counts.ensures.err
