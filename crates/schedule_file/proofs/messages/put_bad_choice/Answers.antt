use Rattle.std.proofs.Common.{◌≡◌, ◌++◌, ◌∷◌, [], ◌∙◌, ℕ, List, codes, decimal, sym, ap, subst, append_assoc}
use Rattle.std.proofs.lemmas.Result.{on_ok_weaker, on_err_weaker}
use Rattle.amdl_tree.specs.Appends.{AppendsPart}
use Rattle.schedule_file.proofs.messages.put_bad_choice.Goals as goal

-- pieces in turn, grouped as they are put and as in the text
grouped : (bytes step digits choice end : List ℕ) → bytes ≡ step → digits ≡ choice →
    bytes ++ (codes " BadChoice " ++ (digits ++ end)) ≡ (step ++ (codes " BadChoice " ++ choice)) ++ end
grouped bytes step digits choice end same counted = rw (same, counted) (sym (simp append_assoc))

pub returns-clause-ok : goal.returns-clause-ok
returns-clause-ok c =
    let step : c.bytes.result.now ≡ decimal c.args.step = c.bytes.ensures ∙ c.of-place.ensures in
    let choice : c.bytes-2.result.now ≡ decimal c.args.choice = c.bytes-2.ensures ∙ c.of-number.ensures in
    on_ok_weaker c.put_all.result
    (λ (h : c.put_all.new.out.items ≡ c.args.out.now.items
    ++ (codes "refused schedule " ++ (codes "step " ++ (c.bytes.result.now ++ (codes " BadChoice "
    ++ (c.bytes-2.result.now ++ 10 ∷ [])))))).
    h ∙ ap (λ t. c.args.out.now.items ++ (codes "refused schedule " ++ (codes "step " ++ t)))
    (grouped c.bytes.result.now (decimal c.args.step) c.bytes-2.result.now (decimal c.args.choice) (10 ∷ []) step
    choice))
    c.put_all.ensures.ok

pub returns-clause-err : goal.returns-clause-err
returns-clause-err c =
    let step : c.bytes.result.now ≡ decimal c.args.step = c.bytes.ensures ∙ c.of-place.ensures in
    let choice : c.bytes-2.result.now ≡ decimal c.args.choice = c.bytes-2.ensures ∙ c.of-number.ensures in
    on_err_weaker c.put_all.result
    (subst (AppendsPart c.args.out.now.items c.put_all.new.out.items)
    (ap (λ t. codes "refused schedule " ++ (codes "step " ++ t))
    (grouped c.bytes.result.now (decimal c.args.step) c.bytes-2.result.now (decimal c.args.choice) (10 ∷ []) step
    choice)))
    c.put_all.ensures.err
