use Rattle.std.proofs.Common.{◌≡◌, ◌++◌, ◌∷◌, [], ◌∙◌, ℕ, List, codes, decimal, sym, ap, append_assoc}
use Rattle.std.proofs.lemmas.Result.{on_ok_weaker}
use Rattle.schedule_file.proofs.messages.put_placed.Goals as goal

-- pieces in turn, grouped as in the text and as they are put
grouped : (before bytes number fault end : List ℕ) → bytes ≡ number →
    before ++ (bytes ++ (fault ++ end)) ≡ (before ++ number ++ fault) ++ end
grouped before bytes number fault end same = rw same (sym (simp append_assoc))

pub returns-clause-ok : goal.returns-clause-ok
returns-clause-ok c =
    let number : c.bytes.result.now ≡ decimal c.args.at = c.bytes.ensures ∙ c.of-place.ensures in
    on_ok_weaker c.put_all.result
    (λ (h : c.put_all.new.out.items ≡ c.args.out.now.items
    ++ (codes "refused schedule " ++ (c.args.before.now ++ (c.bytes.result.now ++ (c.args.fault.now ++ 10 ∷ []))))).
    h ∙ ap (λ t. c.args.out.now.items ++ (codes "refused schedule " ++ t))
    (grouped c.args.before.now c.bytes.result.now (decimal c.args.at) c.args.fault.now (10 ∷ []) number))
    c.put_all.ensures.ok
