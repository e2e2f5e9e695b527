use Rattle.std.proofs.Common.{◌≡◌, ◌++◌, ◌∷◌, [], ◌∙◌, ℕ, List, codes, decimal, sym, ap, subst, append_assoc}
use Rattle.std.proofs.lemmas.Result.{on_ok_weaker, on_err_weaker}
use Rattle.amdl_tree.specs.Appends.{AppendsPart}
use Rattle.plan_text.specs.Messages.{name_of_rule}
use Rattle.plan_text.proofs.messages.put_broken.Goals as goal

-- pieces in turn, grouped as they are put and as in the text
grouped : (bytes number name rule end : List ℕ) → bytes ≡ number → name ≡ rule →
    bytes ++ (codes " " ++ (name ++ end)) ≡ (number ++ (codes " " ++ rule)) ++ end
grouped bytes number name rule end same named = rw (same, named) (sym (simp append_assoc))

pub returns-clause-ok : goal.returns-clause-ok
returns-clause-ok c =
    let number : c.bytes.result.now ≡ decimal c.args.item = c.bytes.ensures ∙ c.of-place.ensures in
    on_ok_weaker c.put_all.result
    (λ (h : c.put_all.new.out.items ≡ c.args.out.now.items
    ++ (codes "refused network " ++ (codes "item " ++ (c.bytes.result.now ++ (codes " "
    ++ (c.rule_name.result.now ++ 10 ∷ [])))))).
    h ∙ ap (λ t. c.args.out.now.items ++ (codes "refused network " ++ (codes "item " ++ t)))
    (grouped c.bytes.result.now (decimal c.args.item) c.rule_name.result.now (name_of_rule c.args.rule) (10 ∷ []) number
    c.rule_name.ensures))
    c.put_all.ensures.ok

pub returns-clause-err : goal.returns-clause-err
returns-clause-err c =
    let number : c.bytes.result.now ≡ decimal c.args.item = c.bytes.ensures ∙ c.of-place.ensures in
    on_err_weaker c.put_all.result
    (subst (AppendsPart c.args.out.now.items c.put_all.new.out.items)
    (ap (λ t. codes "refused network " ++ (codes "item " ++ t))
    (grouped c.bytes.result.now (decimal c.args.item) c.rule_name.result.now (name_of_rule c.args.rule) (10 ∷ []) number
    c.rule_name.ensures)))
    c.put_all.ensures.err
