use Rattle.std.proofs.Common.{◌≡◌, ℕ, List, [], ◌∷◌, sym, subst, ◌∙◌}
use Rattle.net_plan.specs.Sound.{IsSound}
use Rattle.base_tests.proofs.BoxLemmas.{kind, relation, class, host, only_box, one_box_sound}
use Rattle.base_tests.proofs.boxes.one_box.Goals as goal

pub new-requires-5 : goal.new-requires-5
new-requires-5 c =
    let a : List ℕ = c.args.a in
    let b : List ℕ = c.args.b in
    let kinds : c.in_ok-only-7.field-0 ≡ kind a b ∷ [] =
    c.in_ok-only-7.ensures ∙ (λ i. record { name = a; values = c.in_ok-only.ensures i } ∷ []) in
    let relations : c.in_ok-only-4.field-0 ≡ relation a b ∷ [] =
    c.in_ok-only-4.ensures ∙ (λ i. record { name = a; kinds = c.in_ok-only-2.ensures i } ∷ []) in
    let handlers : c.in_ok-only-5.field-0 ≡ [] ∷ [] = c.in_ok-only-5.ensures ∙ (λ i. c.new.ensures i ∷ []) in
    let classes : c.in_ok-only-9.field-0 ≡ class a b ∷ [] =
    c.in_ok-only-9.ensures
    ∙ (λ i. record {
      ports = c.in_ok-only-3.ensures i;
      relations = relations i;
      handlers = handlers i;
      queries = c.new-2.ensures i;
    } ∷ []) in
    let hosts : c.in_ok-only-10.field-0 ≡ host a b ∷ [] =
    c.in_ok-only-10.ensures ∙ (λ i. record { name = a; sends = c.new-3.ensures i; forbids = c.new-4.ensures i } ∷ []) in
    let boxes : c.in_ok-only-11.field-0 ≡ only_box a b ∷ [] =
    c.in_ok-only-11.ensures ∙ (λ i. record { name = b; class = 0; first = c.in_ok-only-6.ensures i } ∷ []) in
    subst IsSound
    (sym (λ i. record {
      name = a;
      kinds = kinds i;
      fields = c.in_ok-only-8.ensures i;
      classes = classes i;
      hosts = hosts i;
      boxes = boxes i;
      links = c.in_ok-only-12.ensures i;
    }))
    (one_box_sound a b c.requires.one c.requires.other c.requires.apart)
