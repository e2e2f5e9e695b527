-- Lines of a report, and what their first bytes tell.
use Rattle.std.proofs.Common.{◌≡◌, ◌≢◌, ℕ, true, nat_le, List, [], ◌∷◌, ◌++◌, length, drop, get_or, refl, sym, ap, ◌∙◌}
use Rattle.std.proofs.Common.{append_assoc, ⊎_elim, arith}
use Rattle.std.specs.Prelude.{codes}
use Rattle.std.specs.Fmt.{decimal}
use Rattle.std.specs.List.{list_all}
use Rattle.std.proofs.lemmas.List.Elements.{All-contains, Contains-append_right, Contains-append_cases}
use Rattle.std.proofs.lemmas.List.Sums.{AllPass-from_list_all}
use Rattle.amdl_tree.specs.Word.{IsName}
use Rattle.amdl_tree.specs.Layout.{line}
use Rattle.amdl_tree.proofs.WordLemmas.{name-no_byte}
use Rattle.net_plan.specs.Plan.{packets_of, boxes_of}
use Rattle.net_plan.specs.declared.plan.Plan.{Plan}
use Rattle.net_plan.specs.declared.fact.Fact.{Fact}
use Rattle.plan_text.specs.Text.{network_line, facts_line, verdict_text, report_of, count_of_outs, count_of_states}
use Rattle.plan_text.specs.Text.{count_of_aborts, items_line, cells_line}
use Rattle.plan_text.specs.Prints.{IsOneLine, PrintsSafe}
use Rattle.plan_text.specs.Laws.{SaysSafe, CountsAreNotSafe}
use Rattle.plan_text.proofs.DigitLemmas.{decimal-one_line}

one_line_head : (x : ℕ) (xs : List ℕ) → IsOneLine (x ∷ xs) → x ≢ 10
one_line_head x xs one e = one (0, omega arith, e)

one_line_tail : (x : ℕ) (xs : List ℕ) → IsOneLine (x ∷ xs) → IsOneLine xs
one_line_tail x xs one ends = one (Contains-append_right (x ∷ []) xs 10 ends)

one_line_append : (a b : List ℕ) → IsOneLine a → IsOneLine b → IsOneLine (a ++ b)
one_line_append a b first second ends = ⊎_elim first second (Contains-append_cases a b 10 ends)

-- printable bytes end no line
printable_one_line : (text : List ℕ) → list_all (nat_le 32) text ≡ true → IsOneLine text
printable_one_line text printable ends =
    let high : nat_le 32 10 ≡ true =
    All-contains (λ b. nat_le 32 b ≡ true) text 10 (AllPass-from_list_all (nat_le 32) text printable) ends in
    absurd (cc)

-- the first line of a text is settled, and what stands behind it
lines_split : (a b x y : List ℕ) → IsOneLine a → IsOneLine b → a ++ 10 ∷ x ≡ b ++ 10 ∷ y → (a ≡ b) × (x ≡ y)
lines_split [] [] x y p q e = (refl, cc)
lines_split [] (d ∷ b) x y p q e = absurd (one_line_head d b q (cc))
lines_split (c ∷ a) [] x y p q e = absurd (one_line_head c a p (cc))
lines_split (c ∷ a) (d ∷ b) x y p q e =
    let tail : a ++ 10 ∷ x ≡ b ++ 10 ∷ y = cc in
    let rest = lines_split a b x y (one_line_tail c a p) (one_line_tail d b q) tail in
    (cc, rest.1)

laid : (a b rest : List ℕ) → line a ++ line b ++ rest ≡ a ++ 10 ∷ (b ++ 10 ∷ rest)
laid a b rest = simp append_assoc

-- what stands behind two lines is settled
behind_two_lines : (a b c d x y : List ℕ) → IsOneLine a → IsOneLine b → IsOneLine c → IsOneLine d →
    line a ++ line b ++ x ≡ line c ++ line d ++ y → x ≡ y
behind_two_lines a b c d x y p q r s e =
    let first = lines_split a c (b ++ 10 ∷ x) (d ++ 10 ∷ y) p r (sym (laid a b x) ∙ e ∙ laid c d y) in
    (lines_split b d x y q s first.1).1

-- a word, a number, a word, a number
numbers_one_line : (front word : List ℕ) (n : ℕ) → IsOneLine front → list_all (nat_le 32) word ≡ true →
    IsOneLine (front ++ word ++ decimal n)
numbers_one_line front word n first printable =
    one_line_append (front ++ word) (decimal n) (one_line_append front word first (printable_one_line word printable))
    (decimal-one_line n)

pub network_line-one_line : (plan : Plan) → IsName plan.name → IsOneLine (network_line plan)
network_line-one_line plan named =
    let head =
    one_line_append (codes "network ") plan.name (printable_one_line (codes "network ") refl)
    (name-no_byte plan.name 10 named refl) in
    let hosts = numbers_one_line (codes "network " ++ plan.name) (codes " hosts ") (length plan.hosts) head refl in
    let boxes =
    numbers_one_line (codes "network " ++ plan.name ++ codes " hosts " ++ decimal (length plan.hosts))
    (codes " boxes ") (boxes_of plan) hosts refl in
    numbers_one_line
    (codes "network " ++ plan.name ++ codes " hosts " ++ decimal (length plan.hosts) ++ codes " boxes "
    ++ decimal (boxes_of plan))
    (codes " packets ") (packets_of plan) boxes refl

pub facts_line-one_line : (facts : List Fact) → IsOneLine (facts_line facts)
facts_line-one_line facts =
    let outs = numbers_one_line [] (codes "facts out ") (count_of_outs facts) (printable_one_line [] refl) refl in
    let states =
    numbers_one_line (codes "facts out " ++ decimal (count_of_outs facts)) (codes " state ")
    (count_of_states facts) outs refl in
    numbers_one_line
    (codes "facts out " ++ decimal (count_of_outs facts) ++ codes " state " ++ decimal (count_of_states facts))
    (codes " abort ") (count_of_aborts facts) states refl

alarm_is_not_safe : (a b : List ℕ) → codes "ALARM " ++ a ≢ codes "SAFE" ++ b
alarm_is_not_safe a b e =
    let first : ◌≡◌ {A = ℕ} 65 83 = ap (λ (t : List ℕ). get_or t 0 0) e in
    absurd (omega arith)

pub safe_tells : (plan : Plan) (facts bad : List Fact) (front rest : List ℕ) → IsName plan.name →
    report_of plan facts bad ≡ front ++ rest → PrintsSafe front → bad ≡ []
safe_tells plan facts [] front rest named whole prints = refl
safe_tells plan facts (fact ∷ others) front rest named whole prints =
    let verdict = verdict_text plan (fact ∷ others) in
    let same : verdict ≡ prints.third ++ rest =
    behind_two_lines (network_line plan) (facts_line facts) prints.first prints.second verdict (prints.third ++ rest)
    (network_line-one_line plan named) (facts_line-one_line facts) prints.first_ends prints.second_ends
    (whole ∙ ap (λ t. t ++ rest) prints.lines
    ∙ append_assoc (line prints.first ++ line prints.second) prints.third rest) in
    let safe : verdict ≡ codes "SAFE" ++ (prints.safe.0 ++ rest) =
    same ∙ ap (λ t. t ++ rest) prints.safe.1 ∙ append_assoc (codes "SAFE") prints.safe.0 rest in
    absurd (alarm_is_not_safe (drop 6 verdict) (prints.safe.0 ++ rest) safe)

pub says_safe : (plan : Plan) (facts : List Fact) → IsName plan.name → SaysSafe plan facts
says_safe plan facts named = record {
  verdict = refl;
  prints = record {
    first = network_line plan;
    second = facts_line facts;
    third = line (codes "SAFE");
    lines = refl;
    first_ends = network_line-one_line plan named;
    second_ends = facts_line-one_line facts;
    of_network = (drop 7 (network_line plan), refl);
    safe = (10 ∷ [], refl);
  };
}

pub items_line-one_line : (plan : Plan) → IsOneLine (items_line plan)
items_line-one_line plan =
    let types = numbers_one_line [] (codes "types ") (length plan.kinds) (printable_one_line [] refl) refl in
    let fields =
    numbers_one_line (codes "types " ++ decimal (length plan.kinds)) (codes " fields ")
    (length plan.fields) types refl in
    let classes =
    numbers_one_line
    (codes "types " ++ decimal (length plan.kinds) ++ codes " fields " ++ decimal (length plan.fields))
    (codes " classes ") (length plan.classes) fields refl in
    numbers_one_line
    (codes "types " ++ decimal (length plan.kinds) ++ codes " fields " ++ decimal (length plan.fields)
    ++ codes " classes " ++ decimal (length plan.classes))
    (codes " links ") (length plan.links) classes refl

ends_are_not_safe : (a b : List ℕ) → codes "ends " ++ a ≢ codes "SAFE" ++ b
ends_are_not_safe a b e =
    let first : ◌≡◌ {A = ℕ} 101 83 = ap (λ (t : List ℕ). get_or t 0 0) e in
    absurd (omega arith)

pub counts_tell : CountsAreNotSafe
counts_tell plan named front rest whole prints =
    let third = line (cells_line plan) in
    let same : third ≡ prints.third ++ rest =
    behind_two_lines (network_line plan) (items_line plan) prints.first prints.second third (prints.third ++ rest)
    (network_line-one_line plan named) (items_line-one_line plan) prints.first_ends prints.second_ends
    (whole ∙ ap (λ t. t ++ rest) prints.lines
    ∙ append_assoc (line prints.first ++ line prints.second) prints.third rest) in
    let safe : third ≡ codes "SAFE" ++ (prints.safe.0 ++ rest) =
    same ∙ ap (λ t. t ++ rest) prints.safe.1 ∙ append_assoc (codes "SAFE") prints.safe.0 rest in
    ends_are_not_safe (drop 5 third) (prints.safe.0 ++ rest) safe
