-- How many literals a guard has.
use Rattle.std.proofs.Common.{◌≡◌, ℕ, ◌+◌, ◌-◌, ◌^◌, ◌<◌, ◌≤◌, List, length, take, get_or, map, min, refl, sym, ap, ◌∙◌}
use Rattle.std.proofs.lemmas.List.{take_all}
use Rattle.std.proofs.Math.Nat.{add_comm}
use Rattle.box_handlers.specs.declared.act.Term.{Term}
use Rattle.box_handlers.specs.declared.act.Query.{Query}
use Rattle.box_handlers.specs.declared.act.Probe.{Probe}
use Rattle.box_handlers.specs.declared.act.Probe.TheVariants as probe
use Rattle.box_handlers.specs.declared.act.Test.{Test}
use Rattle.box_handlers.specs.Body.{all_of, any_of, formula_of, formula_of_probe}
use Rattle.box_handlers.specs.Size.{literals_in}
use Rattle.box_handlers.proofs.BodyLemmas.{formulas_read}
use Rattle.handler_sizes.specs.Capped.{capped}
use Rattle.handler_sizes.proofs.CapLemmas.{add_by, counts_more}

pub probes_more : (probes : List Probe) (i : ℕ) (one : Probe) (now part : ℕ) → i < length probes →
    one ≡ get_or probes i one → now ≡ capped (literals_in (all_of (map formula_of_probe (take i probes)))) →
    part ≡ capped (literals_in (formula_of_probe one)) →
    min (now + part) (2 ^ 64 - 1) ≡ capped (literals_in (all_of (map formula_of_probe (take (i + 1) probes))))
probes_more =
    counts_more (λ probes. literals_in (all_of (map formula_of_probe probes)))
    (λ one. literals_in (formula_of_probe one)) refl
    (λ x xs. refl)

pub probes_done : (probes : List Probe) (i now : ℕ) → length probes ≤ i →
    now ≡ capped (literals_in (all_of (map formula_of_probe (take i probes)))) →
    now ≡ capped (literals_in (all_of (map formula_of_probe probes)))
probes_done probes i now all so_far =
    so_far ∙ ap (λ t. capped (literals_in (all_of (map formula_of_probe t)))) (take_all i probes all)

pub test_more : (lists : List (List Probe)) (i : ℕ) (probes : List Probe) (now part : ℕ) → i < length lists →
    probes ≡ get_or lists i probes → now ≡ capped (literals_in (any_of (map (map formula_of_probe) (take i lists)))) →
    part ≡ capped (literals_in (all_of (map formula_of_probe probes))) →
    min (now + part) (2 ^ 64 - 1) ≡ capped (literals_in (any_of (map (map formula_of_probe) (take (i + 1) lists))))
test_more =
    counts_more (λ lists. literals_in (any_of (map (map formula_of_probe) lists)))
    (λ probes. literals_in (all_of (map formula_of_probe probes))) refl (λ x xs. refl)

pub test_done : (test : Test) (i now : ℕ) → length test.any ≤ i →
    now ≡ capped (literals_in (any_of (map (map formula_of_probe) (take i test.any)))) →
    now ≡ capped (literals_in (formula_of test))
test_done test i now all so_far =
    so_far ∙ ap (λ t. capped (literals_in (any_of (map (map formula_of_probe) t)))) (take_all i test.any all)
    ∙ ap (λ t. capped (literals_in t)) (sym (formulas_read.test test))

pub true_size : literals_in (formula_of_probe probe.True) ≡ 1
true_size = ap literals_in formulas_read.always

pub has_size : (query : Query) → literals_in (formula_of_probe (probe.Has query)) ≡ 1
has_size query = ap literals_in (formulas_read.has query)

pub same_size : (one two : Term) → literals_in (formula_of_probe (probe.Same one two)) ≡ 1
same_size one two = ap literals_in (formulas_read.same one two)

pub differ_size : (one two : Term) → literals_in (formula_of_probe (probe.Differ one two)) ≡ 1
differ_size one two = ap literals_in (formulas_read.differ one two)

one_more : (n : ℕ) → min (capped n + 1) (2 ^ 64 - 1) ≡ capped (1 + n)
one_more n = add_by (2 ^ 64 - 1) n 1 ∙ ap (λ t. capped t) (add_comm n 1)

pub not_size : (inner : Probe) (part : ℕ) → part ≡ capped (literals_in (formula_of_probe inner)) →
    min (part + 1) (2 ^ 64 - 1) ≡ capped (literals_in (formula_of_probe (probe.Not inner)))
not_size inner part is =
    ap (λ t. min (t + 1) (2 ^ 64 - 1)) is ∙ one_more (literals_in (formula_of_probe inner))
    ∙ ap (λ t. capped (literals_in t)) (sym (formulas_read.deny inner))

pub group_size : (test : Test) (part : ℕ) → part ≡ capped (literals_in (formula_of test)) →
    min (part + 1) (2 ^ 64 - 1) ≡ capped (literals_in (formula_of_probe (probe.Group test)))
group_size test part is =
    ap (λ t. min (t + 1) (2 ^ 64 - 1)) is ∙ one_more (literals_in (formula_of test))
    ∙ ap (λ t. capped (literals_in t)) (sym (formulas_read.group test))
