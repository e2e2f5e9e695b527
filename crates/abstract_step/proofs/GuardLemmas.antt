-- What fits in a guard, part by part.
use Rattle.std.proofs.Common.{◌≡◌, ℕ, zero, suc, ◌+◌, ◌<◌, ◌≤◌, List, [], ◌∷◌, length, get_or, map, sym, ap, subst, ◌∙◌, arith}
use Rattle.box_handlers.specs.declared.act.Probe.{Probe}
use Rattle.box_handlers.specs.declared.act.Probe.TheVariants as probe
use Rattle.box_handlers.specs.declared.act.Test.{Test}
use Rattle.box_handlers.specs.Size.{literals_in}
use Rattle.box_handlers.specs.Body.{Formula, Denied, all_of, any_of, formula_of, formula_of_probe}
use Rattle.box_handlers.specs.Fits.{Surroundings, FormulaFits}
use Rattle.box_handlers.proofs.BodyLemmas.{formulas_read}
use Rattle.net_plan.specs.Plan.{surroundings_of}
use Rattle.abstract_step.specs.declared.place.Place.{Place}
use Rattle.abstract_step.specs.Walk.{FormulaFitsAt, class_at}

module _ (around : Surroundings) (picks : List ℕ) where
  all_fit : (probes : List Probe) (i : ℕ) (one : Probe) → i < length probes → one ≡ get_or probes i one →
      FormulaFits around picks (all_of (map formula_of_probe probes)) →
      FormulaFits around picks (formula_of_probe one)
  all_fit [] i one inside here fits = absurd (omega (arith, inside))
  all_fit (first ∷ more) zero one inside here fits =
      subst (λ p. FormulaFits around picks (formula_of_probe p)) (sym here) fits.0
  all_fit (first ∷ more) (suc i) one inside here fits = all_fit more i one (omega (arith, inside)) here fits.1

  any_fit : (lists : List (List Probe)) (i : ℕ) (probes : List Probe) → i < length lists →
      probes ≡ get_or lists i probes → FormulaFits around picks (any_of (map (map formula_of_probe) lists)) →
      FormulaFits around picks (all_of (map formula_of_probe probes))
  any_fit [] i probes inside here fits = absurd (omega (arith, inside))
  any_fit (first ∷ more) zero probes inside here fits =
      subst (λ (l : List Probe). FormulaFits around picks (all_of (map formula_of_probe l))) (sym here) fits.0
  any_fit (first ∷ more) (suc i) probes inside here fits = any_fit more i probes (omega (arith, inside)) here fits.1

module _ (place : Place) (picked : List ℕ) where
  abbrev around_place : Surroundings
  around_place = surroundings_of place.net.now (class_at place)

  pub probe_fits : (probes : List Probe) (i : ℕ) (one : Probe) → i < length probes → one ≡ get_or probes i one →
      FormulaFitsAt place picked (all_of (map formula_of_probe probes)) →
      FormulaFitsAt place picked (formula_of_probe one)
  probe_fits probes i one inside here fits = (fits.0, fits.1, all_fit around_place fits.0 probes i one inside here fits.2)

  pub list_fits : (test : Test) (i : ℕ) (probes : List Probe) → i < length test.any →
      probes ≡ get_or test.any i probes → FormulaFitsAt place picked (formula_of test) →
      FormulaFitsAt place picked (all_of (map formula_of_probe probes))
  list_fits test i probes inside here fits = (
    fits.0,
    fits.1,
    any_fit around_place fits.0 test.any i probes inside here
        (subst (λ f. FormulaFits around_place fits.0 f) (formulas_read.test test) fits.2),
  )

  pub formula_same : (one two : Formula) → one ≡ two → FormulaFitsAt place picked one → FormulaFitsAt place picked two
  formula_same one two same fits = subst (λ f. FormulaFitsAt place picked f) same fits

  pub deny_fits : (one inner value : Probe) → one ≡ probe.Not inner → value ≡ inner →
      FormulaFitsAt place picked (formula_of_probe one) → FormulaFitsAt place picked (formula_of_probe value)
  deny_fits one inner value is same fits =
      subst (λ p. FormulaFitsAt place picked (formula_of_probe p)) (sym same)
      (formula_same (formula_of_probe one) (Denied (formula_of_probe inner))
      (ap formula_of_probe is ∙ formulas_read.deny inner) fits)

-- how many literals the parts have
pub probe_less : (probes : List Probe) (i : ℕ) (one : Probe) → i < length probes → one ≡ get_or probes i one →
    literals_in (formula_of_probe one) ≤ literals_in (all_of (map formula_of_probe probes))
probe_less [] i one inside here = absurd (omega (arith, inside))
probe_less (first ∷ more) zero one inside here =
    let same : literals_in (formula_of_probe one) ≡ literals_in (formula_of_probe first) =
    ap (λ p. literals_in (formula_of_probe p)) here in
    omega (arith, same)
probe_less (first ∷ more) (suc i) one inside here =
    let rest = probe_less more i one (omega (arith, inside)) here in omega (arith, rest)

lists_less : (lists : List (List Probe)) (i : ℕ) (probes : List Probe) → i < length lists →
    probes ≡ get_or lists i probes →
    literals_in (all_of (map formula_of_probe probes)) ≤ literals_in (any_of (map (map formula_of_probe) lists))
lists_less [] i probes inside here = absurd (omega (arith, inside))
lists_less (first ∷ more) zero probes inside here =
    let same : literals_in (all_of (map formula_of_probe probes)) ≡ literals_in (all_of (map formula_of_probe first)) =
    ap (λ (l : List Probe). literals_in (all_of (map formula_of_probe l))) here in
    omega (arith, same)
lists_less (first ∷ more) (suc i) probes inside here =
    let rest = lists_less more i probes (omega (arith, inside)) here in omega (arith, rest)

pub list_less : (test : Test) (i : ℕ) (probes : List Probe) → i < length test.any →
    probes ≡ get_or test.any i probes →
    literals_in (all_of (map formula_of_probe probes)) ≤ literals_in (formula_of test)
list_less test i probes inside here =
    let same : literals_in (formula_of test) ≡ literals_in (any_of (map (map formula_of_probe) test.any)) =
    ap literals_in (formulas_read.test test) in
    let less = lists_less test.any i probes inside here in omega (arith, same, less)

pub deny_less : (one inner value : Probe) → one ≡ probe.Not inner → value ≡ inner →
    literals_in (formula_of_probe one) ≡ 1 + literals_in (formula_of_probe value)
deny_less one inner value is same =
    ap (λ p. literals_in (formula_of_probe p)) is ∙ ap literals_in (formulas_read.deny inner)
    ∙ ap (λ p. 1 + literals_in (formula_of_probe p)) (sym same)

pub group_less : (one : Probe) (test : Test) → one ≡ probe.Group test →
    literals_in (formula_of_probe one) ≡ 1 + literals_in (formula_of test)
group_less one test is =
    ap (λ p. literals_in (formula_of_probe p)) is ∙ ap literals_in (formulas_read.group test)
