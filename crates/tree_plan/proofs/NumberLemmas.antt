-- The table of the numbers of values, name by name.
use Rattle.std.proofs.Common.{◌≡◌, ℕ, ◌+◌, ◌<◌, ◌≤◌, Bool, true, false, cond, List, length, drop}
use Rattle.std.proofs.Common.{get_or, Option, Some, None, refl, sym, ap, ◌∙◌, is_some}
use Rattle.std.specs.BTreeMap.{BTreeMap, Updates}
use Rattle.std.specs.Cmp.Lexicographic.{slice_cmp, texts_ties, nat_list_eq_equiv, same_text}
use Rattle.std.specs.List.{position_from}
use Rattle.std.specs.Option.{option_or}
use Rattle.std.specs.Ordering.{nat_cmp}
use Rattle.std.proofs.lemmas.List.{drop_all}
use Rattle.net_plan.specs.declared.plan.KindPlan.{KindPlan}
use Rattle.tree_plan.specs.Names.{same_name, number_of, value_number}
use Rattle.tree_plan.specs.Tables.{kinds_back}
use Rattle.tree_plan.specs.Numbers.{number_at}
use Rattle.tree_plan.proofs.StepLemmas.{next_part}

abbrev pub Numbers : Type 0
Numbers = BTreeMap (List ℕ) ℕ

-- the first of three
or-or : {A : Type 0} (one two three : Option A) →
    option_or (option_or one two) three ≡ option_or one (option_or two three)
or-or None two three = refl
or-or (Some x) two three = refl

or-none : {A : Type 0} (one : Option A) → option_or one None ≡ one
or-none None = refl
or-none (Some x) = refl

picked_or : {A : Type 0} (b : Bool) (x : A) (others : Option A) →
    option_or (cond b (Some x) None) others ≡ cond b (Some x) others
picked_or true x others = refl
picked_or false x others = refl

-- a name that has a number keeps it
pub stays : (old new : Numbers) (value name : List ℕ) (number : ℕ) → is_some (number_at old value) ≡ true →
    number_at new name ≡ number_at old name →
    number_at new name ≡ option_or (number_at old name) (cond (same_name name value) (Some number) None)
stays old new value name number there same = same ∙ by (same_name name value) refl
  where
    kept : (found : Option ℕ) → is_some found ≡ true → (others : Option ℕ) → found ≡ option_or found others
    kept None there others = cc
    kept (Some x) there others = refl

    by : (b : Bool) → same_name name value ≡ b →
        number_at old name ≡ option_or (number_at old name) (cond b (Some number) None)
    by false other = sym (or-none (number_at old name))
    by true told = kept (number_at old name)
        (ap (λ n. is_some (number_at old n)) (same_text name value (sym told)) ∙ there) (Some number)

-- a name that has none gets it
pub put : (old new : Numbers) (value name : List ℕ) (number : ℕ) → number_at old value ≡ None →
    Updates (slice_cmp nat_cmp) old new value (Some number) →
    number_at new name ≡ option_or (number_at old name) (cond (same_name name value) (Some number) None)
put old new value name number absent updates =
    updates.0 name ∙ ap (λ b. cond b (Some number) (number_at old name))
    (sym (texts_ties value name) ∙ nat_list_eq_equiv.symm value name)
    ∙ by (same_name name value) refl
  where
    by : (b : Bool) → same_name name value ≡ b →
        cond b (Some number) (number_at old name) ≡ option_or (number_at old name) (cond b (Some number) None)
    by false other = sym (or-none (number_at old name))
    by true told = ap (λ found. option_or found (Some number))
        (sym (ap (number_at old) (same_text name value (sym told)) ∙ absent))

module _ (values : List (List ℕ)) (name : List ℕ) where
  abbrev pub found_from : ℕ → Option ℕ
  found_from i = position_from (same_name name) i (drop i values)

  pub value_more : (now new start : Option ℕ) (i : ℕ) (value : List ℕ) → i < length values →
      value ≡ get_or values i value →
      option_or now (found_from i) ≡ start → new ≡ option_or now (cond (same_name name value) (Some i) None) →
      option_or new (found_from (i + 1)) ≡ start
  value_more now new start i value inside here before put_ =
      ap (λ found. option_or found (found_from (i + 1))) put_
      ∙ or-or now (cond (same_name name value) (Some i) None) (found_from (i + 1))
      ∙ ap (option_or now) (picked_or (same_name name value) i (found_from (i + 1))
      ∙ ap (position_from (same_name name) i) (sym (next_part values i value inside here)))
      ∙ before

  pub values_numbered : (now start : Option ℕ) (i : ℕ) → length values ≤ i → option_or now (found_from i) ≡ start →
      now ≡ start
  values_numbered now start i all before =
      sym (or-none now) ∙ ap (λ vs. option_or now (position_from (same_name name) i vs)) (sym (drop_all i values all))
      ∙ before

module _ (kinds : List KindPlan) (name : List ℕ) where
  pub kind_more : (now new start : Option ℕ) (i : ℕ) (kind : KindPlan) → i < length kinds → kind ≡ get_or kinds i kind →
      option_or now (value_number (kinds_back (drop i kinds)) name) ≡ start →
      new ≡ option_or now (number_of kind.values name) →
      option_or new (value_number (kinds_back (drop (i + 1) kinds)) name) ≡ start
  kind_more now new start i kind inside here before put_ =
      ap (λ found. option_or found (value_number (kinds_back (drop (i + 1) kinds)) name)) put_
      ∙ or-or now (number_of kind.values name) (value_number (kinds_back (drop (i + 1) kinds)) name)
      ∙ ap (λ ks. option_or now (value_number (kinds_back ks) name)) (sym (next_part kinds i kind inside here))
      ∙ before

  pub all_numbered : (now start : Option ℕ) (i : ℕ) → length kinds ≤ i →
      option_or now (value_number (kinds_back (drop i kinds)) name) ≡ start → now ≡ start
  all_numbered now start i all before =
      sym (or-none now) ∙ ap (λ ks. option_or now (value_number (kinds_back ks) name)) (sym (drop_all i kinds all))
      ∙ before
