-- The number of a tuple, gathered value by value.
use Rattle.std.proofs.Common.{◌≡◌, ℕ, suc, ◌+◌, ◌*◌, ◌<◌, ◌≤◌, List, [], ◌∷◌, length, drop, get_or, Option, Some, None}
use Rattle.std.proofs.Common.{refl, sym, ap, ◌∙◌, arith}
use Rattle.std.proofs.Math.Nat.{mul_assoc, add-mul, zero-mul, mul-one}
use Rattle.std.specs.Option.{option_map, option_and_then}
use Rattle.std.proofs.lemmas.List.{drop_all}
use Rattle.box_handlers.specs.Tuple.{tuples_over, tuple_number}
use Rattle.net_plan.specs.declared.plan.KindPlan.{KindPlan}
use Rattle.amdl_tree.specs.Items.{KindItem}
use Rattle.tree_plan.specs.Names.{joined, all_some, number_of, kind_named, values_named, value_in}
use Rattle.tree_plan.specs.Net.{values_of, tuple_of_values}
use Rattle.tree_plan.specs.Tables.{kind_back, kinds_back}
use Rattle.tree_plan.proofs.StepLemmas.{next_part}

joined-same : {A B C : Type 0} (f g : A → B → C) → ((a : A) (b : B) → f a b ≡ g a b) →
    (one : Option A) (two : Option B) → joined f one two ≡ joined g one two
joined-same f g same None two = refl
joined-same f g same (Some a) None = refl
joined-same f g same (Some a) (Some b) = ap Some (same a b)

joined-none : {A B C : Type 0} (f : A → B → C) (one : Option A) → joined f one None ≡ None
joined-none f None = refl
joined-none f (Some a) = refl

-- the tuple that begins with some values, which come to a number, and goes on with these
abbrev pub onward : ℕ → Option (List ℕ) → Option (List ℕ) → Option ℕ
onward begun sizes numbers =
    joined (λ sizes numbers. begun * tuples_over sizes + tuple_number sizes numbers) sizes numbers

carried : (begun size value over rest : ℕ) →
    begun * (size * over) + (value * over + rest) ≡ (begun * size + value) * over + rest
carried begun size value over rest =
    let assoc = mul_assoc begun size over in
    let split = add-mul (begun * size) value over in
    omega (arith, assoc, split)

onward_step : (begun size value : ℕ) (sizes numbers : Option (List ℕ)) →
    onward begun (joined (λ y ys. y ∷ ys) (Some size) sizes) (joined (λ x xs. x ∷ xs) (Some value) numbers)
    ≡ onward (begun * size + value) sizes numbers
onward_step begun size value None numbers = refl
onward_step begun size value (Some sizes) None = refl
onward_step begun size value (Some sizes) (Some numbers) =
    ap Some (carried begun size value (tuples_over sizes) (tuple_number sizes numbers))

values_differ : (kinds : List KindItem) (arguments values : List (List ℕ)) → (length arguments ≡ length values → ⊥) →
    values_of kinds arguments values ≡ None
values_differ kinds [] [] differ = absurd (differ refl)
values_differ kinds [] (value ∷ values) differ = refl
values_differ kinds (argument ∷ arguments) [] differ = refl
values_differ kinds (argument ∷ arguments) (value ∷ values) differ =
    ap (joined (λ x xs. x ∷ xs) (value_in kinds argument value))
    (values_differ kinds arguments values (λ long. differ (ap suc long)))
    ∙ joined-none (λ x xs. x ∷ xs) (value_in kinds argument value)

module _ (kinds : List KindPlan) (arguments values : List (List ℕ)) where
  abbrev pub onward_from : ℕ → ℕ → Option ℕ
  onward_from begun i =
      onward begun (all_some (values_named (kinds_back kinds)) (drop i arguments))
      (values_of (kinds_back kinds) (drop i arguments) (drop i values))

  pub lengths_differ : (length arguments ≡ length values → ⊥) →
      None ≡ tuple_of_values (kinds_back kinds) arguments values
  lengths_differ differ =
      sym (ap (joined tuple_number (all_some (values_named (kinds_back kinds)) arguments))
      (values_differ (kinds_back kinds) arguments values differ)
      ∙ joined-none tuple_number (all_some (values_named (kinds_back kinds)) arguments))

  pub tuple_begun : tuple_of_values (kinds_back kinds) arguments values ≡ onward_from 0 0
  tuple_begun =
      joined-same tuple_number (λ sizes numbers. 0 * tuples_over sizes + tuple_number sizes numbers)
      (λ sizes numbers. let none = zero-mul (tuples_over sizes) in omega (arith, none))
      (all_some (values_named (kinds_back kinds)) arguments) (values_of (kinds_back kinds) arguments values)

  from_here : (begun i : ℕ) (argument value : List ℕ) → i < length arguments → argument ≡ get_or arguments i argument →
      i < length values → value ≡ get_or values i value →
      onward_from begun i
      ≡ onward begun (joined (λ y ys. y ∷ ys) (values_named (kinds_back kinds) argument)
      (all_some (values_named (kinds_back kinds)) (drop (i + 1) arguments)))
      (joined (λ x xs. x ∷ xs) (value_in (kinds_back kinds) argument value)
      (values_of (kinds_back kinds) (drop (i + 1) arguments) (drop (i + 1) values)))
  from_here begun i argument value in_arguments at_argument in_values at_value =
      (λ k. onward begun (all_some (values_named (kinds_back kinds))
      (next_part arguments i argument in_arguments at_argument k))
      (values_of (kinds_back kinds) (next_part arguments i argument in_arguments at_argument k)
      (next_part values i value in_values at_value k)))

  pub tuple_more : (begun new i number : ℕ) (argument value : List ℕ) (kind : KindPlan) →
      i < length arguments → argument ≡ get_or arguments i argument → i < length values →
      value ≡ get_or values i value →
      tuple_of_values (kinds_back kinds) arguments values ≡ onward_from begun i →
      Some (kind_back kind) ≡ kind_named (kinds_back kinds) argument → Some number ≡ number_of kind.values value →
      new ≡ begun * length kind.values + number →
      tuple_of_values (kinds_back kinds) arguments values ≡ onward_from new (i + 1)
  tuple_more begun new i number argument value kind in_args at_argument in_values at_value before named numbered put =
      before ∙ from_here begun i argument value in_args at_argument in_values at_value
      ∙ (λ k. onward begun
      (joined (λ y ys. y ∷ ys) (option_map (λ kind. length kind.values) (sym named k))
      (all_some (values_named (kinds_back kinds)) (drop (i + 1) arguments)))
      (joined (λ x xs. x ∷ xs) (option_and_then (λ kind. number_of kind.values value) (sym named k))
      (values_of (kinds_back kinds) (drop (i + 1) arguments) (drop (i + 1) values))))
      ∙ ap (λ t. onward begun
      (joined (λ y ys. y ∷ ys) (Some (length kind.values))
      (all_some (values_named (kinds_back kinds)) (drop (i + 1) arguments)))
      (joined (λ x xs. x ∷ xs) t (values_of (kinds_back kinds) (drop (i + 1) arguments) (drop (i + 1) values))))
      (sym numbered)
      ∙ onward_step begun (length kind.values) number
      (all_some (values_named (kinds_back kinds)) (drop (i + 1) arguments))
      (values_of (kinds_back kinds) (drop (i + 1) arguments) (drop (i + 1) values))
      ∙ ap (λ t. onward_from t (i + 1)) (sym put)

  pub kind_lost : (begun i : ℕ) (argument value : List ℕ) →
      i < length arguments → argument ≡ get_or arguments i argument → i < length values →
      value ≡ get_or values i value →
      tuple_of_values (kinds_back kinds) arguments values ≡ onward_from begun i →
      None ≡ kind_named (kinds_back kinds) argument → None ≡ tuple_of_values (kinds_back kinds) arguments values
  kind_lost begun i argument value in_arguments at_argument in_values at_value before lost =
      sym (before ∙ from_here begun i argument value in_arguments at_argument in_values at_value
      ∙ ap (λ t. onward begun
      (joined (λ y ys. y ∷ ys) (option_map (λ kind. length kind.values) t)
      (all_some (values_named (kinds_back kinds)) (drop (i + 1) arguments)))
      (joined (λ x xs. x ∷ xs) (value_in (kinds_back kinds) argument value)
      (values_of (kinds_back kinds) (drop (i + 1) arguments) (drop (i + 1) values)))) (sym lost))

  pub value_lost : (begun i : ℕ) (argument value : List ℕ) (kind : KindPlan) →
      i < length arguments → argument ≡ get_or arguments i argument → i < length values →
      value ≡ get_or values i value →
      tuple_of_values (kinds_back kinds) arguments values ≡ onward_from begun i →
      Some (kind_back kind) ≡ kind_named (kinds_back kinds) argument → None ≡ number_of kind.values value →
      None ≡ tuple_of_values (kinds_back kinds) arguments values
  value_lost begun i argument value kind in_arguments at_argument in_values at_value before named lost =
      sym (before ∙ from_here begun i argument value in_arguments at_argument in_values at_value
      ∙ ap (λ t. onward begun
      (joined (λ y ys. y ∷ ys) (values_named (kinds_back kinds) argument)
      (all_some (values_named (kinds_back kinds)) (drop (i + 1) arguments)))
      (joined (λ x xs. x ∷ xs) t (values_of (kinds_back kinds) (drop (i + 1) arguments) (drop (i + 1) values))))
      (ap (option_and_then (λ kind. number_of kind.values value)) (sym named) ∙ sym lost)
      ∙ joined-none (λ sizes numbers. begun * tuples_over sizes + tuple_number sizes numbers)
      (joined (λ y ys. y ∷ ys) (values_named (kinds_back kinds) argument)
      (all_some (values_named (kinds_back kinds)) (drop (i + 1) arguments))))

  pub tuple_came : (begun i : ℕ) → length arguments ≤ i → length arguments ≡ length values →
      tuple_of_values (kinds_back kinds) arguments values ≡ onward_from begun i →
      Some begun ≡ tuple_of_values (kinds_back kinds) arguments values
  tuple_came begun i all long before =
      sym (before
      ∙ (λ k. onward begun (all_some (values_named (kinds_back kinds)) (drop_all i arguments all k))
      (values_of (kinds_back kinds) (drop_all i arguments all k) (drop_all i values (omega (arith, all, long)) k)))
      ∙ ap Some (let one = mul-one begun in omega (arith, one)))
