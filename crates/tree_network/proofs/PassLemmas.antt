-- Passes over the items of one form: what each comes to, where all come to something.
use Rattle.std.proofs.Common.{◌≡◌, ℕ, ◌+◌, ◌<◌, ◌≤◌, Bool, true, false, cond, List, [], ◌∷◌, ◌++◌, length, drop, get_or}
use Rattle.std.proofs.Common.{map, fold, Option, Some, None, refl, sym, ap, ◌∙◌, append-nil}
use Rattle.std.specs.List.{filter}
use Rattle.std.specs.Option.{option_map}
use Rattle.std.proofs.lemmas.List.{drop_all}
use Rattle.tree_plan.specs.Names.{joined, all_some}
use Rattle.tree_plan.proofs.StepLemmas.{with_front, next_part, all_begun, front-push}

-- each is taken for what it stands for
module _ {A B C : Type 0} (f : B → Option C) (back : A → B) (xs : List A) where
  pub mapped_begun : all_some f (map back xs) ≡ with_front [] (all_some f (map back (drop 0 xs)))
  mapped_begun = all_begun f (map back xs)

  pub mapped_more : (i : ℕ) (x : A) (y : C) (front : List C) → i < length xs → x ≡ get_or xs i x →
      all_some f (map back xs) ≡ with_front front (all_some f (map back (drop i xs))) → Some y ≡ f (back x) →
      all_some f (map back xs) ≡ with_front (front ++ y ∷ []) (all_some f (map back (drop (i + 1) xs)))
  mapped_more i x y front inside here before comes =
      before ∙ ap (λ t. with_front front (all_some f (map back t))) (next_part xs i x inside here)
      ∙ ap (λ t. with_front front (joined (λ y ys. y ∷ ys) t (all_some f (map back (drop (i + 1) xs))))) (sym comes)
      ∙ front-push front y (all_some f (map back (drop (i + 1) xs)))

  pub mapped_lost : (i : ℕ) (x : A) (front : List C) → i < length xs → x ≡ get_or xs i x →
      all_some f (map back xs) ≡ with_front front (all_some f (map back (drop i xs))) → None ≡ f (back x) →
      None ≡ all_some f (map back xs)
  mapped_lost i x front inside here before comes =
      sym (before ∙ ap (λ t. with_front front (all_some f (map back t))) (next_part xs i x inside here)
      ∙ ap (λ t. with_front front (joined (λ y ys. y ∷ ys) t (all_some f (map back (drop (i + 1) xs))))) (sym comes))

  pub mapped_came : (i : ℕ) (front : List C) → length xs ≤ i →
      all_some f (map back xs) ≡ with_front front (all_some f (map back (drop i xs))) →
      Some front ≡ all_some f (map back xs)
  mapped_came i front all before =
      sym (before ∙ ap (λ t. with_front front (all_some f (map back t))) (drop_all i xs all)
      ∙ ap Some (append-nil front))

-- only some of them are taken
module _ {A B C : Type 0} (f : B → Option C) (keeps : B → Bool) (back : A → B) (xs : List A) where
  abbrev kept_of : List A → Option (List C)
  kept_of ys = all_some f (filter keeps (map back ys))

  kept_step : (i : ℕ) (x : A) → i < length xs → x ≡ get_or xs i x →
      kept_of (drop i xs)
      ≡ all_some f (cond (keeps (back x)) (back x ∷ filter keeps (map back (drop (i + 1) xs)))
      (filter keeps (map back (drop (i + 1) xs))))
  kept_step i x inside here = ap kept_of (next_part xs i x inside here)

  pub kept_begun : kept_of xs ≡ with_front [] (kept_of (drop 0 xs))
  kept_begun = all_begun f (filter keeps (map back xs))

  pub kept_more : (i : ℕ) (x : A) (y : C) (front : List C) → i < length xs → x ≡ get_or xs i x →
      kept_of xs ≡ with_front front (kept_of (drop i xs)) → keeps (back x) ≡ true → Some y ≡ f (back x) →
      kept_of xs ≡ with_front (front ++ y ∷ []) (kept_of (drop (i + 1) xs))
  kept_more i x y front inside here before keep comes =
      before
      ∙ ap (with_front front)
      (kept_step i x inside here
      ∙ ap (λ b. all_some f
      (cond b (back x ∷ filter keeps (map back (drop (i + 1) xs))) (filter keeps (map back (drop (i + 1) xs))))) keep
      ∙ ap (λ t. joined (λ y ys. y ∷ ys) t (kept_of (drop (i + 1) xs))) (sym comes))
      ∙ front-push front y (kept_of (drop (i + 1) xs))

  pub kept_skipped : (i : ℕ) (x : A) (front : List C) → i < length xs → x ≡ get_or xs i x →
      kept_of xs ≡ with_front front (kept_of (drop i xs)) → keeps (back x) ≡ false →
      kept_of xs ≡ with_front front (kept_of (drop (i + 1) xs))
  kept_skipped i x front inside here before skip =
      before
      ∙ ap (with_front front)
      (kept_step i x inside here
      ∙ ap (λ b. all_some f
      (cond b (back x ∷ filter keeps (map back (drop (i + 1) xs))) (filter keeps (map back (drop (i + 1) xs))))) skip)

  pub kept_lost : (i : ℕ) (x : A) (front : List C) → i < length xs → x ≡ get_or xs i x →
      kept_of xs ≡ with_front front (kept_of (drop i xs)) → keeps (back x) ≡ true → None ≡ f (back x) →
      None ≡ kept_of xs
  kept_lost i x front inside here before keep comes =
      sym (before
      ∙ ap (with_front front)
      (kept_step i x inside here
      ∙ ap (λ b. all_some f
      (cond b (back x ∷ filter keeps (map back (drop (i + 1) xs))) (filter keeps (map back (drop (i + 1) xs))))) keep
      ∙ ap (λ t. joined (λ y ys. y ∷ ys) t (kept_of (drop (i + 1) xs))) (sym comes)))

  pub kept_came : (i : ℕ) (front : List C) → length xs ≤ i →
      kept_of xs ≡ with_front front (kept_of (drop i xs)) → Some front ≡ kept_of xs
  kept_came i front all before =
      sym (before ∙ ap (λ t. with_front front (kept_of t)) (drop_all i xs all) ∙ ap Some (append-nil front))

-- what they come to is folded, one after another
module _ {A B S : Type 0} (step : S → B → S) (f : A → Option B) (xs : List A) where
  abbrev folded_of : S → List A → Option S
  folded_of now ys = option_map (fold step now) (all_some f ys)

  folded_step : (now : S) (y : B) (others : Option (List B)) →
      option_map (fold step now) (joined (λ y ys. y ∷ ys) (Some y) others) ≡ option_map (fold step (step now y)) others
  folded_step now y None = refl
  folded_step now y (Some ys) = refl

  pub folded_more : (start now new : S) (i : ℕ) (x : A) (y : B) → i < length xs → x ≡ get_or xs i x →
      folded_of start xs ≡ folded_of now (drop i xs) → Some y ≡ f x → new ≡ step now y →
      folded_of start xs ≡ folded_of new (drop (i + 1) xs)
  folded_more start now new i x y inside here before comes put =
      before ∙ ap (folded_of now) (next_part xs i x inside here)
      ∙ ap (λ t. option_map (fold step now) (joined (λ y ys. y ∷ ys) t (all_some f (drop (i + 1) xs)))) (sym comes)
      ∙ folded_step now y (all_some f (drop (i + 1) xs))
      ∙ ap (λ t. folded_of t (drop (i + 1) xs)) (sym put)

  pub folded_lost : (start now : S) (i : ℕ) (x : A) → i < length xs → x ≡ get_or xs i x →
      folded_of start xs ≡ folded_of now (drop i xs) → None ≡ f x → None ≡ folded_of start xs
  folded_lost start now i x inside here before comes =
      sym (before ∙ ap (folded_of now) (next_part xs i x inside here)
      ∙ ap (λ t. option_map (fold step now) (joined (λ y ys. y ∷ ys) t (all_some f (drop (i + 1) xs)))) (sym comes))

  pub folded_came : (start now : S) (i : ℕ) → length xs ≤ i →
      folded_of start xs ≡ folded_of now (drop i xs) → Some now ≡ folded_of start xs
  folded_came start now i all before = sym (before ∙ ap (folded_of now) (drop_all i xs all))
