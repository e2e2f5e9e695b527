-- Parts that are spelled in one way make wholes that are.
use Rattle.std.proofs.Common.{◌≡◌, ℕ, Bool, true, false, ◌||◌, List, [], ◌∷◌, ◌++◌, refl, sym, ap, ◌∙◌, append_assoc}
use Rattle.std.proofs.Common.{subst}
use Rattle.std.specs.List.{flat_map, All}
use Rattle.std.proofs.lemmas.List.{append_cancel_left}
use Rattle.std.proofs.lemmas.List.Elements.{All-head, All-tail}
use Rattle.amdl_tree.specs.WellBuilt.{OneOrMore}
use Rattle.amdl_tree.specs.Spelling.{word, led, listed}
use Rattle.amdl_tree.specs.GoesOn.{Past, Once, Begins, never, goes_list}
use Rattle.amdl_tree.specs.declared.token.Token.{Token}

abbrev T : Type 0
T = List Token

pub past_never : (a : T) → Past never a
past_never [] = tt
past_never (token ∷ tokens) = refl

or_first : (a b : Bool) → (a || b) ≡ false → a ≡ false
or_first true b e = cc
or_first false b e = refl

or_second : (a b : Bool) → (a || b) ≡ false → b ≡ false
or_second true b e = cc
or_second false b e = e

-- the token behind a list is none of two kinds, so it is not of the first and not of the second
past_first : (p q : Token → Bool) (a : T) → Past (goes_list p q) a → Past p a
past_first p q [] s = tt
past_first p q (token ∷ tokens) s = or_first (p token) (q token) s

past_second : (p q : Token → Bool) (a : T) → Past (goes_list p q) a → Past q a
past_second p q [] s = tt
past_second p q (token ∷ tokens) s = or_second (p token) (q token) s

-- names
pub once_word : (W : List ℕ → Type 0) → Once word W (λ x. never)
once_word W = record { once = λ x y a b p q s t e. (cc, cc) }

module _ {X : Type 0} {s : X → T} {W : X → Type 0} {goes : X → Token → Bool} (parts : Once s W goes) where
  -- a token in front
  pub once_after : (token : Token) → Once (led token s) W goes
  once_after token = record { once = λ x y a b p q u v e. parts.once x y a b p q u v cc }

  -- fixed tokens behind, of which the first does not go on with the part
  pub once_before : (token : Token) (tokens : T) → ((x : X) → W x → goes x token ≡ false) →
      Once (λ x. s x ++ token ∷ tokens) W (λ x. never)
  once_before token tokens stops = record {
    once = λ x y a b p q u v e.
        let moved : s x ++ (token ∷ (tokens ++ a)) ≡ s y ++ (token ∷ (tokens ++ b)) = simp append_assoc at e in
        let split = parts.once x y (token ∷ (tokens ++ a)) (token ∷ (tokens ++ b)) p q (stops x p) (stops y q) moved in
        (split.0, append_cancel_left (token ∷ tokens) a b split.1);
  }

  -- fewer values
  pub once_within : (V : X → Type 0) → ((x : X) → V x → W x) → Once s V goes
  once_within V from = record { once = λ x y a b p q u v e. parts.once x y a b (from x p) (from y q) u v e }

  -- the same values in another form, spelled alike
  pub once_shaped : {Y : Type 0} (f : Y → X) → ((x y : Y) → f x ≡ f y → x ≡ y) → (r : Y → T) →
      ((y : Y) → r y ≡ s (f y)) → Once r (λ y. W (f y)) (λ y. goes (f y))
  once_shaped f back r same = record {
    once = λ x y a b p q u v e.
        let moved : s (f x) ++ a ≡ s (f y) ++ b = ap (λ l. l ++ a) (sym (same x)) ∙ e ∙ ap (λ l. l ++ b) (same y) in
        let split = parts.once (f x) (f y) a b p q u v moved in
        (back x y split.0, split.1);
  }

-- what does not begin with a token of a kind does not begin with this one of the kind
pub not_past : (goes : Token → Bool) (a : T) (token : Token) (tokens : T) → Past goes a → goes token ≡ true →
    a ≡ token ∷ tokens → ⊥
not_past goes [] token tokens s t e = cc
not_past goes (other ∷ others) token tokens s t e =
    let same : other ≡ token = cc in
    let not : goes token ≡ false = subst (λ o. goes o ≡ false) same s in
    cc

module _ {X Y : Type 0} {s : X → T} {r : Y → T} {W : X → Type 0} {V : Y → Type 0} {goes : X → Token → Bool} {more : Y →
    Token → Bool} where
  -- one part and then another, whose tokens and what follows them do not go on with the first
  pub once_chain : Once s W goes → Once r V more →
      ((x : X) (y : Y) (a : T) → W x → V y → Past (more y) a → Past (goes x) (r y ++ a)) →
      Once {X = X × Y} (λ p. s p.0 ++ r p.1) (λ p. W p.0 × V p.1) (λ p. more p.1)
  once_chain one two stops = record {
    once = λ x y a b p q u v e.
        let moved : s x.0 ++ (r x.1 ++ a) ≡ s y.0 ++ (r y.1 ++ b) = simp append_assoc at e in
        let first =
        one.once x.0 y.0 (r x.1 ++ a) (r y.1 ++ b) p.0 q.0 (stops x.0 x.1 a p.0 p.1 u)
        (stops y.0 y.1 b q.0 q.1 v) moved in
        let second = two.once x.1 y.1 a b p.1 q.1 u v first.1 in
        ((λ i. (first.0 i, second.0 i)), second.1);
  }

-- a first part that no token goes on with
pub once_then : {X Y : Type 0} {s : X → T} {r : Y → T} {W : X → Type 0} {V : Y → Type 0} {more : Y → Token → Bool} →
    Once s W (λ x. never) → Once r V more → Once {X = X × Y} (λ p. s p.0 ++ r p.1) (λ p. W p.0 × V p.1) (λ p. more p.1)
once_then {r = r} one two = once_chain one two (λ x y a p q u. past_never (r y ++ a))

-- parts with a token between
module _ {X : Type 0} {s : X → T} {W : X → Type 0} {goes : Token → Bool} (separator : Token) (separates : Token → Bool)
    (is : separates separator ≡ true) (parts : Once s W (λ x. goes)) (stops : goes separator ≡ false) where
  abbrev others_of : List X → T
  others_of = flat_map (led separator s)

  next_of : (xs : List X) (a : T) → Past (goes_list separates goes) a → Past goes (others_of xs ++ a)
  next_of [] a u = past_second separates goes a u
  next_of (x ∷ xs) a u = stops

  others_once : (xs ys : List X) (a b : T) → All W xs → All W ys → Past (goes_list separates goes) a →
      Past (goes_list separates goes) b → others_of xs ++ a ≡ others_of ys ++ b → (xs ≡ ys) × (a ≡ b)
  others_once [] [] a b p q u v e = (refl, e)
  others_once [] (y ∷ ys) a b p q u v e =
      absurd (not_past separates a separator ((s y ++ others_of ys) ++ b) (past_first separates goes a u) is e)
  others_once (x ∷ xs) [] a b p q u v e =
      absurd (not_past separates b separator ((s x ++ others_of xs) ++ a) (past_first separates goes b v) is (sym e))
  others_once (x ∷ xs) (y ∷ ys) a b p q u v e =
      let whole : separator ∷ (s x ++ (others_of xs ++ a)) ≡ separator ∷ (s y ++ (others_of ys ++ b)) =
      simp append_assoc at e in
      let moved : s x ++ (others_of xs ++ a) ≡ s y ++ (others_of ys ++ b) = cc in
      let heads =
      parts.once x y (others_of xs ++ a) (others_of ys ++ b) (All-head W x xs p) (All-head W y ys q)
      (next_of xs a u) (next_of ys b v) moved in
      let tails = others_once xs ys a b (All-tail W x xs p) (All-tail W y ys q) u v heads.1 in
      ((λ i. heads.0 i ∷ tails.0 i), tails.1)

  lists_once : (xs ys : List X) (a b : T) → OneOrMore W xs → OneOrMore W ys → Past (goes_list separates goes) a →
      Past (goes_list separates goes) b → listed separator s xs ++ a ≡ listed separator s ys ++ b → (xs ≡ ys) × (a ≡ b)
  lists_once [] ys a b p q u v e = absurd (p.0 refl)
  lists_once (x ∷ xs) [] a b p q u v e = absurd (q.0 refl)
  lists_once (x ∷ xs) (y ∷ ys) a b p q u v e =
      let moved : s x ++ (others_of xs ++ a) ≡ s y ++ (others_of ys ++ b) = simp append_assoc at e in
      let heads =
      parts.once x y (others_of xs ++ a) (others_of ys ++ b) (All-head W x xs p.1) (All-head W y ys q.1)
      (next_of xs a u) (next_of ys b v) moved in
      let tails = others_once xs ys a b (All-tail W x xs p.1) (All-tail W y ys q.1) u v heads.1 in
      ((λ i. heads.0 i ∷ tails.0 i), tails.1)

  pub once_listed : Once (listed separator s) (OneOrMore W) (λ xs. goes_list separates goes)
  once_listed = record { once = lists_once }

-- parts one behind another, which each begin with a token of a kind
module _ {X : Type 0} {s : X → T} {W : X → Type 0} {starts : Token → Bool} (parts : Once s W (λ x. never))
    (first : Begins s W starts) where
  not_begun : (x : X) (xs : List X) (a b : T) → W x → Past starts a → a ≡ flat_map s (x ∷ xs) ++ b → ⊥
  not_begun x xs a b p u e =
      let begun = first.begins x p in
      not_past starts a begun.0 ((begun.1 ++ flat_map s xs) ++ b) u begun.3
      (e ∙ ap (λ l. (l ++ flat_map s xs) ++ b) begun.2)

  all_once : (xs ys : List X) (a b : T) → All W xs → All W ys → Past starts a → Past starts b →
      flat_map s xs ++ a ≡ flat_map s ys ++ b → (xs ≡ ys) × (a ≡ b)
  all_once [] [] a b p q u v e = (refl, e)
  all_once [] (y ∷ ys) a b p q u v e = absurd (not_begun y ys a b (All-head W y ys q) u e)
  all_once (x ∷ xs) [] a b p q u v e = absurd (not_begun x xs b a (All-head W x xs p) v (sym e))
  all_once (x ∷ xs) (y ∷ ys) a b p q u v e =
      let moved : s x ++ (flat_map s xs ++ a) ≡ s y ++ (flat_map s ys ++ b) = simp append_assoc at e in
      let heads =
      parts.once x y (flat_map s xs ++ a) (flat_map s ys ++ b) (All-head W x xs p) (All-head W y ys q)
      (past_never (flat_map s xs ++ a)) (past_never (flat_map s ys ++ b)) moved in
      let tails = all_once xs ys a b (All-tail W x xs p) (All-tail W y ys q) u v heads.1 in
      ((λ i. heads.0 i ∷ tails.0 i), tails.1)

  pub once_many : Once (flat_map s) (All W) (λ xs. starts)
  once_many = record { once = all_once }
