-- A token list has at most one answer, and what a right reading of a whole list says of it.
use Rattle.std.proofs.Common.{◌≡◌, ◌≤◌, ◌<◌, ◌+◌, ℕ, List, [], ◌++◌, length, take, drop, Result, Ok, Err, refl, sym, ap}
use Rattle.std.proofs.Common.{◌∙◌, subst, append_assoc, arith, Bool, ◌⊎◌, inl, inr}
use Rattle.std.proofs.lemmas.List.{take-append-drop, take-append-le, length-take-le}
use Rattle.std.proofs.lemmas.Bool.{cases_order}
use Rattle.std.proofs.Math.Nat.{eq-or-lt_of_le}
use Rattle.amdl_tree.specs.GoesOn.{Once}
use Rattle.amdl_tree.specs.declared.token.Token.{Token}
use Rattle.amdl_parser.specs.declared.refusal.SyntaxRefusal.{SyntaxRefusal}
use Rattle.amdl_parser.specs.declared.refusal.SyntaxRefusal.TheVariants.{Syntax, Deep, NoMemory}
use Rattle.amdl_parser.specs.Answer.{Spells, Begins, IsSyntaxAt, IsDeepAt, IsAnswer, WantsMemory}

abbrev T : Type 0
T = List Token

-- fewer tokens are a front of more
shorter : (j m : ℕ) (ts : T) → j ≤ m → m ≤ length ts → (rest : T) × (take m ts ≡ take j ts ++ rest)
shorter j m ts le within =
    let size : j ≤ length (take m ts) = rw (length-take-le m ts within) le in
    let same : take j ts ≡ take j (take m ts) =
    ap (take j) (sym (take-append-drop m ts)) ∙ take-append-le j (take m ts) (drop m ts) size in
    (drop j (take m ts), sym (ap (λ l. l ++ drop j (take m ts)) same ∙ take-append-drop j (take m ts)))

module _ {X : Type 0} {s : X → T} where
  begins_less : (P : X → Type 0) (j m : ℕ) (ts : T) → j ≤ m → m ≤ length ts → Begins s P (take m ts) →
      Begins s P (take j ts)
  begins_less P j m ts le within h =
      let cut = shorter j m ts le within in
      (cut.0 ++ h.0, (h.1.0, h.1.1, h.1.2 ∙ ap (λ l. l ++ h.0) cut.1 ∙ append_assoc (take j ts) cut.0 h.0))

  begins_built : (P Q : X → Type 0) (ts : T) → ((x : X) → P x → Q x) → Begins s P ts → Begins s Q ts
  begins_built P Q ts from h = (h.0, (h.1.0, from h.1.0 h.1.1, h.1.2))

  -- a whole spelling begins with each of its fronts
  begins_whole : (P : X → Type 0) (j : ℕ) (ts : T) → Spells s P ts → Begins s P (take j ts)
  begins_whole P j ts h = (drop j ts, (h.0, h.1, h.2 ∙ sym (take-append-drop j ts)))

module _ {X : Type 0} {s : X → T} {W F : X → Type 0} {goes : X → Token → Bool} (once : Once s W goes)
    (fits : (x : X) → F x → W x) where
  ok_alike : (ts : T) (x y : X) → IsAnswer s W F ts (Ok x) → IsAnswer s W F ts (Ok y) → x ≡ y
  ok_alike ts x y p q = (once.once x y [] [] (fits x p.0) (fits y q.0) tt tt (ap (λ l. l ++ []) (p.1 ∙ sym q.1))).0

  ok_not_syntax : (ts : T) (x : X) (k : ℕ) → F x × (s x ≡ ts) → IsSyntaxAt s W F ts k →
      (k ≡ length ts) ⊎ (k < length ts) → ⊥
  ok_not_syntax ts x k p q (inr lt) = q.wrong lt (begins_whole W (k + 1) ts (x, fits x p.0, p.1))
  ok_not_syntax ts x k p q (inl e) = q.ended e (x, fits x p.0, p.1)

  ok_not_deep : (ts : T) (x : X) (k : ℕ) → F x × (s x ≡ ts) → IsDeepAt s W F ts k → ⊥
  ok_not_deep ts x k p q = q.only (begins_whole F (k + 1) ts (x, p.0, p.1))

  syntax_below : (ts : T) (k m : ℕ) → k < m → IsSyntaxAt s W F ts k → m ≤ length ts → Begins s F (take m ts) → ⊥
  syntax_below ts k m lt p within h =
      let below : k < length ts = omega (arith, lt, within) in
      let next : k + 1 ≤ m = omega (arith, lt) in
      p.wrong below (begins_built F W (take (k + 1) ts) fits (begins_less F (k + 1) m ts next within h))

  deep_below : (ts : T) (k m : ℕ) → k < m → IsDeepAt s W F ts k → m ≤ length ts → Begins s F (take m ts) → ⊥
  deep_below ts k m lt p within h =
      let next : k + 1 ≤ m = omega (arith, lt) in
      p.only (begins_less F (k + 1) m ts next within h)

  syntax_alike : (ts : T) (k m : ℕ) → IsSyntaxAt s W F ts k → IsSyntaxAt s W F ts m → (k ≡ m) ⊎ ((k < m) ⊎ (m < k)) →
      k ≡ m
  syntax_alike ts k m p q (inl e) = e
  syntax_alike ts k m p q (inr (inl lt)) = absurd (syntax_below ts k m lt p q.within q.begun)
  syntax_alike ts k m p q (inr (inr lt)) = absurd (syntax_below ts m k lt q p.within p.begun)

  deep_alike : (ts : T) (k m : ℕ) → IsDeepAt s W F ts k → IsDeepAt s W F ts m → (k ≡ m) ⊎ ((k < m) ⊎ (m < k)) → k ≡ m
  deep_alike ts k m p q (inl e) = e
  deep_alike ts k m p q (inr (inl lt)) = absurd (deep_below ts k m lt p (omega (arith, q.within)) q.begun)
  deep_alike ts k m p q (inr (inr lt)) = absurd (deep_below ts m k lt q (omega (arith, p.within)) p.begun)

  syntax_not_deep : (ts : T) (k m : ℕ) → IsSyntaxAt s W F ts k → IsDeepAt s W F ts m → (k ≡ m) ⊎ ((k < m) ⊎ (m < k)) → ⊥
  syntax_not_deep ts k m p q (inl e) =
      let below : k < length ts = omega (arith, e, q.within) in
      p.wrong below (subst (λ n. Begins s W (take (n + 1) ts)) (sym e) q.deeper)
  syntax_not_deep ts k m p q (inr (inl lt)) = syntax_below ts k m lt p (omega (arith, q.within)) q.begun
  syntax_not_deep ts k m p q (inr (inr lt)) = deep_below ts m k lt q p.within p.begun

  pub answers_alike : (ts : T) (one two : Result X SyntaxRefusal) → IsAnswer s W F ts one → IsAnswer s W F ts two →
      (WantsMemory one → ⊥) → (WantsMemory two → ⊥) → one ≡ two
  answers_alike ts (Ok x) (Ok y) p q u v = ap Ok (ok_alike ts x y p q)
  answers_alike ts (Ok x) (Err (Syntax k)) p q u v = absurd (ok_not_syntax ts x k p q (eq-or-lt_of_le q.within))
  answers_alike ts (Ok x) (Err (Deep k)) p q u v = absurd (ok_not_deep ts x k p q)
  answers_alike ts (Err (Syntax k)) (Ok x) p q u v = absurd (ok_not_syntax ts x k q p (eq-or-lt_of_le p.within))
  answers_alike ts (Err (Syntax k)) (Err (Syntax m)) p q u v =
      ap (λ n. Err (Syntax n)) (syntax_alike ts k m p q (cases_order k m))
  answers_alike ts (Err (Syntax k)) (Err (Deep m)) p q u v = absurd (syntax_not_deep ts k m p q (cases_order k m))
  answers_alike ts (Err (Deep k)) (Ok x) p q u v = absurd (ok_not_deep ts x k q p)
  answers_alike ts (Err (Deep k)) (Err (Syntax m)) p q u v = absurd (syntax_not_deep ts m k q p (cases_order m k))
  answers_alike ts (Err (Deep k)) (Err (Deep m)) p q u v =
      ap (λ n. Err (Deep n)) (deep_alike ts k m p q (cases_order k m))
  answers_alike ts (Err NoMemory) two p q u v = absurd (u refl)
  answers_alike ts one (Err NoMemory) p q u v = absurd (v refl)
