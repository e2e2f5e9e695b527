-- Loops that read the parts of a list: what was read, in front of a reading of the rest, is the reading of the whole.
use Rattle.std.proofs.Common.{◌≡◌, ◌≤◌, ◌<◌, ℕ, zero, suc, Bool, true, false, List, [], ◌∷◌, ◌++◌, length, Result, Ok}
use Rattle.std.proofs.Common.{Err, refl, sym, ap, ◌∙◌, subst, append_assoc, arith}
use Rattle.std.proofs.lemmas.List.{append-nil, length-map}
use Rattle.amdl_tree.specs.declared.token.Lexed.{Lexed}
use Rattle.amdl_tree.specs.declared.token.Token.{Token}
use Rattle.amdl_parser.specs.declared.fault.Fault.{Fault}
use Rattle.amdl_parser.specs.declared.fault.Fault.TheVariants.{Syntax, Deep, NoMemory}
use Rattle.amdl_parser.specs.Reading.{Answer, Reads, token_of, tokens_of, go_on, heads, begins, read, read_pair}
use Rattle.amdl_parser.specs.Reading.{fixed_at, joined, others_at, all_others_at, listed_at, many_at, all_at}

abbrev T : Type 0
T = List Token

-- what was read, in front of what is read
abbrev pub prefixed : {A : Type 0} → List A → Answer (List A) → Answer (List A)
prefixed found = go_on (λ parts. read (found ++ parts))

pub record Listing {A : Type 0} (whole : T → Answer (List A)) (token : Token) (part : T → Answer A)
    (before left : List Lexed) (found : List A) : Type 0 where
  pub fuel : ℕ
  pub enough : length left ≤ fuel
  pub same : whole (tokens_of before) ≡ prefixed found (others_at token part fuel (tokens_of left))

prefixed_once : {A : Type 0} (x : A) (a : Answer (List A)) →
    go_on (λ value. read (joined value)) (go_on (read_pair x) a) ≡ prefixed (x ∷ []) a
prefixed_once x (Ok p) = refl
prefixed_once x (Err f) = refl

prefixed_more : {A : Type 0} (found : List A) (x : A) (a : Answer (List A)) →
    prefixed found (go_on (λ value. read (joined value)) (go_on (read_pair x) a)) ≡ prefixed (found ++ x ∷ []) a
prefixed_more found x (Ok p) = ap (λ l. Ok (l, p.1)) (sym (append_assoc found (x ∷ []) p.0))
prefixed_more found x (Err f) = refl

pub count_of : (left : List Lexed) → length (tokens_of left) ≡ length left
count_of left = length-map left token_of

-- what the exit of a `?` returns
pub error_of : {A : Type 0} (r : Result A Fault) (fault : Fault) → (found : Fault) × (r ≡ Err found) × (found ≡ fault) →
    r ≡ Err fault
error_of r fault p = p.1 ∙ ap Err p.2

module _ {A : Type 0} (token : Token) (part : T → Answer A) where
  whole_step : (x : A) (rest : T) (ts : T) → part ts ≡ Ok (x, rest) →
      listed_at token part ts ≡ prefixed (x ∷ []) (all_others_at token part rest)
  whole_step x rest ts e = rw e (prefixed_once x (all_others_at token part rest))

  pub listing_start : (before left : List Lexed) (x : A) → part (tokens_of before) ≡ Ok (x, tokens_of left) →
      Listing (listed_at token part) token part before left (x ∷ [])
  listing_start before left x e = record {
    fuel = length (tokens_of left);
    enough = omega (arith, count_of left);
    same = whole_step x (tokens_of left) (tokens_of before) e;
  }

  next_step : (n : ℕ) (ts mid rest : T) (x : A) → begins token ts ≡ true → fixed_at token ts ≡ Ok (tt, mid) →
      part mid ≡ Ok (x, rest) →
      others_at token part (suc n) ts
      ≡ go_on (λ value. read (joined value)) (go_on (read_pair x) (others_at token part n rest))
  unfolding others_at
  next_step n ts mid rest x e f g = rw e (rw f (rw g refl))

  next_fault : (n : ℕ) (ts mid : T) (fault : Fault) → begins token ts ≡ true → fixed_at token ts ≡ Ok (tt, mid) →
      part mid ≡ Err fault → others_at token part (suc n) ts ≡ Err fault
  unfolding others_at
  next_fault n ts mid fault e f g = rw e (rw f (rw g refl))

  next_wrong : (n : ℕ) (ts : T) (fault : Fault) → begins token ts ≡ true → fixed_at token ts ≡ Err fault →
      others_at token part (suc n) ts ≡ Err fault
  unfolding others_at
  next_wrong n ts fault e f = rw e (rw f refl)

  next_none : (n : ℕ) (ts : T) → begins token ts ≡ false → others_at token part n ts ≡ Ok ([], ts)
  unfolding others_at
  next_none zero ts e = refl
  next_none (suc n) ts e = rw e refl

  fuel_left : (n : ℕ) (left : List Lexed) → begins token (tokens_of left) ≡ true → length left ≤ n →
      (m : ℕ) × (n ≡ suc m)
  unfolding heads
  fuel_left n [] e le = cc
  fuel_left zero (lexed ∷ left) e le = absurd (omega (arith, le))
  fuel_left (suc m) (lexed ∷ left) e le = (m, refl)

  module _ (whole : T → Answer (List A)) where
    pub listing_step : (before left mid rest : List Lexed) (found : List A) (x : A) →
        Listing whole token part before left found → begins token (tokens_of left) ≡ true →
        fixed_at token (tokens_of left) ≡ Ok (tt, tokens_of mid) → part (tokens_of mid) ≡ Ok (x, tokens_of rest) →
        length rest < length left → Listing whole token part before rest (found ++ x ∷ [])
    listing_step before left mid rest found x h e f g lt =
        let m = fuel_left h.fuel left e h.enough in
        let less : suc (length rest) ≤ suc m.0 = subst (λ n. suc (length rest) ≤ n) m.1 (omega (arith, lt, h.enough)) in
        record {
          fuel = m.0;
          enough = omega (arith, less);
          same = h.same ∙ ap (λ n. prefixed found (others_at token part n (tokens_of left))) m.1
              ∙ ap (prefixed found) (next_step m.0 (tokens_of left) (tokens_of mid) (tokens_of rest) x e f g)
              ∙ prefixed_more found x (others_at token part m.0 (tokens_of rest));
        }

    pub listing_fault : (before left mid : List Lexed) (found : List A) (fault : Fault) →
        Listing whole token part before left found → begins token (tokens_of left) ≡ true →
        fixed_at token (tokens_of left) ≡ Ok (tt, tokens_of mid) → part (tokens_of mid) ≡ Err fault →
        whole (tokens_of before) ≡ Err fault
    listing_fault before left mid found fault h e f g =
        let m = fuel_left h.fuel left e h.enough in
        h.same ∙ ap (λ n. prefixed found (others_at token part n (tokens_of left))) m.1
        ∙ ap (prefixed found) (next_fault m.0 (tokens_of left) (tokens_of mid) fault e f g)

    pub listing_wrong : (before left : List Lexed) (found : List A) (fault : Fault) →
        Listing whole token part before left found → begins token (tokens_of left) ≡ true →
        fixed_at token (tokens_of left) ≡ Err fault → whole (tokens_of before) ≡ Err fault
    listing_wrong before left found fault h e f =
        let m = fuel_left h.fuel left e h.enough in
        h.same ∙ ap (λ n. prefixed found (others_at token part n (tokens_of left))) m.1
        ∙ ap (prefixed found) (next_wrong m.0 (tokens_of left) fault e f)

    pub listing_end : (before left : List Lexed) (found : List A) → Listing whole token part before left found →
        begins token (tokens_of left) ≡ false → whole (tokens_of before) ≡ Ok (found, tokens_of left)
    listing_end before left found h e =
        h.same ∙ ap (prefixed found) (next_none h.fuel (tokens_of left) e)
        ∙ ap (λ l. Ok (l, tokens_of left)) (append-nil found)

    pub listing_faulted : (before left mid rest : List Lexed) (found : List A) (fault : Fault)
        (r : Result (List A) Fault) → Listing whole token part before left found →
        begins token (tokens_of left) ≡ true → Reads (fixed_at token) left mid (Ok tt) →
        Reads part mid rest (Err fault) → r ≡ Err fault → Reads whole before rest r
    listing_faulted before left mid rest found (Syntax n) r h e f g is =
        subst (Reads whole before rest) (sym is) (listing_fault before left mid found (Syntax n) h e f g)
    listing_faulted before left mid rest found (Deep n) r h e f g is =
        subst (Reads whole before rest) (sym is) (listing_fault before left mid found (Deep n) h e f g)
    listing_faulted before left mid rest found NoMemory r h e f g is = subst (Reads whole before rest) (sym is) tt

    pub listing_wronged : (before left rest : List Lexed) (found : List A) (fault : Fault) (r : Result (List A) Fault) →
        Listing whole token part before left found → begins token (tokens_of left) ≡ true →
        Reads (fixed_at token) left rest (Err fault) → r ≡ Err fault → Reads whole before rest r
    listing_wronged before left rest found (Syntax n) r h e f is =
        subst (Reads whole before rest) (sym is) (listing_wrong before left found (Syntax n) h e f)
    listing_wronged before left rest found (Deep n) r h e f is =
        subst (Reads whole before rest) (sym is) (listing_wrong before left found (Deep n) h e f)
    listing_wronged before left rest found NoMemory r h e f is = subst (Reads whole before rest) (sym is) tt

-- parts while the next token is of a kind

pub record Gathering {A : Type 0} (whole : T → Answer (List A)) (starts : Token → Bool) (part : T → Answer A)
    (before left : List Lexed) (found : List A) : Type 0 where
  pub fuel : ℕ
  pub enough : length left ≤ fuel
  pub same : whole (tokens_of before) ≡ prefixed found (many_at starts part fuel (tokens_of left))

prefixed_none : {A : Type 0} (a : Answer (List A)) → a ≡ prefixed [] a
prefixed_none (Ok p) = refl
prefixed_none (Err f) = refl

module _ {A : Type 0} (starts : Token → Bool) (part : T → Answer A) where
  pub gather_start : (before : List Lexed) → Gathering (all_at starts part) starts part before before []
  gather_start before = record {
    fuel = length (tokens_of before);
    enough = omega (arith, count_of before);
    same = prefixed_none (many_at starts part (length (tokens_of before)) (tokens_of before));
  }

  many_step : (n : ℕ) (ts rest : T) (x : A) → heads starts ts ≡ true → part ts ≡ Ok (x, rest) →
      many_at starts part (suc n) ts
      ≡ go_on (λ value. read (joined value)) (go_on (read_pair x) (many_at starts part n rest))
  unfolding many_at
  many_step n ts rest x e f = rw e (rw f refl)

  many_fault : (n : ℕ) (ts : T) (fault : Fault) → heads starts ts ≡ true → part ts ≡ Err fault →
      many_at starts part (suc n) ts ≡ Err fault
  unfolding many_at
  many_fault n ts fault e f = rw e (rw f refl)

  many_none : (n : ℕ) (ts : T) → heads starts ts ≡ false → many_at starts part n ts ≡ Ok ([], ts)
  unfolding many_at
  many_none zero ts e = refl
  many_none (suc n) ts e = rw e refl

  some_left : (n : ℕ) (left : List Lexed) → heads starts (tokens_of left) ≡ true → length left ≤ n →
      (m : ℕ) × (n ≡ suc m)
  unfolding heads
  some_left n [] e le = cc
  some_left zero (lexed ∷ left) e le = absurd (omega (arith, le))
  some_left (suc m) (lexed ∷ left) e le = (m, refl)

  module _ (whole : T → Answer (List A)) where
    pub gather_step : (before left rest : List Lexed) (found : List A) (x : A) →
        Gathering whole starts part before left found → heads starts (tokens_of left) ≡ true →
        part (tokens_of left) ≡ Ok (x, tokens_of rest) → length rest < length left →
        Gathering whole starts part before rest (found ++ x ∷ [])
    gather_step before left rest found x h e f lt =
        let m = some_left h.fuel left e h.enough in
        let less : suc (length rest) ≤ suc m.0 = subst (λ n. suc (length rest) ≤ n) m.1 (omega (arith, lt, h.enough)) in
        record {
          fuel = m.0;
          enough = omega (arith, less);
          same = h.same ∙ ap (λ n. prefixed found (many_at starts part n (tokens_of left))) m.1
              ∙ ap (prefixed found) (many_step m.0 (tokens_of left) (tokens_of rest) x e f)
              ∙ prefixed_more found x (many_at starts part m.0 (tokens_of rest));
        }

    gather_fault : (before left : List Lexed) (found : List A) (fault : Fault) →
        Gathering whole starts part before left found → heads starts (tokens_of left) ≡ true →
        part (tokens_of left) ≡ Err fault → whole (tokens_of before) ≡ Err fault
    gather_fault before left found fault h e f =
        let m = some_left h.fuel left e h.enough in
        h.same ∙ ap (λ n. prefixed found (many_at starts part n (tokens_of left))) m.1
        ∙ ap (prefixed found) (many_fault m.0 (tokens_of left) fault e f)

    pub gather_faulted : (before left rest : List Lexed) (found : List A) (fault : Fault) (r : Result (List A) Fault) →
        Gathering whole starts part before left found → heads starts (tokens_of left) ≡ true →
        Reads part left rest (Err fault) → r ≡ Err fault → Reads whole before rest r
    gather_faulted before left rest found (Syntax n) r h e f is =
        subst (Reads whole before rest) (sym is) (gather_fault before left found (Syntax n) h e f)
    gather_faulted before left rest found (Deep n) r h e f is =
        subst (Reads whole before rest) (sym is) (gather_fault before left found (Deep n) h e f)
    gather_faulted before left rest found NoMemory r h e f is = subst (Reads whole before rest) (sym is) tt

    pub gather_end : (before left : List Lexed) (found : List A) → Gathering whole starts part before left found →
        heads starts (tokens_of left) ≡ false → whole (tokens_of before) ≡ Ok (found, tokens_of left)
    gather_end before left found h e =
        h.same ∙ ap (prefixed found) (many_none h.fuel (tokens_of left) e)
        ∙ ap (λ l. Ok (l, tokens_of left)) (append-nil found)
