-- A right reading of a whole token list is the answer to it.
use Rattle.std.proofs.Common.{◌≡◌, ◌+◌, ◌-◌, ℕ, Bool, List, [], ◌∷◌, ◌++◌, length, take, Ok, Err, refl, sym, ap, ◌∙◌}
use Rattle.std.proofs.Common.{subst, append_assoc, arith}
use Rattle.std.proofs.lemmas.List.{length-append, append-nil}
use Rattle.std.proofs.Math.Seq.{take-append_seam, take-append-add}
use Rattle.amdl_tree.specs.GoesOn.{Past, Once}
use Rattle.amdl_tree.specs.declared.token.Token.{Token}
use Rattle.amdl_parser.specs.declared.fault.Fault.TheVariants.{Syntax, Deep, NoMemory}
use Rattle.amdl_parser.specs.Reading.{Answer, answer_of, ended}
use Rattle.amdl_parser.specs.Answer.{Begins, IsSyntaxAt, IsDeepAt, IsAnswer, WantsMemory}
use Rattle.amdl_parser.proofs.Holds.{Heads, Took, Stop, Further, Holds, past_headed}

abbrev T : Type 0
T = List Token

-- what stands in front of the tokens that are left
place : (ts front rest : T) (left : ℕ) → ts ≡ front ++ rest → length rest ≡ left → length ts - left ≡ length front
place ts front rest left e count =
    let size : length ts ≡ length front + length rest = ap length e ∙ length-append front rest in
    omega (arith, size, count)

front_of : (ts front rest : T) (left : ℕ) → ts ≡ front ++ rest → length rest ≡ left → take (length ts - left) ts ≡ front
front_of ts front rest left e count =
    ap (λ n. take n ts) (place ts front rest left e count) ∙ ap (take (length front)) e ∙ take-append_seam front rest

front_and_next : (ts front : T) (next : Token) (others : T) (left : ℕ) → ts ≡ front ++ (next ∷ others) →
    length (next ∷ others) ≡ left → take (length ts - left + 1) ts ≡ front ++ (next ∷ [])
front_and_next ts front next others left e count =
    ap (λ n. take (n + 1) ts) (place ts front (next ∷ others) left e count) ∙ ap (take (length front + 1)) e
    ∙ take-append-add front (next ∷ others) 1

-- the front begins a value of the kind F; with the next token it begins none of the kind G that is spelled by all the
-- tokens
record Ends {X : Type 0} (s : X → T) (F G : X → Type 0) (front rest : T) : Type 0 where
  tree : X
  more : T
  fits : F tree
  begun : s tree ≡ front ++ more
  none : (x : X) (y : T) → G x → Heads rest y → s x ≡ front ++ y → ⊥

ends : {X : Type 0} (s : X → T) (F G : X → Type 0) (goes : X → Token → Bool) (front rest : T) →
    Stop s F G goes front rest → Ends s F G front rest
ends s F G goes front rest h = record {
  tree = h.tree;
  more = h.more;
  fits = h.fits;
  begun = h.begun;
  none = λ x y w hd e. h.none x [] y w tt hd (append-nil (s x) ∙ e);
}

module _ {X : Type 0} {s : X → T} {W F : X → Type 0} {goes : X → Token → Bool} (once : Once s W goes)
    (fits : (x : X) → F x → W x) where
  begun_there : (G : X → Type 0) (ts front rest : T) (left : ℕ) → ts ≡ front ++ rest → length rest ≡ left →
      Ends s F G front rest → Begins s F (take (length ts - left) ts)
  begun_there G ts front rest left e count h =
      (h.more, (h.tree, h.fits, h.begun ∙ ap (λ l. l ++ h.more) (sym (front_of ts front rest left e count))))

  none_goes_on : (G : X → Type 0) (ts front : T) (next : Token) (others : T) (left : ℕ) →
      ts ≡ front ++ (next ∷ others) → length (next ∷ others) ≡ left → Ends s F G front (next ∷ others) →
      Begins s G (take (length ts - left + 1) ts) → ⊥
  none_goes_on G ts front next others left e count h p =
      let there : s p.1.0 ≡ front ++ (next ∷ p.0) =
      p.1.2 ∙ ap (λ l. l ++ p.0) (front_and_next ts front next others left e count)
      ∙ append_assoc front (next ∷ []) p.0 in
      h.none p.1.0 (next ∷ p.0) p.1.1 (p.0, refl) there

  stop_answer : (ts front rest : T) (left : ℕ) → ts ≡ front ++ rest → length rest ≡ left → Ends s F W front rest →
      IsSyntaxAt s W F ts (length ts - left)
  stop_answer ts front [] left e count h = record {
    within = omega arith;
    begun = begun_there W ts front [] left e count h;
    wrong = λ lt p. absurd (omega (arith, lt, count));
    ended = λ k p. h.none p.0 [] p.1 refl (p.2 ∙ e);
  }
  stop_answer ts front (next ∷ others) left e count h = record {
    within = omega arith;
    begun = begun_there W ts front (next ∷ others) left e count h;
    wrong = λ lt p. none_goes_on W ts front next others left e count h p;
    ended = λ k p.
        let size : length ts ≡ length front + length (next ∷ others) =
        ap length e ∙ length-append front (next ∷ others) in
        absurd (omega (arith, k, place ts front (next ∷ others) left e count, size));
  }

  deep_answer : (ts front rest : T) (left : ℕ) → ts ≡ front ++ rest → length rest ≡ left → Ends s F F front rest →
      Further s W front rest → IsDeepAt s W F ts (length ts - left)
  deep_answer ts front rest left e count h far =
      let whole : ts ≡ front ++ (far.next ∷ far.others) = e ∙ ap (λ l. front ++ l) far.has in
      let size : length (far.next ∷ far.others) ≡ left = ap length (sym far.has) ∙ count in
      let all : length ts ≡ length front + length (far.next ∷ far.others) =
      ap length whole ∙ length-append front (far.next ∷ far.others) in
      record {
        within = omega (arith, place ts front rest left e count, all);
        begun = begun_there F ts front rest left e count h;
        deeper = (
          far.after,
          (
            far.deep,
            far.built,
            far.spelled ∙ sym (append_assoc front (far.next ∷ []) far.after)
                ∙ ap (λ l. l ++ far.after) (sym (front_and_next ts front far.next far.others left whole size)),
          ),
        );
        only = none_goes_on F ts front far.next far.others left whole size (subst (Ends s F F front) far.has h);
      }

  -- a value that does not go on with the next token is no front of another
  stop_behind : (x : X) (next : Token) (others : T) → F x → Past (goes x) (next ∷ others) →
      Ends s F W (s x) (next ∷ others)
  stop_behind x next others f past = record {
    tree = x;
    more = [];
    fits = f;
    begun = sym (append-nil (s x));
    none = λ y z w hd e.
        let split =
        once.once y x [] z w (fits x f) tt (past_headed (goes x) [] (next ∷ others) z past hd)
        (append-nil (s y) ∙ e) in
        let same : [] ≡ next ∷ hd.0 = split.1 ∙ hd.1 in
        cc;
  }

  ended_answer : (ts : T) (x : X) (rest : T) → Took s F goes ts x rest → IsAnswer s W F ts (ended (length ts) x rest)
  ended_answer ts x [] h = (h.fits, sym (h.whole ∙ append-nil (s x)))
  ended_answer ts x (next ∷ others) h =
      stop_answer ts (s x) (next ∷ others) (length (next ∷ others)) h.whole refl
      (stop_behind x next others h.fits h.past)

  pub answered : (ts : T) (a : Answer X) → Holds s W F goes ts a → IsAnswer s W F ts (answer_of (length ts) a)
  answered ts (Ok p) h = ended_answer ts p.0 p.1 h
  answered ts (Err (Syntax left)) h =
      stop_answer ts h.0.front h.0.rest left h.0.whole h.0.count (ends s F W goes h.0.front h.0.rest h.1)
  answered ts (Err (Deep left)) h =
      deep_answer ts h.0.front h.0.rest left h.0.whole h.0.count (ends s F F goes h.0.front h.0.rest h.1) h.2
  answered ts (Err NoMemory) h = tt

-- a right reading never wants memory
pub never_wants : {X : Type 0} (s : X → T) (W F : X → Type 0) (goes : X → Token → Bool) (n : ℕ) (ts : T)
    (a : Answer X) → Holds s W F goes ts a → WantsMemory (answer_of n a) → ⊥
never_wants s W F goes n ts (Ok (x, [])) h e = cc
never_wants s W F goes n ts (Ok (x, next ∷ others)) h e = cc
never_wants s W F goes n ts (Err (Syntax left)) h e = cc
never_wants s W F goes n ts (Err (Deep left)) h e = cc
never_wants s W F goes n ts (Err NoMemory) h e = h
