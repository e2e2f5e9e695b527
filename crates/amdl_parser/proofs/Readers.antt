-- Readings of names and fixed tokens, and readings put together from readings.
use Rattle.std.proofs.Common.{◌≡◌, ◌≤◌, ◌+◌, ℕ, zero, suc, Bool, true, false, List, [], ◌∷◌, ◌++◌, length, Ok, refl}
use Rattle.std.proofs.Common.{sym, ap, ◌∙◌, subst, arith, Option, Some, None, codes, lit<, rules, ◌⊎◌, inl, inr}
use Rattle.std.specs.Prelude.{⊤, if◌then◌else◌}
use Rattle.std.specs.List.{flat_map, All}
use Rattle.std.proofs.lemmas.List.{length-append}
use Rattle.std.proofs.lemmas.List.Elements.{All-nil, All-cons, All-head, All-tail, All-weaker}
use denote.Enum.Bare.{same_true}
use Rattle.amdl_tree.specs.contracts.token.Sign.{the_type as the_signs}
use Rattle.amdl_tree.specs.contracts.reserved.Reserved.{the_type as the_words}
use Rattle.amdl_tree.specs.WellBuilt.{OneOrMore}
use Rattle.amdl_tree.specs.Word.{IsName, spelling_of_reserved}
use Rattle.amdl_tree.specs.declared.reserved.Reserved.{Reserved}
use Rattle.amdl_tree.specs.declared.reserved.Reserved.TheVariants.{Network}
use Rattle.amdl_tree.specs.Spelling.{word, led, listed}
use Rattle.amdl_tree.specs.GoesOn.{Past, Once, Begins, never, goes_list}
use Rattle.amdl_tree.specs.declared.token.Token.{Token}
use Rattle.amdl_tree.specs.declared.token.Token.TheVariants.{Word, Key, Sign as Signed}
use Rattle.amdl_tree.proofs.OnceLemmas.{not_past, once_word, once_after, once_before, once_shaped, once_chain}
use Rattle.amdl_tree.proofs.OnceLemmas.{once_listed, once_many, once_within}
use Rattle.amdl_parser.specs.Reading.{IsNamed, Answer, refused, is_same, same_sign, same_key, heads, begins, rest_of}
use Rattle.amdl_parser.specs.Reading.{word_at, fixed_at, then_at, made_at, second, first, after_at, before_at, joined}
use Rattle.amdl_parser.specs.Reading.{others_at, all_others_at, listed_at, maybe_at, many_at, all_at}
use Rattle.amdl_parser.proofs.Holds.{Heads, Holds, Named, named_rest, Reader, past_none, or_none, or_one, or_two}
use Rattle.amdl_parser.proofs.Holds.{refused_holds, form_holds, recast_holds, chain_holds}

abbrev T : Type 0
T = List Token

-- tokens

pub same_token : (token other : Token) → is_same token other ≡ true → other ≡ token
unfolding is_same same_sign same_key
same_token (Signed sign) (Signed other) e = ap Signed (same_true the_signs (search rules) _ _ e)
same_token (Key word) (Key other) e = ap Key (same_true the_words (search rules) _ _ e)
same_token token other e = cc

-- where the next token is this one, it stands at the front
pub begun : (token : Token) (ts : T) → begins token ts ≡ true → ts ≡ token ∷ rest_of ts
unfolding heads
begun token [] e = cc
begun token (other ∷ ts) e = ap (λ t. t ∷ ts) (same_token token other e)

-- where it is not, no list that begins as the tokens do begins with it
pub not_begun : (token : Token) (ts tokens : T) → is_same token token ≡ true → begins token ts ≡ false →
    Heads ts (token ∷ tokens) → ⊥
unfolding heads
not_begun token [] tokens is e h = cc
not_begun token (other ∷ ts) tokens is e h =
    let same : token ≡ other = cc in
    let no : is_same token token ≡ false = subst (λ o. is_same token o ≡ false) (sym same) e in
    cc

pub past_not : (test : Token → Bool) (ts : T) → heads test ts ≡ false → Past test ts
unfolding heads
past_not test [] e = tt
past_not test (token ∷ ts) e = e

-- a list that begins with another token than this one does not begin as the tokens do
pub headed : (token other : Token) (ts tokens : T) → Heads (token ∷ ts) (other ∷ tokens) → other ≡ token
headed token other ts tokens h = cc

pub by_test : (b : Bool) → (b ≡ true) ⊎ (b ≡ false)
by_test true = inl refl
by_test false = inr refl

-- an answer by a test
module _ {X : Type 0} (s : X → T) (W F : X → Type 0) (goes : X → Token → Bool) where
  pub if_holds : (ts : T) (test : Bool) (a b : Answer X) → (test ≡ true → Holds s W F goes ts a) →
      (test ≡ false → Holds s W F goes ts b) → Holds s W F goes ts (if test then a else b)
  if_holds ts true a b f g = f refl
  if_holds ts false a b f g = g refl

-- a name

least_name : List ℕ
least_name = codes "a"

least_free : (word : Reserved) → codes "a" ≡ spelling_of_reserved word → ⊥
least_free Network e = absurd (omega (arith, ap length e))
least_free word e = absurd (omega (arith, ap length e))

least_named : IsName least_name
unfolding least_name
least_named = record { word = (refl, refl); short = lit< tt; free = least_free }

word_holds : (ts : T) → Named ts → Holds word IsName IsName (λ name. never) ts (word_at ts)
unfolding word_at
word_holds [] named = refused_holds [] least_name least_named (λ x b w u h. cc)
word_holds (Word name ∷ rest) named =
    record { whole = refl; fits = All-head IsNamed (Word name) rest named; past = past_none rest }
word_holds (token ∷ rest) named = refused_holds (token ∷ rest) least_name least_named (λ x b w u h. cc)

pub names : Reader word IsName IsName (λ name. never) word_at
names = record { once = once_word IsName; fits = λ x p. p; least = least_name; small = least_named; holds = word_holds }

-- a fixed token

abbrev pub fixed_spelled : Token → ⊤ → T
fixed_spelled token u = token ∷ []

abbrev pub Always : ⊤ → Type 0
Always u = ⊤

abbrev pub never_goes : {X : Type 0} → X → Token → Bool
never_goes x = never

fixed_once : (token : Token) → Once (fixed_spelled token) Always never_goes
fixed_once token = record { once = λ x y a b p q u v e. (refl, cc) }

fixed_holds : (token : Token) → is_same token token ≡ true → (ts : T) →
    Holds (fixed_spelled token) Always Always never_goes ts (fixed_at token ts)
unfolding fixed_at
fixed_holds token is ts =
    if_holds (fixed_spelled token) Always Always never_goes ts (begins token ts) (Ok (tt, rest_of ts)) (refused ts)
    (λ e. record { whole = begun token ts e; fits = tt; past = past_none (rest_of ts) })
    (λ e. refused_holds ts tt tt (λ x b w u h. not_begun token ts b is e h))

pub fixed : (token : Token) → is_same token token ≡ true →
    Reader (fixed_spelled token) Always Always never_goes (fixed_at token)
fixed token is =
    record
    { once = fixed_once token; fits = λ x p. p; least = tt; small = tt; holds = λ ts named. fixed_holds token is ts }

named_behind : (ts front rest : T) → Named ts → ts ≡ front ++ rest → Named rest
named_behind ts front rest named e = named_rest front rest (subst Named e named)

-- one value and then another
module _ {X Y : Type 0} {s : X → T} {W F : X → Type 0} {goes : X → Token → Bool} {r : T → Answer X} {t : Y →
    T} {V G : Y → Type 0} {more : Y → Token → Bool} {q : T → Answer Y}
    (one : Reader s W F goes r) (two : Reader t V G more q) where
  pub chain : ((x : X) (y : Y) (a : T) → W x → V y → Past (more y) a → Past (goes x) (t y ++ a)) →
      Reader {X = X × Y} (λ p. s p.0 ++ t p.1) (λ p. W p.0 × V p.1) (λ p. F p.0 × G p.1) (λ p. more p.1) (then_at r q)
  chain stops = record {
    once = once_chain one.once two.once stops;
    fits = λ p f. (one.fits p.0 f.0, two.fits p.1 f.1);
    least = (one.least, two.least);
    small = (one.small, two.small);
    holds = λ ts named. chain_holds t V G more one.once one.fits two.fits two.least two.small stops ts (r ts) q
        (one.holds ts named)
        (λ x rest took. two.holds rest (named_behind ts (s x) rest named took.whole));
  }

-- the same values in another form, spelled alike
module _ {X Y : Type 0} {s : X → T} {W F : X → Type 0} {goes : X → Token → Bool} {r : T → Answer X}
    (part : Reader s W F goes r) (made : X → Y) (back : Y → X)
    (there : (x : X) → W x → back (made x) ≡ x) (again : (y : Y) → made (back y) ≡ y) (t : Y → T)
    (same : (y : Y) → t y ≡ s (back y)) where
  pub shaped : Reader t (λ y. W (back y)) (λ y. F (back y)) (λ y. goes (back y)) (made_at made r)
  shaped = record {
    once = once_shaped part.once back (λ x y e. sym (again x) ∙ ap made e ∙ again y) t same;
    fits = λ y. part.fits (back y);
    least = made part.least;
    small = subst F (sym (there part.least (part.fits part.least part.small))) part.small;
    holds = λ ts named. form_holds t (λ y. W (back y)) (λ y. F (back y)) (λ y. goes (back y)) made part.fits
        (λ x w. same (made x) ∙ ap s (there x w)) (λ x f. subst F (sym (there x (part.fits x f))) f)
        (λ x w. subst W (sym (there x w)) w) (λ x b f. subst (λ z. Past (goes z) b) (sym (there x (part.fits x f))))
        ts (r ts) (λ y. part.fits (back y)) (λ y b w u h. (back y, sym (again y), w, (λ f. f), u))
        (part.holds ts named);
  }

-- the same with other words for what is asked
pub recast : {X : Type 0} {s : X → T} {W F V G : X → Type 0} {goes : X → Token → Bool} {r : T → Answer X} →
    Reader s W F goes r →
    ((x : X) → W x → V x) → ((x : X) → V x → W x) → ((x : X) → F x → G x) → ((x : X) → G x → F x) → Reader s V G goes r
recast {s = s} {V = V} {goes = goes} {r = r} part to_v from_v to_g from_g = record {
  once = once_within part.once V from_v;
  fits = λ x g. to_v x (part.fits x (from_g x g));
  least = part.least;
  small = to_g part.least part.small;
  holds = λ ts named. recast_holds s goes to_v from_v to_g from_g ts (r ts) (part.holds ts named);
}

module _ {X : Type 0} {s : X → T} {W F : X → Type 0} {goes : X → Token → Bool} {r : T → Answer X}
    (part : Reader s W F goes r) where
  -- a token in front
  pub after : (token : Token) → is_same token token ≡ true → Reader (led token s) W F goes (after_at token r)
  after token is = record {
    once = once_after part.once token;
    fits = part.fits;
    least = part.least;
    small = part.small;
    holds = λ ts named. form_holds {X = ⊤ × X} {s = λ p. token ∷ s p.1} {W = λ p. ⊤ × W p.1} {F = λ p. ⊤
        × F p.1} {goes = λ p. goes p.1} (led token s) W F goes second (λ x f. (tt, part.fits x.1 f.1)) (λ x w. refl)
        (λ x f. f.1) (λ x w. w.1) (λ x b f p. p) ts (then_at (fixed_at token) r ts) part.fits
        (λ y b w u h. ((tt, y), refl, (tt, w), (λ f. (tt, f)), u))
        ((chain (fixed token is) part (λ x y a p q u. past_none (s y ++ a))).holds ts named);
  }

  -- a token behind
  pub before : (token : Token) → is_same token token ≡ true → ((x : X) → W x → goes x token ≡ false) →
      Reader (λ x. s x ++ token ∷ []) W F never_goes (before_at r token)
  before token is stops = record {
    once = once_before part.once token [] stops;
    fits = part.fits;
    least = part.least;
    small = part.small;
    holds = λ ts named. form_holds {X = X × ⊤} {s = λ p. s p.0 ++ token ∷ []} {W = λ p. W p.0 × ⊤} {F = λ p. F p.0
        × ⊤} {goes = λ p. never} (λ x. s x ++ token ∷ []) W F never_goes first (λ x f. (part.fits x.0 f.0, tt))
        (λ x w. refl) (λ x f. f.0) (λ x w. w.0) (λ x b f p. p) ts (then_at r (fixed_at token) ts) part.fits
        (λ y b w u h. ((y, tt), refl, (w, tt), (λ f. (f, tt)), u))
        ((chain part (fixed token is) (λ x y a p q u. stops x p)).holds ts named);
  }

tail_fits : (n : ℕ) (x rest : T) (ts : T) → ts ≡ x ++ rest → 1 ≤ length x → length ts ≤ suc n → length rest ≤ n
tail_fits n x rest ts e some fits =
    let size : length ts ≡ length x + length rest = ap length e ∙ length-append x rest in
    omega (arith, size, some, fits)

nothing_left : (ts : T) → length ts ≤ 0 → ts ≡ []
nothing_left [] e = refl
nothing_left (token ∷ ts) e = absurd (omega (arith, e))

past_listed : (token : Token) (goes : Token → Bool) (ts : T) → begins token ts ≡ false → Past goes ts →
    Past (goes_list (is_same token) goes) ts
unfolding heads
past_listed token goes [] e p = tt
past_listed token goes (other ∷ ts) e p = or_none (is_same token other) (goes other) e p

past_second : (token : Token) (goes : Token → Bool) (ts : T) → Past (goes_list (is_same token) goes) ts → Past goes ts
past_second token goes [] p = tt
past_second token goes (other ∷ ts) p = or_two (is_same token other) (goes other) p

past_first : (token : Token) (goes : Token → Bool) (ts : T) → Past (goes_list (is_same token) goes) ts →
    Past (is_same token) ts
past_first token goes [] p = tt
past_first token goes (other ∷ ts) p = or_one (is_same token other) (goes other) p

heads_first : (ts u : T) (token : Token) (tokens : T) → ts ≡ token ∷ tokens → Heads ts u →
    (others : T) × (u ≡ token ∷ others)
heads_first ts u token tokens e h = subst (λ l. Heads l u) e h

-- parts with a token between
module _ {X : Type 0} {s : X → T} {W F : X → Type 0} {goes : Token → Bool} {r : T → Answer X}
    (part : Reader s W F (λ x. goes) r) (token : Token) (is : is_same token token ≡ true)
    (stops : goes token ≡ false) where
  abbrev goes_others : {L : Type 0} → L → Token → Bool
  goes_others xs = goes_list (is_same token) goes

  next_others : (xs : List X) (a : T) → Past (goes_list (is_same token) goes) a →
      Past goes (flat_map (led token s) xs ++ a)
  next_others [] a u = past_second token goes a u
  next_others (x ∷ xs) a u = stops

  -- what stands here is a first part and others
  some_others : (ts tokens : T) → ts ≡ token ∷ tokens → (ys : List X) (b : T) → All W ys →
      Past (goes_list (is_same token) goes) b → Heads ts (flat_map (led token s) ys ++ b) →
      (p : X × List X) × (ys ≡ joined p) × (W p.0 × All W p.1) × (All F ys → F p.0 × All F p.1)
      × Past (goes_list (is_same token) goes) b
  some_others ts tokens e [] b w u h =
      let first = heads_first ts b token tokens e h in
      absurd (not_past (is_same token) b token first.0 (past_first token goes b u) is first.1)
  some_others ts tokens e (y ∷ ys) b w u h =
      ((y, ys), refl, (All-head W y ys w, All-tail W y ys w), (λ f. (All-head F y ys f, All-tail F y ys f)), u)

  all_built : (xs : List X) → All F xs → All W xs
  all_built = All-weaker F W part.fits

  others_holds : (n : ℕ) (ts : T) → length ts ≤ n → Named ts → Past goes ts →
      Holds (flat_map (led token s)) (All W) (All F) goes_others ts (others_at token r n ts)
  unfolding others_at
  others_holds zero ts le named past =
      let none = nothing_left ts le in
      record { whole = refl; fits = All-nil F; past = subst (Past (goes_list (is_same token) goes)) (sym none) tt }
  others_holds (suc n) ts le named past =
      if_holds (flat_map (led token s)) (All W) (All F) goes_others ts (begins token ts)
      (made_at joined (then_at (after_at token r) (others_at token r n)) ts) (Ok ([], ts))
      (λ e. form_holds {X = X × List X} {s = λ p. (token ∷ s p.0) ++ flat_map (led token s) p.1} {W = λ p. W p.0
      × All W p.1} {F = λ p. F p.0 × All F p.1} {goes = goes_others}
      (flat_map (led token s)) (All W) (All F) goes_others joined (λ x f. (part.fits x.0 f.0, all_built x.1 f.1))
      (λ x w. refl) (λ x f. All-cons F x.0 x.1 f.0 f.1) (λ x w. All-cons W x.0 x.1 w.0 w.1) (λ x b f p. p)
      ts (then_at (after_at token r) (others_at token r n) ts) all_built
      (some_others ts (rest_of ts) (begun token ts e))
      (chain_holds {s = led token s} {W = W} {F = F} {goes = λ x. goes} (flat_map (led token s)) (All W)
      (All F) goes_others (once_after part.once token) part.fits all_built [] (All-nil F)
      (λ x y a p q u. next_others y a u) ts (after_at token r ts) (others_at token r n)
      ((after part token is).holds ts named)
      (λ x rest took. others_holds n rest (tail_fits n (token ∷ s x) rest ts took.whole (omega arith) le)
      (named_behind ts (token ∷ s x) rest named took.whole) took.past)))
      (λ e. record { whole = refl; fits = All-nil F; past = past_listed token goes ts e past })

  one_first : (ts : T) (ys : List X) (b : T) → OneOrMore W ys → Past (goes_list (is_same token) goes) b →
      Heads ts (listed token s ys ++ b) →
      (p : X × List X) × (ys ≡ joined p) × (W p.0 × All W p.1) × (OneOrMore F ys → F p.0 × All F p.1)
      × Past (goes_list (is_same token) goes) b
  one_first ts [] b w u h = absurd (w.0 refl)
  one_first ts (y ∷ ys) b w u h =
      ((y, ys), refl, (All-head W y ys w.1, All-tail W y ys w.1), (λ f. (All-head F y ys f.1, All-tail F y ys f.1)), u)

  pub listing : Reader (listed token s) (OneOrMore W) (OneOrMore F) (λ xs. goes_list (is_same token) goes)
      (listed_at token r)
  listing = record {
    once = once_listed token (is_same token) is part.once stops;
    fits = λ xs f. (f.0, all_built xs f.1);
    least = part.least ∷ [];
    small = ((λ e. cc), All-cons F part.least [] part.small (All-nil F));
    holds = λ ts named. form_holds {X = X × List X} {s = λ p. s p.0 ++ flat_map (led token s) p.1} {W = λ p. W p.0
        × All W p.1} {F = λ p. F p.0 × All F p.1} {goes = goes_others}
        (listed token s) (OneOrMore W) (OneOrMore F) goes_others joined (λ x f. (part.fits x.0 f.0, all_built x.1 f.1))
        (λ x w. refl) (λ x f. ((λ e. cc), All-cons F x.0 x.1 f.0 f.1))
        (λ x w. ((λ e. cc), All-cons W x.0 x.1 w.0 w.1)) (λ x b f p. p)
        ts (then_at r (all_others_at token r) ts) (λ xs f. (f.0, all_built xs f.1)) (one_first ts)
        (chain_holds {s = s} {W = W} {F = F} {goes = λ x. goes} (flat_map (led token s)) (All W)
        (All F) goes_others part.once part.fits all_built [] (All-nil F)
        (λ x y a p q u. next_others y a u) ts (r ts) (all_others_at token r) (part.holds ts named)
        (λ x rest took. others_holds (length rest) rest (omega arith)
        (named_behind ts (s x) rest named took.whole) took.past));
  }

-- parts one behind another, each of which begins with a token of a kind
module _ {X : Type 0} {s : X → T} {W F : X → Type 0} {r : T → Answer X} (part : Reader s W F (λ x. never) r)
    (starts : Token → Bool) (first_token : Begins s W starts) where
  all_parts_built : (xs : List X) → All F xs → All W xs
  all_parts_built = All-weaker F W part.fits

  abbrev starts_goes : {L : Type 0} → L → Token → Bool
  starts_goes xs = starts

  some_parts : (ts : T) → heads starts ts ≡ true → (ys : List X) (b : T) → All W ys → Past starts b →
      Heads ts (flat_map s ys ++ b) →
      (p : X × List X) × (ys ≡ joined p) × (W p.0 × All W p.1) × (All F ys → F p.0 × All F p.1) × Past starts b
  unfolding heads
  some_parts [] e [] b w u h = cc
  some_parts (token ∷ ts) e [] b w u h = absurd (not_past starts b token h.0 u e h.1)
  some_parts ts e (y ∷ ys) b w u h =
      ((y, ys), refl, (All-head W y ys w, All-tail W y ys w), (λ f. (All-head F y ys f, All-tail F y ys f)), u)

  part_size : (x : X) → W x → 1 ≤ length (s x)
  part_size x w = let found = first_token.begins x w in subst (λ l. 1 ≤ length l) (sym found.2) (omega arith)

  parts_hold : (n : ℕ) (ts : T) → length ts ≤ n → Named ts →
      Holds (flat_map s) (All W) (All F) starts_goes ts (many_at starts r n ts)
  unfolding many_at
  parts_hold zero ts le named =
      let none = nothing_left ts le in
      record { whole = refl; fits = All-nil F; past = subst (Past starts) (sym none) tt }
  parts_hold (suc n) ts le named =
      if_holds (flat_map s) (All W) (All F) starts_goes ts (heads starts ts)
      (made_at joined (then_at r (many_at starts r n)) ts) (Ok ([], ts))
      (λ e. form_holds {X = X × List X} {s = λ p. s p.0 ++ flat_map s p.1} {W = λ p. W p.0 × All W p.1} {F = λ p. F p.0
      × All F p.1} {goes = starts_goes}
      (flat_map s) (All W) (All F) starts_goes joined (λ x f. (part.fits x.0 f.0, all_parts_built x.1 f.1))
      (λ x w. refl) (λ x f. All-cons F x.0 x.1 f.0 f.1) (λ x w. All-cons W x.0 x.1 w.0 w.1) (λ x b f p. p)
      ts (then_at r (many_at starts r n) ts) all_parts_built (some_parts ts e)
      (chain_holds {s = s} {W = W} {F = F} {goes = never_goes} (flat_map s) (All W)
      (All F) starts_goes part.once part.fits all_parts_built [] (All-nil F)
      (λ x y a p q u. past_none (flat_map s y ++ a)) ts (r ts) (many_at starts r n) (part.holds ts named)
      (λ x rest took. parts_hold n rest (tail_fits n (s x) rest ts took.whole (part_size x (part.fits x took.fits)) le)
      (named_behind ts (s x) rest named took.whole))))
      (λ e. record { whole = refl; fits = All-nil F; past = past_not starts ts e })

  pub many : Reader (flat_map s) (All W) (All F) (λ xs. starts) (all_at starts r)
  many = record {
    once = once_many part.once first_token;
    fits = all_parts_built;
    least = [];
    small = All-nil F;
    holds = λ ts named. parts_hold (length ts) ts (omega arith) named;
  }

-- a part with a token in front that shows it, or nothing
module _ {X : Type 0} {s : X → T} {W F : X → Type 0} {goes : X → Token → Bool} {r : T → Answer X}
    (part : Reader s W F goes r) (token : Token) (is : is_same token token ≡ true) where
  abbrev pub maybe_spelled : Option X → T
  maybe_spelled None = []
  maybe_spelled (Some x) = token ∷ s x

  abbrev pub IfThere : (X → Type 0) → Option X → Type 0
  IfThere P None = ⊤
  IfThere P (Some x) = P x

  abbrev pub maybe_goes : Option X → Token → Bool
  maybe_goes None = is_same token
  maybe_goes (Some x) = goes x

  maybe_once : (x y : Option X) (a b : T) → IfThere W x → IfThere W y → Past (maybe_goes x) a → Past (maybe_goes y) b →
      maybe_spelled x ++ a ≡ maybe_spelled y ++ b → (x ≡ y) × (a ≡ b)
  maybe_once None None a b p q u v e = (refl, e)
  maybe_once None (Some y) a b p q u v e = absurd (not_past (is_same token) a token (s y ++ b) u is e)
  maybe_once (Some x) None a b p q u v e = absurd (not_past (is_same token) b token (s x ++ a) v is (sym e))
  maybe_once (Some x) (Some y) a b p q u v e =
      let split = (once_after part.once token).once x y a b p q u v e in (ap Some split.0, split.1)

  maybe_fits : (x : Option X) → IfThere F x → IfThere W x
  maybe_fits None f = tt
  maybe_fits (Some x) f = part.fits x f

  maybe_only : (ts tokens : T) → ts ≡ token ∷ tokens → (y : Option X) (b : T) → IfThere W y → Past (maybe_goes y) b →
      Heads ts (maybe_spelled y ++ b) → (x : X) × (y ≡ Some x) × W x × (IfThere F y → F x) × Past (goes x) b
  maybe_only ts tokens e None b w u h =
      let found = heads_first ts b token tokens e h in
      absurd (not_past (is_same token) b token found.0 u is found.1)
  maybe_only ts tokens e (Some x) b w u h = (x, refl, w, (λ f. f), u)

  maybe_holds : (ts : T) → Named ts → Holds maybe_spelled (IfThere W) (IfThere F) maybe_goes ts (maybe_at token r ts)
  unfolding maybe_at
  maybe_holds ts named =
      if_holds maybe_spelled (IfThere W) (IfThere F) maybe_goes ts (begins token ts)
      (made_at Some (after_at token r) ts) (Ok (None, ts))
      (λ e. form_holds {s = led token s} maybe_spelled (IfThere W) (IfThere F) maybe_goes Some part.fits (λ x w. refl)
      (λ x f. f) (λ x w. w) (λ x b f p. p) ts (after_at token r ts) maybe_fits
      (maybe_only ts (rest_of ts) (begun token ts e)) ((after part token is).holds ts named))
      (λ e. record { whole = refl; fits = tt; past = past_not (is_same token) ts e })

  pub maybe : Reader maybe_spelled (IfThere W) (IfThere F) maybe_goes (maybe_at token r)
  maybe = record {
    once = record { once = maybe_once };
    fits = maybe_fits;
    least = None;
    small = tt;
    holds = maybe_holds;
  }

-- one form of several, shown by its first token
module _ {X Y : Type 0} {s : X → T} {W F : X → Type 0} {r : T → Answer X} (part : Reader s W F never_goes r) (t : Y → T)
    (V G : Y → Type 0) (made : X → Y) (weaker : (y : Y) → G y → V y)
    (same : (x : X) → t (made x) ≡ s x) (fit : (x : X) → F x → G (made x)) (built : (x : X) → W x → V (made x))
    (token : Token)
    (only : (tokens : T) (y : Y) (b : T) → V y → Heads (token ∷ tokens) (t y ++ b) →
    (x : X) × (y ≡ made x) × W x × (G y → F x)) where
  variant_only : (ts tokens : T) → ts ≡ token ∷ tokens → (y : Y) (b : T) → V y → Past never b → Heads ts (t y ++ b) →
      (x : X) × (y ≡ made x) × W x × (G y → F x) × Past never b
  variant_only ts tokens e y b v u h =
      let o = only tokens y b v (subst (λ l. Heads l (t y ++ b)) e h) in
      (o.0, o.1, o.2, o.3, u)

  pub variant : (ts : T) → Named ts → begins token ts ≡ true → Holds t V G never_goes ts (made_at made r ts)
  variant ts named e =
      form_holds {goes = never_goes} t V G never_goes made part.fits (λ x w. same x) fit built (λ x b f p. p) ts
      (r ts) weaker (variant_only ts (rest_of ts) (begun token ts e)) (part.holds ts named)
