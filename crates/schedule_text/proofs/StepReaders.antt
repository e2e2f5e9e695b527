-- Each part of a schedule is read right.
use Rattle.std.proofs.Common.{◌≡◌, ◌≤◌, ℕ, Bool, true, false, List, [], ◌∷◌, ◌++◌, length, Option, Some, None, Ok, refl}
use Rattle.std.proofs.Common.{sym, ap, subst, arith, length-append}
use Rattle.std.specs.Prelude.{⊤}
use Rattle.std.specs.List.{All}
use Rattle.std.proofs.lemmas.List.Elements.{All-nil, All-cons}
use Rattle.amdl_tree.specs.Word.{IsName}
use Rattle.amdl_tree.specs.WellBuilt.{OneOrMore, IsBuiltEnd}
use Rattle.amdl_tree.specs.Spelling.{word, with_commas, spell_of_end}
use Rattle.amdl_tree.specs.GoesOn.{Past, Once, Begins, never}
use Rattle.amdl_tree.specs.declared.token.Token.{Token}
use Rattle.amdl_tree.specs.declared.token.Token.TheVariants.{Word, Number, Sign as Signed}
use Rattle.amdl_tree.specs.declared.token.Sign.TheVariants as signs
use Rattle.amdl_tree.specs.declared.tree.End.{End}
use Rattle.amdl_tree.specs.declared.tree.End.TheVariants.{Host as AtHost, Port as AtPort}
use Rattle.amdl_tree.proofs.EqualityLemmas.{names_decide}
use Rattle.amdl_tree.proofs.OnceLemmas.{once_after}
use Rattle.amdl_parser.specs.Reading.{Answer, refused, is_same, same_sign, heads, rest_of, then_at, made_at, second}
use Rattle.amdl_parser.specs.Reading.{before_at, word_at}
use Rattle.amdl_parser.specs.Grammar.{end_at, list_of}
use Rattle.amdl_parser.proofs.Holds.{Heads, Holds, Reader, Named, past_none, refused_holds, form_holds}
use Rattle.amdl_parser.proofs.Readers.{fixed_spelled, Always, never_goes, names, chain, shaped, recast, before, listing}
use Rattle.amdl_parser.proofs.Readers.{many, maybe, maybe_spelled, maybe_goes, if_holds}
use Rattle.amdl_parser.proofs.Parts.{own_sign, goes_comma, comma_close_bracket, end, end_goes, parts_of}
use Rattle.schedule_text.specs.declared.steps.ScheduleStep.{ScheduleStep}
use Rattle.schedule_text.specs.declared.steps.ScheduleStep.TheVariants.{Send, Deliver, Revert}
use Rattle.schedule_text.specs.Spelled.{send_word, deliver_word, revert_word, figure, spell_of_choices, spell_of_step}
use Rattle.schedule_text.specs.Spelled.{spell_of_steps, IsBuiltStep, AreBuiltSteps}
use Rattle.schedule_text.specs.Readings.{same_name, says, starts_step, said_at, behind_at, number_at, numbers_at}
use Rattle.schedule_text.specs.Readings.{choices_at, send_of, send_at, deliver_of, deliver_at, revert_at, step_at}
use Rattle.schedule_text.specs.Readings.{steps_at}

abbrev T : Type 0
T = List Token

-- a fixed word

own_name : (name : List ℕ) → says name (Word name) ≡ true
unfolding says same_name
own_name name = (names_decide name name).1 refl

says_is : (name : List ℕ) (token : Token) → says name token ≡ true → token ≡ Word name
unfolding says same_name
says_is name (Word other) e = ap Word ((names_decide other name).0 e)
says_is name token e = cc

-- where the next token is this word, it stands at the front
said_front : (name : List ℕ) (ts : T) → heads (says name) ts ≡ true → ts ≡ Word name ∷ rest_of ts
unfolding heads
said_front name [] e = cc
said_front name (other ∷ ts) e = ap (λ t. t ∷ ts) (says_is name other e)

-- where it is not, no list that begins as the tokens do begins with it
not_said : (name : List ℕ) (ts tokens : T) → heads (says name) ts ≡ false → Heads ts (Word name ∷ tokens) → ⊥
unfolding heads
not_said name [] tokens e h = cc
not_said name (other ∷ ts) tokens e h =
    let same : Word name ≡ other = cc in
    let no : says name (Word name) ≡ false = subst (λ o. says name o ≡ false) (sym same) e in
    let yes = own_name name in
    cc

said_once : (name : List ℕ) → Once (fixed_spelled (Word name)) Always never_goes
said_once name = record { once = λ x y a b p q u v e. (refl, cc) }

said_holds : (name : List ℕ) (ts : T) →
    Holds (fixed_spelled (Word name)) Always Always never_goes ts (said_at name ts)
unfolding said_at
said_holds name ts =
    if_holds (fixed_spelled (Word name)) Always Always never_goes ts (heads (says name) ts) (Ok (tt, rest_of ts))
    (refused ts)
    (λ e. record { whole = said_front name ts e; fits = tt; past = past_none (rest_of ts) })
    (λ e. refused_holds ts tt tt (λ x b w u h. not_said name ts b e h))

said : (name : List ℕ) → Reader (fixed_spelled (Word name)) Always Always never_goes (said_at name)
said name =
    record
    { once = said_once name; fits = λ x p. p; least = tt; small = tt; holds = λ ts named. said_holds name ts }

-- a part behind a fixed word
module _ {X : Type 0} {s : X → T} {W F : X → Type 0} {goes : X → Token → Bool} {r : T → Answer X}
    (part : Reader s W F goes r) where
  behind : (name : List ℕ) → Reader (λ x. Word name ∷ s x) W F goes (behind_at name r)
  behind name = record {
    once = once_after part.once (Word name);
    fits = part.fits;
    least = part.least;
    small = part.small;
    holds = λ ts named. form_holds {X = ⊤ × X} {s = λ p. Word name ∷ s p.1} {W = λ p. ⊤ × W p.1} {F = λ p. ⊤
        × F p.1} {goes = λ p. goes p.1} (λ x. Word name ∷ s x) W F goes second (λ x f. (tt, part.fits x.1 f.1))
        (λ x w. refl) (λ x f. f.1) (λ x w. w.1) (λ x b f p. p) ts (then_at (said_at name) r ts) part.fits
        (λ y b w u h. ((tt, y), refl, (tt, w), (λ f. (tt, f)), u))
        ((chain (said name) part (λ x y a p q u. past_none (s y ++ a))).holds ts named);
  }

-- numbers

abbrev AnyNumber : ℕ → Type 0
AnyNumber n = ⊤

number_holds : (ts : T) → Holds figure AnyNumber AnyNumber never_goes ts (number_at ts)
unfolding number_at
number_holds [] = refused_holds [] 0 tt (λ x b w u h. cc)
number_holds (Number n ∷ rest) = record { whole = refl; fits = tt; past = past_none rest }
number_holds (token ∷ rest) = refused_holds (token ∷ rest) 0 tt (λ x b w u h. cc)

number : Reader figure AnyNumber AnyNumber never_goes number_at
number = record {
  once = record { once = λ x y a b p q u v e. (cc, cc) };
  fits = λ x p. p;
  least = 0;
  small = tt;
  holds = λ ts named. number_holds ts;
}

numbers : Reader (with_commas figure) (OneOrMore AnyNumber) (OneOrMore AnyNumber) (λ xs. goes_comma) numbers_at
unfolding numbers_at
numbers = listing number (Signed signs.Comma) (own_sign signs.Comma) refl

-- choices

abbrev bracketed : List ℕ → T
bracketed xs = with_commas figure xs ++ Signed signs.CloseBracket ∷ []

in_brackets : Reader bracketed (OneOrMore AnyNumber) (OneOrMore AnyNumber) never_goes
    (before_at numbers_at (Signed signs.CloseBracket))
in_brackets = before numbers (Signed signs.CloseBracket) (own_sign signs.CloseBracket) (λ xs w. comma_close_bracket)

abbrev SomeIn : Option (List ℕ) → Type 0
SomeIn None = ⊤
SomeIn (Some xs) = OneOrMore AnyNumber xs

choices_there : (x : Option (List ℕ)) → SomeIn x → parts_of (list_of x) ≡ x
choices_there None w = refl
choices_there (Some []) w = absurd (w.0 refl)
choices_there (Some (x ∷ xs)) w = refl

choices_again : (xs : List ℕ) → list_of (parts_of xs) ≡ xs
choices_again [] = refl
choices_again (x ∷ xs) = refl

choices_alike : (xs : List ℕ) →
    spell_of_choices xs
    ≡ maybe_spelled in_brackets (Signed signs.OpenBracket) (own_sign signs.OpenBracket) (parts_of xs)
choices_alike [] = refl
choices_alike (x ∷ xs) = refl

all_numbers : (xs : List ℕ) → All AnyNumber xs
all_numbers [] = All-nil AnyNumber
all_numbers (x ∷ xs) = All-cons AnyNumber x xs tt (all_numbers xs)

abbrev AnyNumbers : List ℕ → Type 0
AnyNumbers xs = ⊤

some_choices : (xs : List ℕ) → AnyNumbers xs → SomeIn (parts_of xs)
some_choices [] u = tt
some_choices (x ∷ xs) u = ((λ e. cc), all_numbers (x ∷ xs))

abbrev choices_goes : List ℕ → Token → Bool
choices_goes xs = maybe_goes in_brackets (Signed signs.OpenBracket) (own_sign signs.OpenBracket) (parts_of xs)

choices : Reader spell_of_choices AnyNumbers AnyNumbers choices_goes choices_at
unfolding choices_at
choices =
    recast
    (shaped (maybe in_brackets (Signed signs.OpenBracket) (own_sign signs.OpenBracket)) list_of parts_of
    choices_there choices_again spell_of_choices choices_alike)
    (λ xs w. tt) some_choices (λ xs w. tt) some_choices

bracket_semicolon : is_same (Signed signs.OpenBracket) (Signed signs.Semicolon) ≡ false
unfolding is_same same_sign
bracket_semicolon = refl

choices_stop : (xs : List ℕ) → choices_goes xs (Signed signs.Semicolon) ≡ false
choices_stop [] = bracket_semicolon
choices_stop (x ∷ xs) = refl

-- steps

point_number : (n : ℕ) → is_same (Signed signs.Point) (Number n) ≡ false
unfolding is_same
point_number n = refl

end_number : (end : End) (n : ℕ) → end_goes end (Number n) ≡ false
end_number (AtHost host) n = point_number n
end_number (AtPort box port) n = refl

-- how many bytes the first word has
abbrev first_size : T → ℕ
first_size (Word name ∷ tokens) = length name
first_size tokens = 0

send_parts : Reader {X = List ℕ × ℕ} (λ p. Word send_word ∷ (word p.0 ++ (figure p.1 ++ Signed signs.Semicolon ∷ [])))
    (λ p. IsName p.0 × AnyNumber p.1) (λ p. IsName p.0 × AnyNumber p.1) never_goes
    (behind_at send_word (then_at word_at (before_at number_at (Signed signs.Semicolon))))
send_parts =
    behind
    (chain names (before number (Signed signs.Semicolon) (own_sign signs.Semicolon) (λ x w. refl))
    (λ x y a p q u. refl))
    send_word

abbrev DeliverParts : Type 0
DeliverParts = End × (ℕ × List ℕ)

abbrev AreDeliverParts : DeliverParts → Type 0
AreDeliverParts p = IsBuiltEnd p.0 × (AnyNumber p.1.0 × AnyNumbers p.1.1)

deliver_parts : Reader {X = DeliverParts}
    (λ p. Word deliver_word
    ∷ (spell_of_end p.0 ++ (figure p.1.0 ++ (spell_of_choices p.1.1 ++ Signed signs.Semicolon ∷ []))))
    AreDeliverParts AreDeliverParts never_goes
    (behind_at deliver_word (then_at end_at (then_at number_at (before_at choices_at (Signed signs.Semicolon)))))
deliver_parts =
    behind
    (chain end
    (chain number
    (before choices (Signed signs.Semicolon) (own_sign signs.Semicolon) (λ x w. choices_stop x))
    (λ x y a p q u. past_none ((spell_of_choices y ++ Signed signs.Semicolon ∷ []) ++ a)))
    (λ x y a p q u. end_number x y.0)) deliver_word

revert_parts : Reader (λ name. Word revert_word ∷ (word name ++ Signed signs.Semicolon ∷ [])) IsName IsName never_goes
    (behind_at revert_word (before_at word_at (Signed signs.Semicolon)))
revert_parts =
    behind (before names (Signed signs.Semicolon) (own_sign signs.Semicolon) (λ x w. refl)) revert_word

-- each step is spelled in one way
step_split : (x y : ScheduleStep) (a b : T) → IsBuiltStep x → IsBuiltStep y → Past never a → Past never b →
    spell_of_step x ++ a ≡ spell_of_step y ++ b → (x ≡ y) × (a ≡ b)
step_split (Send h n) (Send k m) a b p q u v e =
    let split = send_parts.once.once (h, n) (k, m) a b (p, tt) (q, tt) u v e in (ap send_of split.0, split.1)
step_split (Deliver d n xs) (Deliver f m ys) a b p q u v e =
    let split = deliver_parts.once.once (d, (n, xs)) (f, (m, ys)) a b (p, (tt, tt)) (q, (tt, tt)) u v e in
    (ap deliver_of split.0, split.1)
step_split (Revert h) (Revert k) a b p q u v e =
    let split = revert_parts.once.once h k a b p q u v e in (ap Revert split.0, split.1)
step_split x y a b p q u v e = absurd (omega (arith, ap first_size e))

step_once : Once spell_of_step IsBuiltStep never_goes
step_once = record { once = step_split }

step_first : (x : ScheduleStep) →
    (token : Token) × (tokens : T) × (spell_of_step x ≡ token ∷ tokens) × (starts_step token ≡ true)
unfolding starts_step says same_name
step_first (Send host packet) = (_, _, refl, refl)
step_first (Deliver _ _ _) = (_, _, refl, refl)
step_first (Revert box) = (_, _, refl, refl)

step_begins : Begins spell_of_step IsBuiltStep starts_step
step_begins = record { begins = λ x p. step_first x }

-- one form of steps, shown by its first word
module _ {X : Type 0} {s : X → T} {W : X → Type 0} {r : T → Answer X} (part : Reader s W W never_goes r)
    (made : X → ScheduleStep) (same : (x : X) → spell_of_step (made x) ≡ s x) (built : (x : X) → W x → IsBuiltStep
    (made x))
    (name : List ℕ)
    (only : (tokens : T) (y : ScheduleStep) (b : T) → IsBuiltStep y → Heads (Word name ∷ tokens)
    (spell_of_step y ++ b) →
    (x : X) × (y ≡ made x) × W x × (IsBuiltStep y → W x)) where
  form_only : (ts tokens : T) → ts ≡ Word name ∷ tokens → (y : ScheduleStep) (b : T) → IsBuiltStep y → Past never b →
      Heads ts (spell_of_step y ++ b) → (x : X) × (y ≡ made x) × W x × (IsBuiltStep y → W x) × Past never b
  form_only ts tokens e y b v u h =
      let o = only tokens y b v (subst (λ l. Heads l (spell_of_step y ++ b)) e h) in
      (o.0, o.1, o.2, o.3, u)

  form : (ts : T) → Named ts → heads (says name) ts ≡ true →
      Holds spell_of_step IsBuiltStep IsBuiltStep never_goes ts (made_at made r ts)
  form ts named e =
      form_holds {goes = never_goes} spell_of_step IsBuiltStep IsBuiltStep never_goes made part.fits
      (λ x w. same x) built
      built (λ x b f p. p) ts (r ts) (λ y f. f) (form_only ts (rest_of ts) (said_front name ts e)) (part.holds ts named)

send_only : (tokens : T) (y : ScheduleStep) (b : T) → IsBuiltStep y →
    Heads (Word send_word ∷ tokens) (spell_of_step y ++ b) →
    (x : List ℕ × ℕ) × (y ≡ send_of x) × (IsName x.0 × AnyNumber x.1) × (IsBuiltStep y → IsName x.0 × AnyNumber x.1)
send_only tokens (Send host packet) b w h = ((host, packet), refl, (w, tt), (λ f. (f, tt)))
send_only tokens y b w h = absurd (omega (arith, ap first_size h.1))

send_holds : (ts : T) → Named ts → heads (says send_word) ts ≡ true →
    Holds spell_of_step IsBuiltStep IsBuiltStep never_goes ts (send_at ts)
unfolding send_at
send_holds = form send_parts send_of (λ x. refl) (λ x w. w.0) send_word send_only

deliver_only : (tokens : T) (y : ScheduleStep) (b : T) → IsBuiltStep y →
    Heads (Word deliver_word ∷ tokens) (spell_of_step y ++ b) →
    (x : DeliverParts) × (y ≡ deliver_of x) × AreDeliverParts x × (IsBuiltStep y → AreDeliverParts x)
deliver_only tokens (Deliver d n xs) b w h = ((d, (n, xs)), refl, (w, (tt, tt)), (λ f. (f, (tt, tt))))
deliver_only tokens y b w h = absurd (omega (arith, ap first_size h.1))

deliver_holds : (ts : T) → Named ts → heads (says deliver_word) ts ≡ true →
    Holds spell_of_step IsBuiltStep IsBuiltStep never_goes ts (deliver_at ts)
unfolding deliver_at
deliver_holds = form deliver_parts deliver_of (λ x. refl) (λ x w. w.0) deliver_word deliver_only

revert_only : (tokens : T) (y : ScheduleStep) (b : T) → IsBuiltStep y →
    Heads (Word revert_word ∷ tokens) (spell_of_step y ++ b) →
    (x : List ℕ) × (y ≡ Revert x) × IsName x × (IsBuiltStep y → IsName x)
revert_only tokens (Revert box) b w h = (box, refl, w, (λ f. f))
revert_only tokens y b w h = absurd (omega (arith, ap first_size h.1))

revert_holds : (ts : T) → Named ts → heads (says revert_word) ts ≡ true →
    Holds spell_of_step IsBuiltStep IsBuiltStep never_goes ts (revert_at ts)
unfolding revert_at
revert_holds = form revert_parts Revert (λ x. refl) (λ x w. w) revert_word revert_only

no_step : (ts : T) → heads (says send_word) ts ≡ false → heads (says deliver_word) ts ≡ false →
    heads (says revert_word) ts ≡ false → (y : ScheduleStep) (b : T) → Heads ts (spell_of_step y ++ b) → ⊥
no_step ts s d r (Send host packet) b h = not_said send_word ts _ s h
no_step ts s d r (Deliver _ _ _) b h = not_said deliver_word ts _ d h
no_step ts s d r (Revert box) b h = not_said revert_word ts _ r h

step_holds : (ts : T) → Named ts → Holds spell_of_step IsBuiltStep IsBuiltStep never_goes ts (step_at ts)
unfolding step_at
step_holds ts named =
    if_holds spell_of_step IsBuiltStep IsBuiltStep never_goes ts (heads (says send_word) ts) _ _
    (send_holds ts named) (λ s.
    if_holds spell_of_step IsBuiltStep IsBuiltStep never_goes ts (heads (says deliver_word) ts) _ _
    (deliver_holds ts named) (λ d.
    if_holds spell_of_step IsBuiltStep IsBuiltStep never_goes ts (heads (says revert_word) ts) _ _
    (revert_holds ts named) (λ r.
    refused_holds ts (Revert names.least) names.small (λ y b w u h. no_step ts s d r y b h))))

step : Reader spell_of_step IsBuiltStep IsBuiltStep never_goes step_at
step = record { once = step_once; fits = λ x f. f; least = Revert names.least; small = names.small; holds = step_holds }

pub steps : Reader spell_of_steps AreBuiltSteps AreBuiltSteps (λ xs. starts_step) steps_at
unfolding steps_at
steps = many step starts_step step_begins

-- a step has at least one token
step_some : (x : ScheduleStep) → 1 ≤ length (spell_of_step x)
step_some x = let first = step_first x in subst (λ l. 1 ≤ length l) (sym first.2) (omega arith)

pub no_more_steps : (xs : List ScheduleStep) → length xs ≤ length (spell_of_steps xs)
no_more_steps [] = omega arith
no_more_steps (x ∷ xs) =
    omega (arith, step_some x, no_more_steps xs, length-append (spell_of_step x) (spell_of_steps xs))
