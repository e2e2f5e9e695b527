-- The sign at the front, from the signs of two bytes and of one.
use Rattle.std.proofs.Common.{◌≡◌, ◌≢◌, ◌≤◌, ◌<◌, ℕ, List, [], ◌∷◌, ◌++◌, length, take, drop, get_or, refl, sym, ap}
use Rattle.std.proofs.Common.{◌∙◌, arith, inl, inr, ◌⊎◌, Option, Some, None, MatchOption}
use Rattle.std.proofs.lemmas.List.{take_at, drop_at, length-append}
use Rattle.amdl_tree.specs.Token.{spelling_of_sign}
use Rattle.amdl_tree.specs.declared.token.Sign.{Sign}
use Rattle.amdl_tree.specs.declared.token.Token.TheVariants.{Sign as Signed}
use Rattle.amdl_tree.proofs.LexemeLemmas.{sign_some, sign_short, sign_longest}
use Rattle.amdl_lexer.specs.Sign.{StartsNoSign, IsLongestSign}
use Rattle.amdl_lexer.specs.Front.{IsFront}
use Rattle.amdl_lexer.specs.declared.front.Front.TheVariants.{Good}

-- a front of one or two bytes
front_of_two : (s behind : List ℕ) (a b : ℕ) (bytes : List ℕ) → 0 < length s → length s ≤ 2 →
    a ∷ b ∷ bytes ≡ s ++ behind → (s ≡ a ∷ []) ⊎ (s ≡ a ∷ b ∷ [])
front_of_two [] behind a b bytes some short e = absurd (omega arith)
front_of_two (x ∷ []) behind a b bytes some short e = inl (cc)
front_of_two (x ∷ y ∷ []) behind a b bytes some short e = inr (cc)
front_of_two (x ∷ y ∷ z ∷ s) behind a b bytes some short e = absurd (omega arith)

front_of_one : (s behind : List ℕ) (a : ℕ) → 0 < length s → a ∷ [] ≡ s ++ behind → s ≡ a ∷ []
front_of_one [] behind a some e = absurd (omega arith)
front_of_one (x ∷ []) behind a some e = cc
front_of_one (x ∷ y ∷ s) behind a some e = absurd (cc)

-- the text begins with two bytes that are a sign
two_at : (a b : ℕ) (bytes : List ℕ) (sign : Sign) → spelling_of_sign sign ≡ a ∷ b ∷ [] →
    IsLongestSign (a ∷ b ∷ bytes) sign
two_at a b bytes sign e = record {
  rest = bytes;
  whole = rw e refl;
  longest = λ other behind s. omega (arith, sign_short other, ap length e);
}

-- it does not, and its first byte may be one
one_at : (a b : ℕ) (bytes : List ℕ) (found : Option Sign) → ((sign : Sign) → spelling_of_sign sign ≢ a ∷ b ∷ []) →
    MatchOption found ((sign : Sign) → spelling_of_sign sign ≢ a ∷ []) (λ sign. spelling_of_sign sign ≡ a ∷ []) →
    MatchOption found (StartsNoSign (a ∷ b ∷ bytes)) (IsLongestSign (a ∷ b ∷ bytes))
one_at a b bytes None two one =
    λ sign rest e. elim (front_of_two (spelling_of_sign sign) rest a b bytes (sign_some sign) (sign_short sign) e) [
      | inl s ↦ one sign s
      | inr s ↦ two sign s
    ]
one_at a b bytes (Some sign) two one = record {
  rest = b ∷ bytes;
  whole = rw one refl;
  longest =
      λ other behind e. elim
      (front_of_two (spelling_of_sign other) behind a b bytes (sign_some other) (sign_short other) e) [
        | inl s ↦ omega (arith, ap length s, ap length one)
        | inr s ↦ absurd (two other s)
      ];
}

-- one byte is all that is left
last_at : (a : ℕ) (found : Option Sign) →
    MatchOption found ((sign : Sign) → spelling_of_sign sign ≢ a ∷ []) (λ sign. spelling_of_sign sign ≡ a ∷ []) →
    MatchOption found (StartsNoSign (a ∷ [])) (IsLongestSign (a ∷ []))
last_at a None one = λ sign rest e. one sign (front_of_one (spelling_of_sign sign) rest a (sign_some sign) e)
last_at a (Some sign) one = record {
  rest = [];
  whole = rw one refl;
  longest =
      λ other behind e. omega
      (arith, ap length (front_of_one (spelling_of_sign other) behind a (sign_some other) e), ap length one);
}

-- the same of a text whose bytes are read
pub two_front : (text : List ℕ) (sign : Sign) → 2 ≤ length text →
    spelling_of_sign sign ≡ get_or text 0 0 ∷ get_or text 1 0 ∷ [] → IsLongestSign text sign
two_front [] sign two e = absurd (omega arith)
two_front (a ∷ []) sign two e = absurd (omega arith)
two_front (a ∷ b ∷ bytes) sign two e = two_at a b bytes sign e

pub one_front : (text : List ℕ) (found : Option Sign) → 2 ≤ length text →
    ((sign : Sign) → spelling_of_sign sign ≢ get_or text 0 0 ∷ get_or text 1 0 ∷ []) →
    MatchOption found ((sign : Sign) → spelling_of_sign sign ≢ get_or text 0 0 ∷ [])
    (λ sign. spelling_of_sign sign ≡ get_or text 0 0 ∷ []) → MatchOption found (StartsNoSign text) (IsLongestSign text)
one_front [] found some two one = absurd (omega arith)
one_front (a ∷ []) found some two one = absurd (omega arith)
one_front (a ∷ b ∷ bytes) found some two one = one_at a b bytes found two one

pub last_front : (text : List ℕ) (found : Option Sign) → length text ≡ 1 →
    MatchOption found ((sign : Sign) → spelling_of_sign sign ≢ get_or text 0 0 ∷ [])
    (λ sign. spelling_of_sign sign ≡ get_or text 0 0 ∷ []) → MatchOption found (StartsNoSign text) (IsLongestSign text)
last_front [] found size one = absurd (omega arith)
last_front (a ∷ []) found size one = last_at a found one
last_front (a ∷ b ∷ bytes) found size one = absurd (omega arith)

-- the sign is a token
pub sign_front : (text : List ℕ) (sign : Sign) (size : ℕ) → IsLongestSign text sign →
    size ≡ length (spelling_of_sign sign) → IsFront text (Good (Signed sign) size)
sign_front text sign size here n =
    let front : take size text ≡ spelling_of_sign sign =
    ap (take size) here.whole ∙ take_at (spelling_of_sign sign) here.rest size (sym n) in
    let rest : drop size text ≡ here.rest =
    ap (drop size) here.whole ∙ drop_at (spelling_of_sign sign) here.rest size (sym n) in (
      record {
        some = omega (arith, sign_some sign);
        within = omega (arith, ap length here.whole, length-append (spelling_of_sign sign) here.rest);
      },
      front,
      rw (front, rest) (sign_longest sign here.rest (λ other behind e. here.longest other behind (here.whole ∙ e))),
    )
