-- Reading a value from the front of a token list, and how readings are put together.
use Rattle.std.specs.Prelude.{◌≡◌, ◌-◌, ℕ, zero, suc, Bool, false, List, [], ◌∷◌, length, Option, Some, None, Result}
use Rattle.std.specs.Prelude.{Ok, Err, ⊤, if◌then◌else◌}
use denote.Enum.Bare.{sameb}
use Rattle.amdl_tree.specs.contracts.token.Sign.{the_type as the_signs}
use Rattle.amdl_tree.specs.contracts.reserved.Reserved.{the_type as the_words}
use Rattle.amdl_tree.specs.declared.token.Lexed.{Lexed}
use Rattle.amdl_tree.specs.declared.token.Sign.{Sign}
use Rattle.amdl_tree.specs.declared.reserved.Reserved.{Reserved}
use Rattle.amdl_tree.specs.declared.token.Token.{Token}
use Rattle.amdl_tree.specs.declared.token.Token.TheVariants.{Word, Key, Sign as Signed}
pub use Rattle.amdl_parser.specs.Answer.{token_of, tokens_of, IsNamed}
use Rattle.amdl_parser.specs.declared.refusal.SyntaxRefusal.{SyntaxRefusal}
use Rattle.amdl_parser.specs.declared.refusal.SyntaxRefusal.TheVariants as Refusal
use Rattle.amdl_parser.specs.declared.fault.Fault.{Fault}
use Rattle.amdl_parser.specs.declared.fault.Fault.TheVariants.{Syntax, Deep, NoMemory}

-- `==` on signs and on reserved words
unfoldable pub same_sign : Sign → Sign → Bool
same_sign = sameb the_signs

unfoldable pub same_key : Reserved → Reserved → Bool
same_key = sameb the_words

-- `==` on signs and reserved words among tokens
unfoldable pub is_same : Token → Token → Bool
is_same (Signed sign) (Signed other) = same_sign other sign
is_same (Key word) (Key other) = same_key other word
is_same token other = false

-- what was read and the tokens behind it, or a fault
abbrev pub Answer : Type 0 → Type 0
Answer A = Result (A × List Token) Fault

abbrev pub read : {A : Type 0} → A → List Token → Answer A
read value rest = Ok (value, rest)

abbrev pub read_pair : {A B : Type 0} → A → B → List Token → Answer (A × B)
read_pair one two rest = Ok ((one, two), rest)

abbrev pub read_more : {A : Type 0} → A → List A → List Token → Answer (List A)
read_more part parts rest = Ok (part ∷ parts, rest)

-- no value goes on with the next token
abbrev pub refused : {A : Type 0} → List Token → Answer A
refused tokens = Err (Syntax (length tokens))

-- only values that are too deep go on with the next token
abbrev pub too_deep : {A : Type 0} → List Token → Answer A
too_deep tokens = Err (Deep (length tokens))

-- what comes next, where something was read
abbrev pub go_on : {A B : Type 0} → (A → List Token → Answer B) → Answer A → Answer B
go_on next (Ok found) = next found.0 found.1
go_on next (Err fault) = Err fault

-- the code's result, and the tokens that are left, are the answer of a reading of the tokens, unless memory was wanting
abbrev pub Reads : {A : Type 0} → (List Token → Answer A) → List Lexed → List Lexed → Result A Fault → Type 0
Reads part before after (Ok value) = part (tokens_of before) ≡ Ok (value, tokens_of after)
Reads part before after (Err (Syntax left)) = part (tokens_of before) ≡ Err (Syntax left)
Reads part before after (Err (Deep left)) = part (tokens_of before) ≡ Err (Deep left)
Reads part before after (Err NoMemory) = ⊤

-- the first token is of a kind
unfoldable pub heads : (Token → Bool) → List Token → Bool
heads test [] = false
heads test (token ∷ tokens) = test token

abbrev pub begins : Token → List Token → Bool
begins token = heads (is_same token)

abbrev pub rest_of : List Token → List Token
rest_of [] = []
rest_of (token ∷ tokens) = tokens

-- a name
unfoldable pub word_at : List Token → Answer (List ℕ)
word_at [] = refused []
word_at (Word name ∷ rest) = Ok (name, rest)
word_at (token ∷ rest) = refused (token ∷ rest)

-- this token
unfoldable pub fixed_at : Token → List Token → Answer ⊤
fixed_at token tokens = if begins token tokens then Ok (tt, rest_of tokens) else refused tokens

-- one and then another
abbrev pub then_at : {A B : Type 0} → (List Token → Answer A) → (List Token → Answer B) → List Token → Answer (A × B)
then_at one two tokens = go_on (λ value rest. go_on (read_pair value) (two rest)) (one tokens)

-- the same in another form
abbrev pub made_at : {A B : Type 0} → (A → B) → (List Token → Answer A) → List Token → Answer B
made_at made part tokens = go_on (λ value. read (made value)) (part tokens)

abbrev pub second : {A : Type 0} → ⊤ × A → A
second pair = pair.1

abbrev pub first : {A : Type 0} → A × ⊤ → A
first pair = pair.0

-- behind this token
abbrev pub after_at : {A : Type 0} → Token → (List Token → Answer A) → List Token → Answer A
after_at token part = made_at second (then_at (fixed_at token) part)

-- in front of this token
abbrev pub before_at : {A : Type 0} → (List Token → Answer A) → Token → List Token → Answer A
before_at part token = made_at first (then_at part (fixed_at token))

abbrev pub joined : {A : Type 0} → A × List A → List A
joined pair = pair.0 ∷ pair.1

-- parts that each stand behind this token, at most so many
unfoldable pub others_at : {A : Type 0} → Token → (List Token → Answer A) → ℕ → List Token → Answer (List A)
others_at token part zero tokens = Ok ([], tokens)
others_at token part (suc n) tokens =
    if begins token tokens then made_at joined (then_at (after_at token part) (others_at token part n)) tokens else Ok
    ([], tokens)

abbrev pub all_others_at : {A : Type 0} → Token → (List Token → Answer A) → List Token → Answer (List A)
all_others_at token part tokens = others_at token part (length tokens) tokens

-- one or more parts with this token between
abbrev pub listed_at : {A : Type 0} → Token → (List Token → Answer A) → List Token → Answer (List A)
listed_at token part = made_at joined (then_at part (all_others_at token part))

-- a part behind this token, or nothing where another token comes next
unfoldable pub maybe_at : {A : Type 0} → Token → (List Token → Answer A) → List Token → Answer (Option A)
maybe_at token part tokens =
    if begins token tokens then made_at Some (after_at token part) tokens else Ok (None, tokens)

-- parts while the next token is of a kind, at most so many
unfoldable pub many_at : {A : Type 0} → (Token → Bool) → (List Token → Answer A) → ℕ → List Token → Answer (List A)
many_at starts part zero tokens = Ok ([], tokens)
many_at starts part (suc n) tokens =
    if heads starts tokens then made_at joined (then_at part (many_at starts part n)) tokens else Ok ([], tokens)

abbrev pub all_at : {A : Type 0} → (Token → Bool) → (List Token → Answer A) → List Token → Answer (List A)
all_at starts part tokens = many_at starts part (length tokens) tokens

-- a value that is read and these tokens behind it, of so many tokens in all
abbrev pub ended : {A : Type 0} → ℕ → A → List Token → Result A SyntaxRefusal
ended count value [] = Ok value
ended count value (token ∷ rest) = Err (Refusal.Syntax (count - length (token ∷ rest)))

-- a reading of the whole list, of so many tokens, with the number of tokens in front of a fault
abbrev pub answer_of : {A : Type 0} → ℕ → Answer A → Result A SyntaxRefusal
answer_of count (Ok found) = ended count found.0 found.1
answer_of count (Err (Syntax left)) = Err (Refusal.Syntax (count - left))
answer_of count (Err (Deep left)) = Err (Refusal.Deep (count - left))
answer_of count (Err NoMemory) = Err Refusal.NoMemory

-- the result is this answer, unless memory was wanting
abbrev pub IsUnlessMemory : {A : Type 0} → Result A SyntaxRefusal → Result A SyntaxRefusal → Type 0
IsUnlessMemory answer (Err Refusal.NoMemory) = ⊤
IsUnlessMemory answer result = answer ≡ result
