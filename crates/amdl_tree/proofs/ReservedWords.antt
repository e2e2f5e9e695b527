-- Reserved words by their length.
use Rattle.std.proofs.Common.{◌≡◌, ◌≢◌, ℕ, List, [], ◌∷◌, length, refl, sym, ◌∙◌, lit<, ap, Option, Some, None}
use Rattle.std.proofs.Common.{MatchOption, All, arith}
use Rattle.std.specs.List.{Contains, find}
use Rattle.std.specs.Str.{bytes_eq}
use Rattle.std.proofs.lemmas.List.Elements.{All-contains}
use Rattle.amdl_tree.specs.Word.{spelling_of_reserved}
use Rattle.amdl_tree.specs.declared.reserved.Reserved.{Reserved}
use Rattle.amdl_tree.specs.declared.reserved.Reserved.TheVariants.{Network, Kind, Field, Middlebox, Port, Relation, On}
use Rattle.amdl_tree.specs.declared.reserved.Reserved.TheVariants.{Host, Box, With, Link, Sends, Forbid, Insert, Remove}
use Rattle.amdl_tree.specs.declared.reserved.Reserved.TheVariants.{Output, Abort, If, Fi, Pick, In, Has, Not, And, Or}
use Rattle.amdl_tree.specs.declared.reserved.Reserved.TheVariants.{True, Add, Drop, Swap, Verdict, Invariant}

-- a word of four bytes is one of these nine
pub of_four : (word : Reserved) → length (spelling_of_reserved word) ≡ 4 →
    Contains (Kind ∷ Port ∷ Host ∷ With ∷ Link ∷ Pick ∷ True ∷ Drop ∷ Swap ∷ []) word
of_four Kind e = (0, lit< tt, refl)
of_four Port e = (1, lit< tt, refl)
of_four Host e = (2, lit< tt, refl)
of_four With e = (3, lit< tt, refl)
of_four Link e = (4, lit< tt, refl)
of_four Pick e = (5, lit< tt, refl)
of_four True e = (6, lit< tt, refl)
of_four Drop e = (7, lit< tt, refl)
of_four Swap e = (8, lit< tt, refl)
of_four word e = absurd (omega (arith, e))

-- where no word of the length of these bytes is spelled so, none is
pub none_of_them : (r : Option Reserved) (bytes : List ℕ) (words : List Reserved) (Q : Reserved → Type 0) →
    ((word : Reserved) → length (spelling_of_reserved word) ≡ length bytes → Contains words word) →
    MatchOption r (All (λ word. bytes ≢ spelling_of_reserved word) words) Q →
    MatchOption r ((word : Reserved) → bytes ≢ spelling_of_reserved word) Q
none_of_them None bytes words Q listed all =
    λ word e. All-contains (λ other. bytes ≢ spelling_of_reserved other) words word all
    (listed word (ap length (sym e))) e
none_of_them (Some word) bytes words Q listed found = found

-- all of them
abbrev pub table : List Reserved
table = Network ∷ Kind ∷ Field ∷ Middlebox ∷ Port ∷ Relation ∷ On ∷ Host ∷ Box ∷ With ∷ Link ∷ Sends ∷ Forbid ∷ Insert
    ∷ Remove ∷ Output ∷ Abort ∷ If ∷ Fi ∷ Pick ∷ In ∷ Has ∷ Not ∷ And ∷ Or ∷ True ∷ Add ∷ Drop ∷ Swap ∷ Verdict
    ∷ Invariant ∷ []

abbrev pub word_of : List ℕ → Option Reserved
word_of bytes = find (λ word. bytes_eq bytes (spelling_of_reserved word)) table

pub word_of-spelling : (word : Reserved) → word_of (spelling_of_reserved word) ≡ Some word
word_of-spelling Network = refl
word_of-spelling Kind = refl
word_of-spelling Field = refl
word_of-spelling Middlebox = refl
word_of-spelling Port = refl
word_of-spelling Relation = refl
word_of-spelling On = refl
word_of-spelling Host = refl
word_of-spelling Box = refl
word_of-spelling With = refl
word_of-spelling Link = refl
word_of-spelling Sends = refl
word_of-spelling Forbid = refl
word_of-spelling Insert = refl
word_of-spelling Remove = refl
word_of-spelling Output = refl
word_of-spelling Abort = refl
word_of-spelling If = refl
word_of-spelling Fi = refl
word_of-spelling Pick = refl
word_of-spelling In = refl
word_of-spelling Has = refl
word_of-spelling Not = refl
word_of-spelling And = refl
word_of-spelling Or = refl
word_of-spelling True = refl
word_of-spelling Add = refl
word_of-spelling Drop = refl
word_of-spelling Swap = refl
word_of-spelling Verdict = refl
word_of-spelling Invariant = refl

-- two reserved words of one spelling are one
pub reserved_alike : (word other : Reserved) → spelling_of_reserved word ≡ spelling_of_reserved other → word ≡ other
reserved_alike word other e =
    let same : Some word ≡ Some other = sym (word_of-spelling word) ∙ ap word_of e ∙ word_of-spelling other in
    cc
