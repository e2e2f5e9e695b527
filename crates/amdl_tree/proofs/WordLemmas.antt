-- Words and the text that they stand in.
use Rattle.std.proofs.Common.{◌≡◌, ◌≢◌, ℕ, true, false, List, [], ◌∷◌, ◌++◌, refl}
use Rattle.std.specs.List.{list_all, Contains}
use Rattle.std.proofs.lemmas.Bool.{and_parts}
use Rattle.std.proofs.lemmas.List.Elements.{All-contains}
use Rattle.std.proofs.lemmas.List.Sums.{AllPass-from_list_all}
use Rattle.amdl_tree.specs.Word.{IsName, IsWord, EndsWord, starts_word, goes_on_with_word}

pub start_goes_on : (byte : ℕ) → starts_word byte ≡ true → goes_on_with_word byte ≡ true
start_goes_on byte starts = rw starts refl

-- each byte of a word goes on with a word
pub word-goes_on : (word : List ℕ) → IsWord word → list_all goes_on_with_word word ≡ true
word-goes_on [] is = absurd is
word-goes_on (byte ∷ bytes) is = rw (start_goes_on byte is.0) is.1

pub word-not_empty : (word : List ℕ) → IsWord word → word ≢ []
word-not_empty [] is = absurd is
word-not_empty (byte ∷ bytes) is = λ e. cc

-- a byte that does not go on with a word stands in none
pub word-no_byte : (word : List ℕ) (byte : ℕ) → IsWord word → goes_on_with_word byte ≡ false → ¬ Contains word byte
word-no_byte word byte is stops stands =
    let goes : goes_on_with_word byte ≡ true =
    All-contains (λ b. goes_on_with_word b ≡ true) word byte
    (AllPass-from_list_all goes_on_with_word word (word-goes_on word is)) stands in
    cc

pub name-no_byte : (name : List ℕ) (byte : ℕ) → IsName name → goes_on_with_word byte ≡ false → ¬ Contains name byte
name-no_byte name byte is = word-no_byte name byte is.word

-- the text behind a word does not begin within it
goes_on_split : (n m a b : List ℕ) → list_all goes_on_with_word n ≡ true → list_all goes_on_with_word m ≡ true →
    EndsWord a → EndsWord b → n ++ a ≡ m ++ b → (n ≡ m) × (a ≡ b)
goes_on_split [] [] a b p q s t e = (refl, e)
goes_on_split [] (y ∷ m) [] b p q s t e = absurd (cc)
goes_on_split [] (y ∷ m) (x ∷ a) b p q s t e =
    let goes = and_parts (goes_on_with_word y) (list_all goes_on_with_word m) q in
    absurd (cc)
goes_on_split (x ∷ n) [] a [] p q s t e = absurd (cc)
goes_on_split (x ∷ n) [] a (y ∷ b) p q s t e =
    let goes = and_parts (goes_on_with_word x) (list_all goes_on_with_word n) p in
    absurd (cc)
goes_on_split (x ∷ n) (y ∷ m) a b p q s t e =
    let here = and_parts (goes_on_with_word x) (list_all goes_on_with_word n) p in
    let there = and_parts (goes_on_with_word y) (list_all goes_on_with_word m) q in
    let tail : n ++ a ≡ m ++ b = cc in
    let rest = goes_on_split n m a b here.1 there.1 s t tail in
    (cc, rest.1)

pub words_split : (n m a b : List ℕ) → IsWord n → IsWord m → EndsWord a → EndsWord b → n ++ a ≡ m ++ b →
    (n ≡ m) × (a ≡ b)
words_split n m a b p q = goes_on_split n m a b (word-goes_on n p) (word-goes_on m q)
