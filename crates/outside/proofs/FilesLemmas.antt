-- A front of a file or of a piece, cut after some bytes.
use Rattle.std.proofs.Common.{◌≡◌, ◌≢◌, ℕ, Bool, true, false, cond, eqb, List, ◌++◌, take, drop, Some, inr, refl, sym}
use Rattle.std.proofs.Common.{ap, ◌∙◌}
use Rattle.std.specs.Cmp.Lexicographic.{pointwise, texts_ties, nat_list_cmp_total, bytes_decides}
use Rattle.std.specs.FinMap.{get-insert}
use Rattle.std.proofs.lemmas.List.{take-append-drop}
use Rattle.outside.specs.Files.{FileMap, file_of, bytes_of, with_file, IsFront, HasPartly, StoresFront}
use Rattle.outside.specs.Sink.{AppendsFront}

-- the first `kept` items are a front
pub IsFront-take : (kept : ℕ) (bytes : List ℕ) → IsFront (take kept bytes) bytes
IsFront-take kept bytes = (drop kept bytes, sym (take-append-drop kept bytes))

Some-injective : {A : Type 0} {x y : A} → Some x ≡ Some y → x ≡ y
Some-injective e = cc

-- a load that kept some bytes of a told file
pub HasPartly-take : (files : FileMap) (name : List ℕ) (limit kept : ℕ) (before after : List ℕ) →
    after ≡ before ++ take kept (bytes_of files name) → HasPartly (Some files) name limit before after
HasPartly-take files name limit kept before after e = record {
  added = take kept (bytes_of files name);
  appended = e;
  front = λ told is. rw (← Some-injective is) (IsFront-take kept (bytes_of files name));
  untold = λ e. absurd (cc);
}

-- a store that kept some of the bytes
pub StoresFront-take : (old new : FileMap) (name bytes stored : List ℕ) (kept : ℕ) → stored ≡ take kept bytes →
    new ≡ with_file old name stored → StoresFront (Some old) (Some new) name bytes
StoresFront-take old new name bytes stored kept cut e =
    inr (take kept bytes, IsFront-take kept bytes, ap Some e ∙ ap (λ front. Some (with_file old name front)) cut)

-- a put that kept some of the piece
pub AppendsFront-take : (old new piece written : List ℕ) (kept : ℕ) → written ≡ take kept piece → new ≡ old ++ written →
    AppendsFront (Some old) (Some new) piece
AppendsFront-take old new piece written kept cut e =
    (take kept piece, IsFront-take kept piece, ap Some e ∙ ap (λ front. Some (old ++ front)) cut)

-- a file that was set is there
pub file_of-with_file-same : (files : FileMap) (name bytes : List ℕ) →
    file_of (with_file files name bytes) name ≡ Some bytes
file_of-with_file-same files name bytes =
    get-insert nat_list_cmp_total files name bytes name
    ∙ ap (λ b. cond b (Some bytes) (file_of files name)) (sym (texts_ties name name) ∙ (bytes_decides name name).1 refl)

-- two names that differ are told apart
names_differ : (name other : List ℕ) → other ≢ name → pointwise eqb other name ≡ false
names_differ name other apart = by (pointwise eqb other name) refl
  where
    by : (b : Bool) → pointwise eqb other name ≡ b → b ≡ false
    by true e = absurd (apart ((bytes_decides other name).0 e))
    by false e = refl

-- every other name is as before
pub file_of-with_file-other : (files : FileMap) (name bytes other : List ℕ) → other ≢ name →
    file_of (with_file files name bytes) other ≡ file_of files other
file_of-with_file-other files name bytes other apart =
    get-insert nat_list_cmp_total files name bytes other
    ∙ ap (λ b. cond b (Some bytes) (file_of files other)) (sym (texts_ties other name) ∙ names_differ name other apart)
