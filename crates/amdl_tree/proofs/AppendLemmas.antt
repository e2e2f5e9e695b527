-- How texts that are appended in turn, and fronts of them, go on.
use Rattle.std.proofs.Common.{◌≡◌, ℕ, List, [], ◌∷◌, ◌++◌, ◌+◌, ◌<◌, length, take, drop, get_or, sym, ap, ◌∙◌}
use Rattle.std.proofs.Common.{append_assoc, append-nil, take-append-drop, add-one, Result, Ok, Err, OnOk, OnErr}
use Rattle.std.specs.List.{flat_map}
use Rattle.std.proofs.lemmas.Result.{on_ok_weaker}
use Rattle.std.proofs.lemmas.List.Concat.{flat_map-append}
use Rattle.std.proofs.Math.Seq.{drop-cons}
use Rattle.amdl_tree.specs.Appends.{AppendsPart, Keeps}

-- one text was appended, and then a front of the next
pub part_after : (old mid new a b rest text : List ℕ) → mid ≡ old ++ a → text ≡ a ++ (b ++ rest) →
    AppendsPart mid new b → AppendsPart old new text
part_after old mid new a b rest text first whole part = record {
  front = a ++ part.front;
  rest = part.rest ++ rest;
  appended = part.appended ∙ ap (λ t. t ++ part.front) first ∙ append_assoc old a part.front;
  begun = whole ∙ ap (λ t. a ++ (t ++ rest)) part.begun ∙ ap (λ t. a ++ t) (append_assoc part.front part.rest rest)
      ∙ sym (append_assoc a part.front (part.rest ++ rest));
}

-- a front of the first text is a front of the whole
pub part_first : (old new b rest text : List ℕ) → text ≡ b ++ rest → AppendsPart old new b → AppendsPart old new text
part_first old new b rest text whole part = record {
  front = part.front;
  rest = part.rest ++ rest;
  appended = part.appended;
  begun = whole ∙ ap (λ t. t ++ rest) part.begun ∙ append_assoc part.front part.rest rest;
}

-- what one call keeps and then the next
pub keeps_after : {old mid new : List ℕ} → Keeps old mid → Keeps mid new → Keeps old new
keeps_after {old = old} first second = record {
  more = first.more ++ second.more;
  appended = second.appended ∙ ap (λ t. t ++ second.more) first.appended ∙ append_assoc old first.more second.more;
}

-- what a text is appended to
pub keeps_appended : {old new : List ℕ} (text : List ℕ) → new ≡ old ++ text → Keeps old new
keeps_appended text appended = record { more = text; appended = appended }

-- what nothing is appended to
pub keeps_same : (old : List ℕ) → Keeps old old
keeps_same old = record { more = []; appended = sym (append-nil old) }

-- what a front of a text is appended to
pub keeps_part : {old new : List ℕ} (text : List ℕ) → AppendsPart old new text → Keeps old new
keeps_part text part = record { more = part.front; appended = part.appended }

-- one text was appended, and then the next
pub appended_after : (old mid new a b : List ℕ) → mid ≡ old ++ a → new ≡ mid ++ b → new ≡ old ++ (a ++ b)
appended_after old mid new a b first second = second ∙ ap (λ t. t ++ b) first ∙ append_assoc old a b

-- a text was appended, and then where all went well another
pub then_text : {T E : Type 0} (r : Result T E) (old mid new a b whole : List ℕ) → mid ≡ old ++ a → whole ≡ a ++ b →
    OnOk r (new ≡ mid ++ b) → OnOk r (new ≡ old ++ whole)
then_text r old mid new a b whole first parts second =
    on_ok_weaker r
    (λ (h : new ≡ mid ++ b). h ∙ ap (λ t. t ++ b) first ∙ append_assoc old a b
    ∙ ap (λ t. old ++ t) (sym parts)) second

-- the first i pieces, and the others
pub pieces_split : {X : Type 0} (f : X → List ℕ) (xs : List X) (i : ℕ) →
    flat_map f xs ≡ flat_map f (take i xs) ++ flat_map f (drop i xs)
pieces_split f xs i = ap (flat_map f) (sym (take-append-drop i xs)) ∙ flat_map-append f (take i xs) (drop i xs)

-- the first i pieces, the next one, and the others
pub pieces_at : {X : Type 0} (f : X → List ℕ) (xs : List X) (i : ℕ) (d : X) → i < length xs →
    flat_map f xs ≡ flat_map f (take i xs) ++ (f (get_or xs i d) ++ flat_map f (drop (i + 1) xs))
pieces_at f xs i d inside =
    let drop_next = rw (← add-one i) at (drop-cons xs i d inside) in
    let next : drop i xs ≡ get_or xs i d ∷ drop (i + 1) xs = drop_next in
    pieces_split f xs i ∙ ap (λ t. flat_map f (take i xs) ++ flat_map f t) next

-- what holds in any case holds after an error
pub on_err : {T E P : Type 0} (r : Result T E) → P → OnErr r P
on_err {P} r p = elim r as (λ v. OnErr v P) [ Ok x ↦ tt | Err e ↦ p ]
