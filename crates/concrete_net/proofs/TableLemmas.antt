-- First contents, entry after entry and box after box.
use Rattle.std.proofs.Common.{◌≡◌, ℕ, ◌+◌, ◌<◌, ◌≤◌, List, [], ◌∷◌, ◌++◌, take_all, Bool, true, false, ◌||◌, length}
use Rattle.std.proofs.Common.{take, get_or}
use Rattle.std.proofs.Common.{refl, sym, ap, ◌∙◌, map}
use Rattle.std.proofs.lemmas.List.{take_more, map-append}
use Rattle.std.proofs.lemmas.List.Folds.{list_any_more}
use Rattle.box_contents.specs.declared.entry.Entry.{Entry}
use Rattle.box_contents.specs.Contents.{same_entry, IsRising, holds_entry, with_entry}
use Rattle.box_contents.specs.Laws.{HeldWith, RisingIsSettled}

abbrev pub HoldAlike : List Entry → List Entry → Type 0
HoldAlike one two = (entry : Entry) → holds_entry one entry ≡ holds_entry two entry

or_turned : (a b : Bool) → (a || b) ≡ (b || a)
or_turned true true = refl
or_turned true false = refl
or_turned false true = refl
or_turned false false = refl

pub held_more : HeldWith → (contents entries : List Entry) (k : ℕ) (entry : Entry) → k < length entries →
    HoldAlike contents (take k entries) →
    HoldAlike (with_entry contents (get_or entries k entry)) (take (k + 1) entries)
held_more law contents entries k entry less alike other =
    law contents (get_or entries k entry) other
    ∙ ap (λ (b : Bool). same_entry other (get_or entries k entry) || b) (alike other)
    ∙ or_turned (same_entry other (get_or entries k entry)) (holds_entry (take k entries) other)
    ∙ sym (list_any_more (same_entry other) entries k entry less)

pub settled : RisingIsSettled → (contents entries : List Entry) (k : ℕ) → IsRising contents → IsRising entries →
    length entries ≤ k → HoldAlike contents (take k entries) → contents ≡ entries
settled law contents entries k one two all alike =
    law contents entries one two (λ entry. alike entry ∙ ap (λ (l : List Entry). holds_entry l entry)
    (take_all k entries all))

pub mapped_more : {A B : Type 0} (f : A → B) (xs : List A) (i : ℕ) (x : A) (front : List B) → i < length xs →
    x ≡ get_or xs i x → front ≡ map f (take i xs) → front ++ f x ∷ [] ≡ map f (take (i + 1) xs)
mapped_more f xs i x front inside here so_far =
    ap (λ l. l ++ f x ∷ []) so_far
    ∙ ap (λ y. map f (take i xs) ++ f y ∷ []) here
    ∙ sym (ap (map f) (take_more xs i x inside) ∙ map-append f (take i xs) (get_or xs i x ∷ []))
