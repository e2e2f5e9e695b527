-- What a text begins with while more is appended, and texts that are appended in turn.
use Rattle.std.proofs.Common.{◌≡◌, ℕ, ◌+◌, ◌<◌, ◌≤◌, List, [], ◌∷◌, ◌++◌, length, take, drop, get_or, sym, ap, ◌∙◌}
use Rattle.std.proofs.Common.{append_assoc, append-nil, add-one, Result, Ok, Err, OnOk, OnErr}
use Rattle.std.specs.List.{flat_map}
use Rattle.std.proofs.lemmas.List.{take_at, drop_all}
use Rattle.std.proofs.Math.Seq.{drop-cons}
use Rattle.amdl_tree.specs.Appends.{AppendsPart, Keeps}
use Rattle.schedule_text.specs.Fronts.{BeginsWith, KeepsFronts}

-- what stood before, and each front of it, stands in front of what was appended
pub fronts_kept : (old new : List ℕ) → Keeps old new → KeepsFronts old new
unfolding BeginsWith
fronts_kept old new kept front begun = (
  begun.0 ++ kept.more,
  kept.appended ∙ ap (λ t. t ++ kept.more) begun.1 ∙ append_assoc front begun.0 kept.more,
)

pub front_of_part : (old new text : List ℕ) → AppendsPart old new text → KeepsFronts old new
front_of_part old new text part = fronts_kept old new (record { more = part.front; appended = part.appended })

pub front_of_whole : (old new text : List ℕ) → new ≡ old ++ text → KeepsFronts old new
front_of_whole old new text appended = fronts_kept old new (record { more = text; appended = appended })

-- whether a whole text was appended or a front of it
pub front_of_either : {T E : Type 0} (r : Result T E) (old new text : List ℕ) → OnOk r (new ≡ old ++ text) →
    OnErr r (AppendsPart old new text) → KeepsFronts old new
front_of_either (Ok x) old new text whole part = front_of_whole old new text whole
front_of_either (Err e) old new text whole part = front_of_part old new text part

-- the whole of what stood before is taken from the front
pub front_taken : (old new : List ℕ) (n : ℕ) → length old ≡ n → KeepsFronts old new → take n new ≡ old
unfolding BeginsWith
front_taken old new n size kept =
    let whole = kept old ([], sym (append-nil old)) in
    ap (take n) whole.1 ∙ take_at old whole.0 n size

-- the part at an index stands before those behind it
next_part : {A : Type 0} (parts : List A) (i : ℕ) (part : A) → i < length parts → part ≡ get_or parts i part →
    drop i parts ≡ part ∷ drop (i + 1) parts
next_part parts i part inside here =
    let drop_next = rw (← add-one i) at (drop-cons parts i part inside) in
    drop_next ∙ ap (λ p. p ∷ drop (i + 1) parts) (sym here)

-- the next part is written
pub pieces_step : {A : Type 0} (written : A → List ℕ) (parts : List A) (i : ℕ) (part : A) (out new whole : List ℕ) →
    i < length parts → part ≡ get_or parts i part → out ++ flat_map written (drop i parts) ≡ whole →
    new ≡ out ++ written part → new ++ flat_map written (drop (i + 1) parts) ≡ whole
pieces_step written parts i part out new whole inside here before appended =
    let others = flat_map written (drop (i + 1) parts) in
    ap (λ t. t ++ others) appended ∙ append_assoc out (written part) others
    ∙ ap (λ t. out ++ flat_map written t) (sym (next_part parts i part inside here)) ∙ before

-- the same of a part that is copied out of the list
pub pieces_next : {A : Type 0} (written : A → List ℕ) (parts : List A) (i : ℕ) (d : A) (out new whole : List ℕ) →
    i < length parts → out ++ flat_map written (drop i parts) ≡ whole → new ≡ out ++ written (get_or parts i d) →
    new ++ flat_map written (drop (i + 1) parts) ≡ whole
pieces_next written parts i d out new whole inside before appended =
    let drop_next = rw (← add-one i) at (drop-cons parts i d inside) in
    let next : drop i parts ≡ get_or parts i d ∷ drop (i + 1) parts = drop_next in
    let others = flat_map written (drop (i + 1) parts) in
    ap (λ t. t ++ others) appended ∙ append_assoc out (written (get_or parts i d)) others
    ∙ ap (λ t. out ++ flat_map written t) (sym next) ∙ before

-- all parts are written
pub pieces_done : {A : Type 0} (written : A → List ℕ) (parts : List A) (i : ℕ) (out whole : List ℕ) →
    length parts ≤ i → out ++ flat_map written (drop i parts) ≡ whole → out ≡ whole
pieces_done written parts i out whole all before =
    sym (append-nil out) ∙ ap (λ t. out ++ flat_map written t) (sym (drop_all i parts all)) ∙ before
