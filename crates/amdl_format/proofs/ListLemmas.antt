-- Texts that are appended, and lists whose parts have a text in front.
use Rattle.std.proofs.Common.{◌≡◌, ℕ, ◌+◌, ◌<◌, ◌≤◌, false, nat_eq, List, [], ◌∷◌, ◌++◌, length, drop, get_or, map}
use Rattle.std.proofs.Common.{codes, refl, sym, ap, ◌∙◌, append_assoc, append-nil, add-one, Result, OnOk}
use Rattle.std.specs.List.{flat_map}
use Rattle.std.proofs.lemmas.List.{drop_all}
use Rattle.std.proofs.lemmas.Result.{on_ok_weaker}
use Rattle.std.proofs.Math.Seq.{drop-cons}
use Rattle.amdl_tree.specs.Layout.{as_written, behind_text, joined, listed, layout_of_atom, layout_of_change}
use Rattle.amdl_tree.specs.Layout.{layout_of_changes, layout_of_first}
use Rattle.amdl_tree.specs.declared.guard.Atom.{Atom}
use Rattle.amdl_tree.specs.declared.tree.Equal.{Equal}
use Rattle.amdl_format.specs.Lines.{led}

-- where all went well a text was appended, whichever way it is written
pub appended_as : {T E : Type 0} (r : Result T E) (old new text whole : List ℕ) → whole ≡ text →
    OnOk r (new ≡ old ++ text) → OnOk r (new ≡ old ++ whole)
appended_as r old new text whole same =
    on_ok_weaker r (λ (appended : new ≡ old ++ text). appended ∙ ap (λ t. old ++ t) (sym same))

-- two names and what stands between, as they are put and as they are written
pub names_between : (first between second one two : List ℕ) → first ≡ one → second ≡ two →
    first ++ (between ++ (second ++ [])) ≡ one ++ between ++ two
names_between first between second one two e f = rw (e, f) (simp (append_assoc, append-nil))

-- once the first part is written, the others have one text in front
led_alike : {A : Type 0} (text : List ℕ) (written : A → List ℕ) (parts : List A) →
    led text text written parts ≡ flat_map (behind_text text written) parts
led_alike text written [] = refl
led_alike text written (part ∷ parts) = refl

-- the part at an index stands before those behind it
pub next_part : {A : Type 0} (parts : List A) (i : ℕ) (part : A) → i < length parts → part ≡ get_or parts i part →
    drop i parts ≡ part ∷ drop (i + 1) parts
next_part parts i part inside here =
    let drop_next = rw (← add-one i) at (drop-cons parts i part inside) in
    drop_next ∙ ap (λ p. p ∷ drop (i + 1) parts) (sym here)

-- the next part is written
pub led_step : {A : Type 0} (first text : List ℕ) (written : A → List ℕ) (parts : List A) (i : ℕ) (part : A)
    (out new whole : List ℕ) →
    i < length parts → part ≡ get_or parts i part →
    out ++ led first text written (drop i parts) ≡ whole → new ≡ out ++ (first ++ written part) →
    new ++ led text text written (drop (i + 1) parts) ≡ whole
led_step first text written parts i part out new whole inside here before appended =
    let others = flat_map (behind_text text written) (drop (i + 1) parts) in
    ap (λ t. new ++ t) (led_alike text written (drop (i + 1) parts)) ∙ ap (λ t. t ++ others) appended
    ∙ append_assoc out (first ++ written part) others
    ∙ ap (λ t. out ++ led first text written t) (sym (next_part parts i part inside here)) ∙ before

-- the same, where the text and the part are written by two calls
pub led_step_twice : {A : Type 0} (first text : List ℕ) (written : A → List ℕ) (parts : List A) (i : ℕ) (part : A)
    (out mid new whole : List ℕ) →
    i < length parts → part ≡ get_or parts i part →
    out ++ led first text written (drop i parts) ≡ whole → mid ≡ out ++ (first ++ []) → new ≡ mid ++ written part →
    new ++ led text text written (drop (i + 1) parts) ≡ whole
led_step_twice first text written parts i part out mid new whole inside here before one two =
    led_step first text written parts i part out new whole inside here before
    (two ∙ ap (λ t. t ++ written part) (one ∙ ap (λ t. out ++ t) (append-nil first))
    ∙ append_assoc out first (written part))

-- the next part is written, where nothing stands between them
pub pieces_step : {A : Type 0} (written : A → List ℕ) (parts : List A) (i : ℕ) (part : A) (out new whole : List ℕ) →
    i < length parts → part ≡ get_or parts i part →
    out ++ flat_map written (drop i parts) ≡ whole → new ≡ out ++ written part →
    new ++ flat_map written (drop (i + 1) parts) ≡ whole
pieces_step written parts i part out new whole inside here before appended =
    let others = flat_map written (drop (i + 1) parts) in
    ap (λ t. t ++ others) appended ∙ append_assoc out (written part) others
    ∙ ap (λ t. out ++ flat_map written t) (sym (next_part parts i part inside here)) ∙ before

-- when all parts are written, nothing is left
pub pieces_done : {A : Type 0} (written : A → List ℕ) (parts : List A) (i : ℕ) (out whole : List ℕ) → length parts ≤ i →
    out ++ flat_map written (drop i parts) ≡ whole → out ≡ whole
pieces_done written parts i out whole all before =
    sym (append-nil out) ∙ ap (λ t. out ++ flat_map written t) (sym (drop_all i parts all)) ∙ before

-- the same, where the parts have a text in front
pub led_done : {A : Type 0} (first text : List ℕ) (written : A → List ℕ) (parts : List A) (i : ℕ) (out whole : List ℕ) →
    length parts ≤ i →
    out ++ led first text written (drop i parts) ≡ whole → out ≡ whole
led_done first text written parts i out whole all before =
    sym (append-nil out) ∙ ap (λ t. out ++ led first text written t) (sym (drop_all i parts all)) ∙ before

pub led_joined : {A : Type 0} (text : List ℕ) (written : A → List ℕ) (parts : List A) →
    led [] text written parts ≡ joined text written parts
led_joined text written [] = refl
led_joined text written (part ∷ parts) = refl

pub led_names : (names : List (List ℕ)) → led [] (codes ", ") as_written names ≡ listed names
led_names [] = refl
led_names (name ∷ names) = refl

-- parts that are written and then listed
flat_written : {A : Type 0} (written : A → List ℕ) (parts : List A) →
    flat_map (behind_text (codes ", ") written) parts ≡ flat_map (λ p. codes ", " ++ p) (map written parts)
flat_written written [] = refl
flat_written written (part ∷ parts) = λ i. (codes ", " ++ written part) ++ flat_written written parts i

pub led_listed : {A : Type 0} (written : A → List ℕ) (parts : List A) →
    led [] (codes ", ") written parts ≡ listed (map written parts)
led_listed written [] = refl
led_listed written (part ∷ parts) = ap (λ t. written part ++ t) (flat_written written parts)

pub led_first : (first : List Atom) → led (codes " with ") (codes ", ") layout_of_atom first ≡ layout_of_first first
led_first [] = refl
led_first (atom ∷ atoms) =
    ap (λ t. (codes " with " ++ layout_of_atom atom) ++ t) (flat_written layout_of_atom atoms)
    ∙ append_assoc (codes " with ") (layout_of_atom atom) (flat_map (λ p. codes ", " ++ p) (map layout_of_atom atoms))

-- without changes there are no brackets
pub led_changes : (changes : List Equal) → nat_eq (length changes) 0 ≡ false →
    layout_of_changes changes ≡ led (codes " [") (codes ", ") layout_of_change changes ++ codes "]"
led_changes [] some = absurd (cc)
led_changes (change ∷ changes) some =
    ap (λ t. codes " [" ++ (layout_of_change change ++ t) ++ codes "]") (sym (flat_written layout_of_change changes))
    ∙ ap (λ t. t ++ codes "]")
    (sym
    (append_assoc
    (codes " [") (layout_of_change change) (flat_map (behind_text (codes ", ") layout_of_change) changes)))
