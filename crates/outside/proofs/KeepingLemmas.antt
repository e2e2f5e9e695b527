-- The first file of a name in a list of kept files, and the map that such a list means.
use Rattle.std.proofs.Common.{◌≡◌, ℕ, suc, zero, ◌+◌, ◌<◌, Bool, true, false, cond, eqb, List, [], ◌∷◌, ◌++◌, map}
use Rattle.std.proofs.Common.{length, get_or, set, take, Option, Some, None, refl, sym, ap, subst, ◌∙◌, arith}
use Rattle.std.proofs.lemmas.List.{take_more}
use Rattle.std.specs.Cmp.Lexicographic.{pointwise, texts_ties, nat_list_eq_equiv, nat_list_cmp_total, bytes_decides}
use Rattle.std.specs.FinMap.{get-from_entries, get-insert, same_map, from_entries, from_entries_push}
use Rattle.std.specs.FinMap.{slice_cmp-IsAntisymmetric, nat_cmp-IsAntisymmetric}
use Rattle.outside.specs.declared.keeping.Kept.{Kept}
use Rattle.outside.specs.Files.{file_of, with_file}
use Rattle.outside.specs.Keeping.{entry_of, files_of, first_file}

-- two names are the same
abbrev same_name : List ℕ → List ℕ → Bool
same_name = pointwise eqb

-- a choice that gives nothing
neither : (b : Bool) (bytes : List ℕ) (o : Option (List ℕ)) → cond b (Some bytes) o ≡ None → (b ≡ false) × (o ≡ None)
neither true bytes o e = absurd (cc)
neither false bytes o e = (refl, e)

-- the first entry decides where it has the name
pub first_file-cons : (k : Kept) (kept : List Kept) (name : List ℕ) →
    first_file (k ∷ kept) name ≡ cond (same_name name k.name.items) (Some k.bytes.items) (first_file kept name)
first_file-cons k kept name =
    ap (λ t. cond t (Some k.bytes.items) (first_file kept name)) (sym (texts_ties name k.name.items))

same_itself : (name other : List ℕ) → other ≡ name → same_name name other ≡ true
same_itself name other e = (bytes_decides name other).1 (sym e)

-- a list without the name has no file of that name after one more file of another name
first_file-push : (kept : List Kept) (k : Kept) (name : List ℕ) → first_file kept name ≡ None →
    same_name name k.name.items ≡ false → first_file (kept ++ k ∷ []) name ≡ None
first_file-push [] k name none other = first_file-cons k [] name ∙ ap (λ b. cond b (Some k.bytes.items) None) other
first_file-push (x ∷ kept) k name none other =
    let apart =
    neither (same_name name x.name.items) x.bytes.items (first_file kept name)
    (sym (first_file-cons x kept name) ∙ none) in
    first_file-cons x (kept ++ k ∷ []) name
    ∙ ap (λ b. cond b (Some x.bytes.items) (first_file (kept ++ k ∷ []) name)) apart.0
    ∙ first_file-push kept k name apart.1 other

pub first_file-take_more : (kept : List Kept) (i : ℕ) (k : Kept) (name : List ℕ) → i < length kept →
    k ≡ get_or kept i k → first_file (take i kept) name ≡ None → false ≡ same_name k.name.items name →
    first_file (take (i + 1) kept) name ≡ None
first_file-take_more kept i k name lt here none other =
    rw (take_more kept i k lt, ← here)
    (first_file-push (take i kept) k name none (nat_list_eq_equiv.symm name k.name.items ∙ sym other))

-- the first file at a place
pub first_file-here : (kept : List Kept) (i : ℕ) (d : Kept) (name : List ℕ) → i < length kept →
    first_file (take i kept) name ≡ None → (get_or kept i d).name.items ≡ name →
    first_file kept name ≡ Some (get_or kept i d).bytes.items
first_file-here [] i d name lt none here = absurd (omega arith)
first_file-here (k ∷ kept) zero d name lt none here =
    first_file-cons k kept name
    ∙ ap (λ b. cond b (Some k.bytes.items) (first_file kept name)) (same_itself name k.name.items here)
first_file-here (k ∷ kept) (suc i) d name lt none here =
    let apart =
    neither (same_name name k.name.items) k.bytes.items (first_file (take i kept) name)
    (sym (first_file-cons k (take i kept) name) ∙ none) in
    first_file-cons k kept name
    ∙ ap (λ b. cond b (Some k.bytes.items) (first_file kept name)) apart.0
    ∙ first_file-here kept i d name (omega arith) apart.1 here

-- two tests in either order, where not both hold, and one test twice
swapped : (a b : Bool) (x y : List ℕ) (o : Option (List ℕ)) → (a ≡ true → b ≡ true → ⊥) →
    cond a (Some x) (cond b (Some y) o) ≡ cond b (Some y) (cond a (Some x) o)
swapped true true x y o apart = absurd (apart refl refl)
swapped true false x y o apart = refl
swapped false b x y o apart = refl

twice : (b : Bool) (x y : List ℕ) (o : Option (List ℕ)) → cond b (Some x) o ≡ cond b (Some x) (cond b (Some y) o)
twice true x y o = refl
twice false x y o = refl

names_apart : (name other asked : List ℕ) → same_name name other ≡ false → same_name asked other ≡ true →
    same_name asked name ≡ true → ⊥
names_apart name other asked apart a b =
    let both : name ≡ other = sym ((bytes_decides asked name).0 b) ∙ (bytes_decides asked other).0 a in
    let yes : same_name name other ≡ true = (bytes_decides name other).1 both in
    let no : true ≡ false = sym yes ∙ apart in
    cc

-- a look-up after the first file of a name has new bytes
first_file-set : (kept : List Kept) (i : ℕ) (d new : Kept) (name asked : List ℕ) → i < length kept →
    first_file (take i kept) name ≡ None → (get_or kept i d).name.items ≡ name → new.name.items ≡ name →
    first_file (set kept i new) asked ≡ cond (same_name asked name) (Some new.bytes.items) (first_file kept asked)
first_file-set [] i d new name asked lt none here is = absurd (omega arith)
first_file-set (k ∷ kept) zero d new name asked lt none here is =
    rw (first_file-cons new kept asked, first_file-cons k kept asked, here, is)
    (twice (same_name asked name) new.bytes.items k.bytes.items (first_file kept asked))
first_file-set (k ∷ kept) (suc i) d new name asked lt none here is =
    let apart =
    neither (same_name name k.name.items) k.bytes.items (first_file (take i kept) name)
    (sym (first_file-cons k (take i kept) name) ∙ none) in
    let later = first_file-set kept i d new name asked (omega arith) apart.1 here is in
    rw (first_file-cons k (set kept i new) asked, first_file-cons k kept asked, later)
    (swapped (same_name asked k.name.items) (same_name asked name) k.bytes.items new.bytes.items (first_file kept asked)
    (names_apart name k.name.items asked apart.0))

-- a look-up in the map is the first file
pub file_of-files_of : (kept : List Kept) (name : List ℕ) → file_of (files_of kept) name ≡ first_file kept name
file_of-files_of kept name = get-from_entries nat_list_cmp_total (map entry_of kept) name

-- the map after the first file of a name has new bytes
pub files_of-set : (kept : List Kept) (i : ℕ) (d new : Kept) (name : List ℕ) → i < length kept →
    first_file (take i kept) name ≡ None → (get_or kept i d).name.items ≡ name → new.name.items ≡ name →
    files_of (set kept i new) ≡ with_file (files_of kept) name new.bytes.items
files_of-set kept i d new name lt none here is =
    same_map nat_list_cmp_total (slice_cmp-IsAntisymmetric nat_cmp-IsAntisymmetric) _ _
    (λ asked.
    file_of-files_of (set kept i new) asked
    ∙ first_file-set kept i d new name asked lt none here is
    ∙ ap (cond (same_name asked name) (Some new.bytes.items)) (sym (file_of-files_of kept asked))
    ∙ ap (λ b. cond b (Some new.bytes.items) (file_of (files_of kept) asked)) (texts_ties asked name)
    ∙ sym (get-insert nat_list_cmp_total (files_of kept) name new.bytes.items asked))

map-snoc : (kept : List Kept) (k : Kept) → map entry_of (kept ++ k ∷ []) ≡ map entry_of kept ++ entry_of k ∷ []
map-snoc [] k = refl
map-snoc (x ∷ kept) k = ap (λ t. entry_of x ∷ t) (map-snoc kept k)

-- the map after a file of a new name
pub files_of-push : (kept : List Kept) (k : Kept) → first_file kept k.name.items ≡ None →
    files_of (kept ++ k ∷ []) ≡ with_file (files_of kept) k.name.items k.bytes.items
files_of-push kept k none =
    ap from_entries (map-snoc kept k)
    ∙ from_entries_push nat_list_cmp_total (slice_cmp-IsAntisymmetric nat_cmp-IsAntisymmetric)
    (map entry_of kept) k.name.items k.bytes.items none

-- the two ways to keep a file, as the code sees the list and the name
pub keep-set : (kept shown : List Kept) (i : ℕ) (old new : Kept) (name shown_name bytes : List ℕ) → shown ≡ kept →
    shown_name ≡ name → i < length shown → first_file (take i shown) shown_name ≡ None →
    ((file : Kept) → (get_or shown i file).name.items ≡ shown_name) → old ≡ get_or kept i old →
    new.name.items ≡ old.name.items → new.bytes.items ≡ bytes →
    files_of (set kept i new) ≡ with_file (files_of kept) name bytes
keep-set kept shown i old new name shown_name bytes is_kept is_name lt none here is_old is_named is_stored =
    let lt_kept : i < length kept = subst (λ (xs : List Kept). i < length xs) is_kept lt in
    let none_kept : first_file (take i kept) name ≡ None = rw (← is_kept, ← is_name) none in
    let here_kept : (get_or kept i old).name.items ≡ name = rw (← is_kept, ← is_name) (here old) in
    let named : new.name.items ≡ name = is_named ∙ ap (λ (file : Kept). file.name.items) is_old ∙ here_kept in
    files_of-set kept i old new name lt_kept none_kept here_kept named ∙ ap (with_file (files_of kept) name) is_stored

pub keep-push : (kept shown after : List Kept) (new : Kept) (name shown_name bytes : List ℕ) → shown ≡ kept →
    shown_name ≡ name → first_file shown shown_name ≡ None → after ≡ kept ++ new ∷ [] → new.name.items ≡ name →
    new.bytes.items ≡ bytes → files_of after ≡ with_file (files_of kept) name bytes
keep-push kept shown after new name shown_name bytes is_kept is_name none is_after is_named is_stored =
    let none_kept : first_file kept new.name.items ≡ None = rw (is_named, ← is_kept, ← is_name) none in
    ap files_of is_after ∙ files_of-push kept new none_kept
    ∙ ap (λ n. with_file (files_of kept) n new.bytes.items) is_named ∙ ap (with_file (files_of kept) name) is_stored
