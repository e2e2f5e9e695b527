-- Lists of two.
use Rattle.std.proofs.Common.{◌≡◌, List, [], ◌∷◌, length, slice_index_or, arith, Result, Ok, Err, OnErr, IfOk}

-- a list of two is its first and its second item
pub two_items : {X : Type 0} (xs : List X) → length xs ≡ 2 → (first second : X) → first ≡ slice_index_or xs 0 first →
    second ≡ slice_index_or xs 1 second →
    xs ≡ first ∷ second ∷ []
two_items [] len first second a b = absurd (omega arith)
two_items (x ∷ []) len first second a b = absurd (omega arith)
two_items (x ∷ y ∷ []) len first second a b = cc
two_items (x ∷ y ∷ z ∷ xs) len first second a b = absurd (omega arith)

-- what holds anyway holds of an error
pub on_err : {T E : Type 0} (result : Result T E) (P : Type 0) → P → OnErr result P
on_err (Ok value) P holds = tt
on_err (Err error) P holds = holds

-- what follows from what holds of an Ok
pub ok_map : {T E : Type 0} (result : Result T E) (P Q : T → Type 0) → ((value : T) → P value → Q value) →
    IfOk result P → IfOk result Q
ok_map (Ok value) P Q follows holds = follows value holds
ok_map (Err error) P Q follows holds = tt
