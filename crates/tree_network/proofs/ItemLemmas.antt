-- The items of one form, gathered by a loop over all items.
use Rattle.std.proofs.Common.{◌≡◌, ℕ, ◌+◌, ◌<◌, ◌≤◌, List, [], ◌∷◌, ◌++◌, length, take, get_or, map, Option, Some, None}
use Rattle.std.proofs.Common.{sym, ap, ◌∙◌, append-nil}
use Rattle.std.specs.List.{filter_map, cons_option}
use Rattle.std.specs.Option.{option_map}
use Rattle.std.proofs.lemmas.List.{take_more, take_all, map_push}
use Rattle.std.proofs.lemmas.List.Elements.{filter_map-append}

-- one item more
view_step : {X Y : Type 0} (view : X → Option Y) (items : List X) (i : ℕ) (item : X) → i < length items →
    item ≡ get_or items i item →
    filter_map view (take (i + 1) items) ≡ filter_map view (take i items) ++ cons_option (view item) []
view_step view items i item inside here =
    ap (filter_map view) (take_more items i item inside ∙ ap (λ t. take i items ++ t ∷ []) (sym here))
    ∙ filter_map-append view (take i items) (item ∷ [])

-- the item has the form
pub view_more : {X Y C : Type 0} (view : X → Option Y) (back : C → Y) (items : List X) (i : ℕ) (item : X)
    (found : List C) (one : C) →
    i < length items → item ≡ get_or items i item → map back found ≡ filter_map view (take i items) →
    option_map back (Some one) ≡ view item →
    map back (found ++ one ∷ []) ≡ filter_map view (take (i + 1) items)
view_more view back items i item found one inside here before shown =
    map_push back found one ∙ (λ j. before j ++ cons_option (shown j) [])
    ∙ sym (view_step view items i item inside here)

-- the item has another form
pub view_skipped : {X Y C : Type 0} (view : X → Option Y) (back : C → Y) (items : List X) (i : ℕ) (item : X)
    (found : List C) →
    i < length items → item ≡ get_or items i item → map back found ≡ filter_map view (take i items) →
    option_map back None ≡ view item →
    map back found ≡ filter_map view (take (i + 1) items)
view_skipped view back items i item found inside here before hidden =
    before ∙ sym (append-nil (filter_map view (take i items)))
    ∙ ap (λ t. filter_map view (take i items) ++ cons_option t []) hidden
    ∙ sym (view_step view items i item inside here)

pub view_all : {X Y C : Type 0} (view : X → Option Y) (back : C → Y) (items : List X) (i : ℕ) (found : List C) →
    length items ≤ i → map back found ≡ filter_map view (take i items) → map back found ≡ filter_map view items
view_all view back items i found all before = before ∙ ap (filter_map view) (take_all i items all)

-- the same where nothing is read but the name
pub plain_more : {X Y : Type 0} (view : X → Option Y) (items : List X) (i : ℕ) (item : X) (found : List Y) (one : Y) →
    i < length items → item ≡ get_or items i item → found ≡ filter_map view (take i items) → Some one ≡ view item →
    found ++ one ∷ [] ≡ filter_map view (take (i + 1) items)
plain_more view items i item found one inside here before shown =
    (λ j. before j ++ cons_option (shown j) []) ∙ sym (view_step view items i item inside here)

pub plain_skipped : {X Y : Type 0} (view : X → Option Y) (items : List X) (i : ℕ) (item : X) (found : List Y) →
    i < length items → item ≡ get_or items i item → found ≡ filter_map view (take i items) → None ≡ view item →
    found ≡ filter_map view (take (i + 1) items)
plain_skipped view items i item found inside here before hidden =
    before ∙ sym (append-nil (filter_map view (take i items)))
    ∙ ap (λ t. filter_map view (take i items) ++ cons_option t []) hidden
    ∙ sym (view_step view items i item inside here)

pub plain_all : {X Y : Type 0} (view : X → Option Y) (items : List X) (i : ℕ) (found : List Y) →
    length items ≤ i → found ≡ filter_map view (take i items) → found ≡ filter_map view items
plain_all view items i found all before = before ∙ ap (filter_map view) (take_all i items all)
