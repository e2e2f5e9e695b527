-- The tables of a network, and how large the numbers of a sound plan are.
use Rattle.std.proofs.Common.{◌≡◌, ℕ, suc, ◌+◌, ◌*◌, ◌<◌, ◌≤◌, List, [], ◌∷◌, length, map, take, slice_index_or, sum_by}
use Rattle.std.proofs.Common.{refl, ap, ◌∙◌, zero-add, one-mul, arith}
use Rattle.std.specs.List.{All, flat_map, range_with_len}
use Rattle.std.proofs.lemmas.Bool.{eqb-true}
use Rattle.std.proofs.lemmas.Bool.Decides.{Decides-eqb}
use Rattle.std.proofs.lemmas.List.Elements.{All-nil, All-cons, All-head, All-tail, All-contains}
use Rattle.std.proofs.lemmas.Map.Made.{IsDistinct-from_AllPairs}
use Rattle.std.proofs.lemmas.Map.Steps.{length-le_from_distinct_below}
use Rattle.std.proofs.lemmas.Map.Views.{Contains-from_any}
use Rattle.std.proofs.lemmas.List.FromFn.{length-map-range_with_len, get_or-map-range_with_len}
use Rattle.std.proofs.lemmas.List.Sums.{sum_by-take-le}
use Rattle.std.proofs.lemmas.Nat.{mul-le}
use Rattle.header_set.specs.Headers.{product, IsSize, FirstSizesFit}
use Rattle.net_plan.specs.declared.plan.Plan.{Plan}
use Rattle.net_plan.specs.declared.plan.LinkPlan.{LinkPlan}
use Rattle.net_plan.specs.Plan.{sizes_of, packets_of, boxes_of, masks_of}
use Rattle.net_plan.specs.Ends.{ends_of}
use Rattle.net_plan.specs.Cells.{masks_before, all_masks, cells_of}
use Rattle.net_plan.specs.Kept.{first_state}
use Rattle.net_plan.specs.Sound.{IsLink, linked_ends, IsSound}
use Rattle.net_plan.proofs.CellLemmas.{cells_counted}

module _ {X : Type 0} (f : ℕ → X) (n : ℕ) (table : List X) (is : table ≡ map f (range_with_len 0 n)) where
  pub counted_length : length table ≡ n
  counted_length = ap length is ∙ length-map-range_with_len f 0 n

  pub counted_read : (i : ℕ) (d : X) → i < n → slice_index_or table i d ≡ f i
  counted_read i d less =
      ap (λ (l : List X). slice_index_or l i d) is ∙ get_or-map-range_with_len f 0 n i i d less (zero-add i)

some_product : (sizes : List ℕ) → FirstSizesFit sizes (length sizes) → 1 ≤ product sizes
some_product [] fit = omega arith
some_product (size ∷ sizes) fit =
    let first : IsSize size = fit 0 (let some : 0 < suc (length sizes) = omega arith in some) in
    let rest : 1 ≤ product sizes =
    some_product sizes (λ k less. fit (suc k) (let more : suc k < suc (length sizes) = omega arith in more)) in
    let all : 1 * 1 ≤ size * product sizes = mul-le 1 1 size (product sizes) first.0 rest in
    omega (arith, all)

pub some_packets : (plan : Plan) → IsSound plan → 1 ≤ packets_of plan
some_packets plan sound = some_product (sizes_of plan) sound.headers.headers.fit

pub ends_small : (plan : Plan) → IsSound plan → ends_of plan ≤ 4194304
ends_small plan sound =
    let others : ℕ = sum_by (λ box. masks_of plan box + 1) plan.boxes in
    let once : 1 * (ends_of plan + others) ≤ cells_of plan =
    mul-le 1 (ends_of plan + others) (packets_of plan) (ends_of plan + others) (some_packets plan sound)
    (omega arith) in
    let same : 1 * (ends_of plan + others) ≡ ends_of plan + others = one-mul (ends_of plan + others) in
    omega (arith, once, same, sound.limits.cells)

-- each link has two ends
two_ends_each : (links : List LinkPlan) → length (flat_map (λ link. link.one ∷ link.two ∷ []) links) ≡ 2 * length links
two_ends_each [] = refl
two_ends_each (link ∷ links) = let rest = two_ends_each links in omega (arith, rest)

-- the ends of the link are below this number
abbrev IsBelow : ℕ → LinkPlan → Type 0
IsBelow n link = (link.one < n) × (link.two < n)

ends_below : (n : ℕ) (links : List LinkPlan) → All (IsBelow n) links →
    All (λ end. end < n) (flat_map (λ link. link.one ∷ link.two ∷ []) links)
ends_below n [] all = All-nil (λ end. end < n)
ends_below n (link ∷ links) all =
    let ends : List ℕ = flat_map (λ (l : LinkPlan). l.one ∷ l.two ∷ []) links in
    let first : IsBelow n link = All-head (IsBelow n) link links all in
    let rest : All (λ end. end < n) ends = ends_below n links (All-tail (IsBelow n) link links all) in
    All-cons (λ end. end < n) link.one (link.two ∷ ends) first.0 (All-cons (λ end. end < n) link.two ends first.1 rest)

links_below : (plan : Plan) → IsSound plan → All (IsBelow (ends_of plan)) plan.links
links_below plan sound k d below =
    let link : IsLink plan (slice_index_or plan.links k d) = sound.wiring.links k d below in (link.one, link.two)

-- no end stands twice in the links, so they have at most as many ends as there are
pub links_few : (plan : Plan) → IsSound plan → length plan.links ≤ ends_of plan
links_few plan sound =
    let in_range : All (λ end. end < ends_of plan) (linked_ends plan) =
    ends_below (ends_of plan) plan.links (links_below plan sound) in
    let few : length (linked_ends plan) ≤ ends_of plan =
    length-le_from_distinct_below (linked_ends plan) (ends_of plan)
    (IsDistinct-from_AllPairs Decides-eqb (linked_ends plan) sound.wiring.ends_apart)
    (λ end found. All-contains (λ e. e < ends_of plan) (linked_ends plan) end in_range
    (Contains-from_any eqb-true end (linked_ends plan) found)) in
    omega (arith, two_ends_each plan.links, few)

take_whole : {X : Type 0} (xs : List X) → take (length xs) xs ≡ xs
take_whole [] = refl
take_whole (x ∷ xs) = ap (λ l. x ∷ l) (take_whole xs)

pub first_abort : (plan : Plan) → first_state plan (boxes_of plan) ≡ packets_of plan * (ends_of plan + all_masks plan)
first_abort plan = ap (λ boxes. packets_of plan * (ends_of plan + sum_by (masks_of plan) boxes)) (take_whole plan.boxes)

pub states_small : (plan : Plan) (box : ℕ) → IsSound plan → first_state plan box ≤ 4194304
states_small plan box sound =
    let fewer : masks_before plan box ≤ all_masks plan = sum_by-take-le (masks_of plan) plan.boxes box in
    let rows : first_state plan box ≤ packets_of plan * (ends_of plan + all_masks plan) =
    mul-le (packets_of plan) (ends_of plan + masks_before plan box) (packets_of plan) (ends_of plan + all_masks plan)
    (omega arith) (omega (arith, fewer)) in
    omega (arith, cells_counted plan, rows, sound.limits.cells)
