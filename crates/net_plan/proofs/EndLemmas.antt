-- The ends of a plan by their numbers.
use Rattle.std.proofs.Common.{◌≡◌, ℕ, zero, suc, ◌+◌, ◌-◌, ◌<◌, List, [], ◌∷◌, ◌++◌, Some, map, length, take, slice_get}
use Rattle.std.proofs.Common.{slice_index_or, sum_by, refl, sym, ap, subst, ◌∙◌, ◌⊎◌, inl, inr, ◌↔◌, zero-add, arith}
use Rattle.std.specs.List.{range_with_len}
use Rattle.std.specs.Option.{option_map}
use Rattle.std.proofs.lemmas.Bool.{cases_lt}
use Rattle.std.proofs.lemmas.List.{length-append}
use Rattle.std.proofs.lemmas.List.FromFn.{length-map-range_with_len, get_or-range_with_len, length-range_with_len}
use Rattle.std.proofs.lemmas.List.Sums.{sum_by-cons}
use Rattle.std.proofs.lemmas.Option.{slice_get-map, slice_get-get_or, slice_get_within}
use Rattle.net_plan.specs.declared.plan.Plan.{Plan}
use Rattle.net_plan.specs.declared.plan.BoxPlan.{BoxPlan}
use Rattle.net_plan.specs.declared.fact.Place.{Place}
use Rattle.net_plan.specs.declared.fact.Place.TheVariants.{Host, Port}
use Rattle.net_plan.specs.Plan.{ports_of, boxes_of, box_at}
use Rattle.net_plan.specs.Ends.{host_places, box_places, port_places, places_of, ends_of, IsEndAt}
use Rattle.net_plan.specs.Kept.{first_end}

module _ {X : Type 0} where
  get_in_front : (xs ys : List X) (i : ℕ) → i < length xs → slice_get (xs ++ ys) i ≡ slice_get xs i
  get_in_front [] ys i less = absurd (omega arith)
  get_in_front (x ∷ xs) ys zero less = refl
  get_in_front (x ∷ xs) ys (suc i) less = get_in_front xs ys i (omega arith)

  get_behind : (xs ys : List X) (i j : ℕ) → j ≡ length xs + i → slice_get (xs ++ ys) j ≡ slice_get ys i
  get_behind [] ys i j e = ap (slice_get ys) (e ∙ zero-add i)
  get_behind (x ∷ xs) ys i zero e = absurd (omega (arith, (let none : zero ≡ suc (length xs) + i = e in none)))
  get_behind (x ∷ xs) ys i (suc j) e = get_behind xs ys i j (let more : suc j ≡ suc (length xs) + i = e in omega arith)

get_counted : {X : Type 0} (f : ℕ → X) (n i : ℕ) → i < n → slice_get (map f (range_with_len 0 n)) i ≡ Some (f i)
get_counted f n i less =
    let within : i < length (range_with_len 0 n) = omega (arith, length-range_with_len 0 n) in
    let here : slice_get (range_with_len 0 n) i ≡ Some i =
    slice_get-get_or (range_with_len 0 n) i 0 within ∙ ap Some (get_or-range_with_len 0 n i 0 less ∙ zero-add i) in
    slice_get-map f (range_with_len 0 n) i ∙ ap (option_map f) here

module _ (plan : Plan) where
  abbrev ports_before : List BoxPlan → ℕ → ℕ
  ports_before boxes box = sum_by (ports_of plan) (take box boxes)

  abbrev at : List BoxPlan → ℕ → BoxPlan
  at boxes box = slice_index_or boxes box (record { name = []; class = 0; first = [] })

  length-box : (number : ℕ) (box : BoxPlan) → length (box_places plan number box) ≡ ports_of plan box
  length-box number box = length-map-range_with_len (Port number) 0 (ports_of plan box)

  pub length-ports : (number : ℕ) (boxes : List BoxPlan) →
      length (port_places plan number boxes) ≡ sum_by (ports_of plan) boxes
  length-ports number [] = refl
  length-ports number (box ∷ boxes) =
      let rest : length (port_places plan (number + 1) boxes) ≡ sum_by (ports_of plan) boxes =
      length-ports (number + 1) boxes in
      let all : length (box_places plan number box ++ port_places plan (number + 1) boxes)
      ≡ length (box_places plan number box) + length (port_places plan (number + 1) boxes) =
      length-append (box_places plan number box) (port_places plan (number + 1) boxes) in
      let sum : sum_by (ports_of plan) (box ∷ boxes) ≡ ports_of plan box + sum_by (ports_of plan) boxes =
      sum_by-cons (ports_of plan) box boxes in
      omega (arith, rest, all, sum, length-box number box)

  length-hosts : length (host_places plan) ≡ length plan.hosts
  length-hosts = length-map-range_with_len Host 0 (length plan.hosts)

  pub ends_counted : ends_of plan ≡ length plan.hosts + sum_by (ports_of plan) plan.boxes
  ends_counted =
      let all : ends_of plan ≡ length (host_places plan) + length (port_places plan 0 plan.boxes) =
      length-append (host_places plan) (port_places plan 0 plan.boxes) in
      omega (arith, all, length-hosts, length-ports 0 plan.boxes)

  port_there : (number : ℕ) (boxes : List BoxPlan) (box port : ℕ) → box < length boxes →
      port < ports_of plan (at boxes box) →
      slice_get (port_places plan number boxes) (ports_before boxes box + port) ≡ Some (Port (number + box) port)
  port_there number [] box port less in' = absurd (omega arith)
  port_there number (first ∷ boxes) zero port less in' =
      get_in_front (box_places plan number first) (port_places plan (number + 1) boxes) (0 + port)
      (omega (arith, length-box number first))
      ∙ ap (slice_get (box_places plan number first)) (zero-add port)
      ∙ get_counted (Port number) (ports_of plan first) port in'
      ∙ ap (λ (b : ℕ). Some (Port b port)) (let same : number ≡ number + 0 = omega arith in same)
  port_there number (first ∷ boxes) (suc box) port less in' =
      let sum : ports_before (first ∷ boxes) (suc box) ≡ ports_of plan first + ports_before boxes box =
      sum_by-cons (ports_of plan) first (take box boxes) in
      get_behind (box_places plan number first) (port_places plan (number + 1) boxes) (ports_before boxes box + port)
      (ports_before (first ∷ boxes) (suc box) + port)
      (omega (arith, sum, length-box number first))
      ∙ port_there (number + 1) boxes box port (omega arith) in'
      ∙ ap (λ (b : ℕ). Some (Port b port)) (let same : number + 1 + box ≡ number + suc box = omega arith in same)

  -- the port at a place among those of the boxes
  record IsPortOf (number : ℕ) (boxes : List BoxPlan) (end : ℕ) (place : Place) : Type 0 where
    box : ℕ
    port : ℕ
    box_in_range : box < length boxes
    port_in_range : port < ports_of plan (at boxes box)
    end_is : end ≡ ports_before boxes box + port
    place_is : place ≡ Port (number + box) port

  inside : {X : Type 0} (x y : X) → Some x ≡ Some y → x ≡ y
  inside x y e = cc

  port_found : (number : ℕ) (boxes : List BoxPlan) (end : ℕ) (place : Place) →
      slice_get (port_places plan number boxes) end ≡ Some place → IsPortOf number boxes end place
  port_found number [] end place e = absurd (cc)
  port_found number (first ∷ boxes) end place e =
      elim (cases_lt end (ports_of plan first)) [
        | inl less ↦ record {
          box = 0;
          port = end;
          box_in_range = (let some : 0 < suc (length boxes) = omega arith in some);
          port_in_range = less;
          end_is = sym (zero-add end);
          place_is =
              inside place (Port number end)
              (sym e ∙ get_in_front (box_places plan number first) (port_places plan (number + 1) boxes) end
              (omega (arith, length-box number first))
              ∙ get_counted (Port number) (ports_of plan first) end less)
              ∙ ap (λ (b : ℕ). Port b end) (let same : number ≡ number + 0 = omega arith in same);
        }
        | inr more ↦
            let left : ℕ = end - ports_of plan first in
            let found : IsPortOf (number + 1) boxes left place =
            port_found (number + 1) boxes left place
            (sym (get_behind (box_places plan number first) (port_places plan (number + 1) boxes) left end
            (omega (arith, length-box number first))) ∙ e) in
            let sum : ports_before (first ∷ boxes) (suc found.box)
            ≡ ports_of plan first + ports_before boxes found.box =
            sum_by-cons (ports_of plan) first (take found.box boxes) in
            record {
              box = suc found.box;
              port = found.port;
              box_in_range =
                  (let less : suc found.box < suc (length boxes) = omega (arith, found.box_in_range) in less);
              port_in_range = found.port_in_range;
              end_is = (let is : left
                  ≡ ports_before boxes found.box + found.port = found.end_is in omega (arith, sum, is));
              place_is =
                  found.place_is
                  ∙ ap (λ (b : ℕ). Port b found.port)
                  (let same : number + 1 + found.box ≡ number + suc found.box = omega arith in same);
            }
      ]

  -- the place of an end is that of the host of its number, or that of a port
  end_cases : (end : ℕ) (place : Place) → IsEndAt plan end place →
      ((end < length plan.hosts) × (place ≡ Host end))
      ⊎ ((left : ℕ) × (end ≡ length plan.hosts + left) × IsPortOf 0 plan.boxes left place)
  end_cases end place there =
      elim (cases_lt end (length plan.hosts)) [
        | inl less ↦ inl (
          less,
          inside place (Host end)
              (sym there
              ∙ get_in_front (host_places plan) (port_places plan 0 plan.boxes) end (omega (arith, length-hosts))
              ∙ get_counted Host (length plan.hosts) end less),
        )
        | inr more ↦
            let left : ℕ = end - length plan.hosts in
            inr (
              left,
              omega arith,
              port_found 0 plan.boxes left place
                  (sym
                  (get_behind (host_places plan) (port_places plan 0 plan.boxes) left end (omega (arith, length-hosts)))
                  ∙ there),
            )
      ]

  pub host_ends : (end host : ℕ) → IsEndAt plan end (Host host) ↔ ((host < length plan.hosts) × (end ≡ host))
  host_ends end host = (
    λ there. elim (end_cases end (Host host) there) [
      | inl at_host ↦ let same : host ≡ end =
          (let place : Host host ≡ Host end = at_host.1 in cc) in
          (subst (λ (h : ℕ). h < length plan.hosts) (sym same) at_host.0, sym same)
      | inr at_port ↦ absurd
          (let place : Host host ≡ Port (0 + at_port.2.box) at_port.2.port = at_port.2.place_is in cc)
    ],
    λ is.
        ap (slice_get (places_of plan)) is.1
        ∙ get_in_front (host_places plan) (port_places plan 0 plan.boxes) host (omega (arith, length-hosts, is.0))
        ∙ get_counted Host (length plan.hosts) host is.0,
  )

  pub port_ends : (end box port : ℕ) →
      IsEndAt plan end (Port box port) ↔
      ((box < boxes_of plan) × (port < ports_of plan (box_at plan box)) × (end ≡ first_end plan box + port))
  port_ends end box port = (
    λ there. elim (end_cases end (Port box port) there) [
      | inl at_host ↦ absurd (let place : Port box port ≡ Host end = at_host.1 in cc)
      | inr at_port ↦
          let found : IsPortOf 0 plan.boxes at_port.0 (Port box port) = at_port.2 in
          let place : Port box port ≡ Port (0 + found.box) found.port = found.place_is in
          let same_box : found.box ≡ box = (let turned : box ≡ 0 + found.box = cc in omega arith) in
          let same_port : found.port ≡ port = cc in (
            subst (λ (b : ℕ). b < boxes_of plan) same_box found.box_in_range,
            subst (λ (b : ℕ). port < ports_of plan (box_at plan b)) same_box
                (subst (λ (p : ℕ). p < ports_of plan (box_at plan found.box)) same_port found.port_in_range),
            subst (λ (b : ℕ). end ≡ first_end plan b + port) same_box
                (let is : at_port.0
                ≡ ports_before plan.boxes found.box + found.port =
                found.end_is in omega (arith, is, at_port.1, same_port)),
          )
    ],
    λ is.
        get_behind (host_places plan) (port_places plan 0 plan.boxes) (ports_before plan.boxes box + port) end
        (let e : end ≡ length plan.hosts + ports_before plan.boxes box + port = is.2 in omega (arith, length-hosts, e))
        ∙ port_there 0 plan.boxes box port is.0 is.1
        ∙ ap (λ (b : ℕ). Some (Port b port)) (zero-add box),
  )

  pub end_in_range : (end : ℕ) (place : Place) → IsEndAt plan end place → end < ends_of plan
  end_in_range end place there = slice_get_within (places_of plan) end place there

  pub end_once : (end : ℕ) (one two : Place) → IsEndAt plan end one → IsEndAt plan end two → one ≡ two
  end_once end one two first second = inside one two (sym first ∙ second)
