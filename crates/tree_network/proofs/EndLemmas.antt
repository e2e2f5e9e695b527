-- The numbers of the ends: the hosts in their order, and then the ports of one box after another.
use Rattle.std.proofs.Common.{◌≡◌, ℕ, suc, zero, ◌+◌, ◌-◌, ◌<◌, ◌≤◌, Bool, true, false, cond, ◌&&◌, nat_eq, List, []}
use Rattle.std.proofs.Common.{◌∷◌, ◌++◌, length, drop, get_or, map, Option, Some, None, refl, sym, ap, ◌∙◌, arith, inl}
use Rattle.std.proofs.Common.{inr}
use Rattle.std.specs.Borrow.{Bor}
use Rattle.std.specs.List.{position_from, range_with_len}
use Rattle.std.specs.Option.{option_or, option_map, unwrap_or}
use Rattle.std.specs.Slice.{IsItemAt}
use Rattle.std.proofs.lemmas.Bool.Decides.{eqb_tells, Decides-eqb, nat_tests}
use Rattle.std.proofs.lemmas.List.{drop_all, length-map}
use Rattle.std.proofs.lemmas.List.FromFn.{length-range_with_len}
use Rattle.net_plan.specs.declared.plan.Plan.{Plan}
use Rattle.net_plan.specs.declared.plan.BoxPlan.{BoxPlan}
use Rattle.net_plan.specs.declared.plan.ClassPlan.{ClassPlan}
use Rattle.net_plan.specs.declared.fact.Place.{Place}
use Rattle.net_plan.specs.declared.fact.Place.TheVariants.{Host, Port}
use Rattle.net_plan.specs.Plan.{ports_of}
use Rattle.net_plan.specs.Ends.{box_places, port_places, places_of}
use Rattle.tree_plan.specs.Net.{same_place, end_at}
use Rattle.tree_plan.proofs.StepLemmas.{next_part}

eq_yes : (a b : ℕ) → a ≡ b → nat_eq a b ≡ true
eq_yes a b same = (Decides-eqb a b).1 same

eq_no : (a b : ℕ) → (a ≡ b → ⊥) → nat_eq a b ≡ false
eq_no a b other = grind (arith, nat_tests)

-- a number is there or isn't
choice_or : {A : Type 0} (b : Bool) (x : A) (one two three : Option A) → one ≡ option_or two three →
    cond b (Some x) one ≡ option_or (cond b (Some x) two) three
choice_or true x one two three same = refl
choice_or false x one two three same = same

-- the first place in one list or else in the other
position_append : {A : Type 0} (t : A → Bool) (i : ℕ) (xs ys : List A) →
    position_from t i (xs ++ ys) ≡ option_or (position_from t i xs) (position_from t (i + length xs) ys)
position_append t i [] ys = ap (λ k. position_from t k ys) (omega arith)
position_append t i (x ∷ xs) ys =
    choice_or (t x) i (position_from t (i + 1) (xs ++ ys)) (position_from t (i + 1) xs)
    (position_from t (i + suc (length xs)) ys)
    (position_append t (i + 1) xs ys
    ∙ ap (λ k. option_or (position_from t (i + 1) xs) (position_from t k ys)) (omega arith))

-- what a test of two numbers picks
picked_by : {A : Type 0} (a b : ℕ) (one two result : A) → (a ≡ b → one ≡ result) → ((a ≡ b → ⊥) → two ≡ result) →
    cond (nat_eq a b) one two ≡ result
picked_by a b one two result same other =
    elim (eqb_tells a b) [
      | inl (tested, e) ↦ ap (λ t. cond t one two) tested ∙ same e
      | inr (tested, e) ↦ ap (λ t. cond t one two) tested ∙ other e
    ]

-- hosts
host_inside : (h s n : ℕ) → s ≤ h → h < s + n →
    position_from (same_place (Host h)) s (map Host (range_with_len s n)) ≡ Some h
host_inside h s zero low high = absurd (omega arith)
host_inside h s (suc n) low high =
    picked_by h s (Some s) (position_from (same_place (Host h)) (s + 1) (map Host (range_with_len (s + 1) n))) (Some h)
    (λ same. ap Some (sym same)) (λ other. host_inside h (s + 1) n (omega arith) (omega arith))

host_past : (h s i n : ℕ) → s + n ≤ h → position_from (same_place (Host h)) i (map Host (range_with_len s n)) ≡ None
host_past h s i zero past = refl
host_past h s i (suc n) past =
    picked_by h s (Some i) (position_from (same_place (Host h)) (i + 1) (map Host (range_with_len (s + 1) n))) None
    (λ same. absurd (omega arith)) (λ other. host_past h (s + 1) (i + 1) n (omega arith))

host_at_port : (h i number : ℕ) (ports : List ℕ) →
    position_from (same_place (Host h)) i (map (Port number) ports) ≡ None
host_at_port h i number [] = refl
host_at_port h i number (port ∷ ports) = host_at_port h (i + 1) number ports

host_at_ports : (plan : Plan) (h i number : ℕ) (boxes : List BoxPlan) →
    position_from (same_place (Host h)) i (port_places plan number boxes) ≡ None
host_at_ports plan h i number [] = refl
host_at_ports plan h i number (box ∷ boxes) =
    position_append (same_place (Host h)) i (box_places plan number box) (port_places plan (number + 1) boxes)
    ∙ (λ k. option_or (host_at_port h i number (range_with_len 0 (ports_of plan box)) k)
    (host_at_ports plan h (i + length (box_places plan number box)) (number + 1) boxes k))

module _ (plan : Plan) (h : ℕ) where
  host_end : (found : Option ℕ) →
      position_from (same_place (Host h)) 0 (map Host (range_with_len 0 (length plan.hosts))) ≡ found →
      found ≡ end_at (places_of plan) (Host h)
  host_end found among =
      sym (position_append (same_place (Host h)) 0 (map Host (range_with_len 0 (length plan.hosts)))
      (port_places plan 0 plan.boxes)
      ∙ (λ k. option_or (among k)
      (host_at_ports plan h (0 + length (map Host (range_with_len 0 (length plan.hosts)))) 0 plan.boxes k))
      ∙ alone found)
    where
      alone : (found : Option ℕ) → option_or found None ≡ found
      alone None = refl
      alone (Some end) = refl

  pub host_there : h < length plan.hosts → Some h ≡ end_at (places_of plan) (Host h)
  host_there inside = host_end (Some h) (host_inside h 0 (length plan.hosts) (omega arith) (omega arith))

  pub host_nowhere : length plan.hosts ≤ h → None ≡ end_at (places_of plan) (Host h)
  host_nowhere past = host_end None (host_past h 0 0 (length plan.hosts) (omega arith))

-- ports
and_yes : (a b : Bool) → a ≡ true → (a && b) ≡ b
and_yes a b holds = ap (λ t. t && b) holds

and_no : (a b : Bool) → a ≡ false → (a && b) ≡ false
and_no a b fails = ap (λ t. t && b) fails

module _ (b p : ℕ) where
  abbrev at_port : ℕ → List Place → Option ℕ
  at_port i places = position_from (same_place (Port b p)) i places

  port_at_host : (i : ℕ) (hosts : List ℕ) → at_port i (map Host hosts) ≡ None
  port_at_host i [] = refl
  port_at_host i (host ∷ hosts) = port_at_host (i + 1) hosts

  port_at_other : (i number : ℕ) (ports : List ℕ) → (b ≡ number → ⊥) → at_port i (map (Port number) ports) ≡ None
  port_at_other i number [] other = refl
  port_at_other i number (port ∷ ports) other =
      ap (λ t. cond t (Some i) (at_port (i + 1) (map (Port number) ports)))
      (and_no (nat_eq b number) (nat_eq p port) (eq_no b number other))
      ∙ port_at_other (i + 1) number ports other

  port_first : (i port : ℕ) (ports : List ℕ) →
      at_port i (map (Port b) (port ∷ ports)) ≡ cond (nat_eq p port) (Some i) (at_port (i + 1) (map (Port b) ports))
  port_first i port ports =
      ap (λ t. cond t (Some i) (at_port (i + 1) (map (Port b) ports)))
      (and_yes (nat_eq b b) (nat_eq p port) (eq_yes b b refl))

  port_inside : (i s n : ℕ) → s ≤ p → p < s + n → at_port i (map (Port b) (range_with_len s n)) ≡ Some (i + (p - s))
  port_inside i s zero low high = absurd (omega arith)
  port_inside i s (suc n) low high =
      port_first i s (range_with_len (s + 1) n)
      ∙ picked_by p s (Some i) (at_port (i + 1) (map (Port b) (range_with_len (s + 1) n))) (Some (i + (p - s)))
      (λ same. ap Some (omega arith))
      (λ other. port_inside (i + 1) (s + 1) n (omega arith) (omega arith) ∙ ap Some (omega arith))

  port_past : (i s n : ℕ) → s + n ≤ p → at_port i (map (Port b) (range_with_len s n)) ≡ None
  port_past i s zero past = refl
  port_past i s (suc n) past =
      port_first i s (range_with_len (s + 1) n)
      ∙ picked_by p s (Some i) (at_port (i + 1) (map (Port b) (range_with_len (s + 1) n))) None
      (λ same. absurd (omega arith)) (λ other. port_past (i + 1) (s + 1) n (omega arith))

module _ (plan : Plan) (b p : ℕ) where
  abbrev pub at_boxes : ℕ → ℕ → List BoxPlan → Option ℕ
  at_boxes i number boxes = position_from (same_place (Port b p)) i (port_places plan number boxes)

  -- the ports of one box, and those of the others
  at_first : (i number : ℕ) (box : BoxPlan) (boxes : List BoxPlan) →
      at_boxes i number (box ∷ boxes)
      ≡ option_or (at_port b p i (box_places plan number box)) (at_boxes (i + ports_of plan box) (number + 1) boxes)
  at_first i number box boxes =
      position_append (same_place (Port b p)) i (box_places plan number box) (port_places plan (number + 1) boxes)
      ∙ ap (λ n. option_or (at_port b p i (box_places plan number box)) (at_boxes (i + n) (number + 1) boxes))
      (length-map (range_with_len 0 (ports_of plan box)) (Port number) ∙ length-range_with_len 0 (ports_of plan box))

  at_above : (i number : ℕ) (boxes : List BoxPlan) → b < number → at_boxes i number boxes ≡ None
  at_above i number [] above = refl
  at_above i number (box ∷ boxes) above =
      at_first i number box boxes
      ∙ (λ k. option_or (port_at_other b p i number (range_with_len 0 (ports_of plan box)) (λ same. omega arith) k)
      (at_above (i + ports_of plan box) (number + 1) boxes (omega arith) k))

  pub port_begun : end_at (places_of plan) (Port b p) ≡ at_boxes (length plan.hosts) 0 (drop 0 plan.boxes)
  port_begun =
      position_append (same_place (Port b p)) 0 (map Host (range_with_len 0 (length plan.hosts)))
      (port_places plan 0 plan.boxes)
      ∙ ap (λ found. option_or found
      (at_boxes (0 + length (map Host (range_with_len 0 (length plan.hosts)))) 0 plan.boxes))
      (port_at_host b p 0 (range_with_len 0 (length plan.hosts)))
      ∙ ap (λ n. at_boxes n 0 plan.boxes)
      (let long = length-map (range_with_len 0 (length plan.hosts)) Host
      ∙ length-range_with_len 0 (length plan.hosts) in omega (arith, long))

  at_here : (before i : ℕ) (box : BoxPlan) → i < length plan.boxes → box ≡ get_or plan.boxes i box →
      at_boxes before i (drop i plan.boxes)
      ≡ option_or (at_port b p before (box_places plan i box))
      (at_boxes (before + ports_of plan box) (i + 1) (drop (i + 1) plan.boxes))
  at_here before i box inside here =
      ap (at_boxes before i) (next_part plan.boxes i box inside here) ∙ at_first before i box (drop (i + 1) plan.boxes)

  pub port_later : (before new i : ℕ) (box : BoxPlan) → i < length plan.boxes → box ≡ get_or plan.boxes i box →
      end_at (places_of plan) (Port b p) ≡ at_boxes before i (drop i plan.boxes) → (i ≡ b → ⊥) →
      new ≡ before + ports_of plan box →
      end_at (places_of plan) (Port b p) ≡ at_boxes new (i + 1) (drop (i + 1) plan.boxes)
  port_later before new i box inside here known other added =
      known ∙ at_here before i box inside here
      ∙ ap (λ found. option_or found (at_boxes (before + ports_of plan box) (i + 1) (drop (i + 1) plan.boxes)))
      (port_at_other b p before i (range_with_len 0 (ports_of plan box)) (λ same. other (sym same)))
      ∙ ap (λ n. at_boxes n (i + 1) (drop (i + 1) plan.boxes)) (sym added)

  pub port_there : (before i : ℕ) (box : BoxPlan) → i < length plan.boxes → box ≡ get_or plan.boxes i box →
      end_at (places_of plan) (Port b p) ≡ at_boxes before i (drop i plan.boxes) → i ≡ b → p < ports_of plan box →
      Some (before + p) ≡ end_at (places_of plan) (Port b p)
  port_there before i box inside here known same low =
      sym (known ∙ at_here before i box inside here
      ∙ ap (λ n. option_or (at_port b p before (box_places plan n box))
      (at_boxes (before + ports_of plan box) (i + 1) (drop (i + 1) plan.boxes))) same
      ∙ ap (λ found. option_or found (at_boxes (before + ports_of plan box) (i + 1) (drop (i + 1) plan.boxes)))
      (port_inside b p before 0 (ports_of plan box) (omega arith) (omega arith)
      ∙ ap (λ n. Some (before + n)) (omega arith)))

  pub port_nowhere : (before i : ℕ) (box : BoxPlan) → i < length plan.boxes → box ≡ get_or plan.boxes i box →
      end_at (places_of plan) (Port b p) ≡ at_boxes before i (drop i plan.boxes) → i ≡ b → ports_of plan box ≤ p →
      None ≡ end_at (places_of plan) (Port b p)
  port_nowhere before i box inside here known same past =
      sym (known ∙ at_here before i box inside here
      ∙ ap (λ n. option_or (at_port b p before (box_places plan n box))
      (at_boxes (before + ports_of plan box) (i + 1) (drop (i + 1) plan.boxes))) same
      ∙ ap (λ found. option_or found (at_boxes (before + ports_of plan box) (i + 1) (drop (i + 1) plan.boxes)))
      (port_past b p before 0 (ports_of plan box) (omega arith))
      ∙ at_above (before + ports_of plan box) (i + 1) (drop (i + 1) plan.boxes) (omega arith))

  pub port_beyond : (before i : ℕ) → length plan.boxes ≤ i →
      end_at (places_of plan) (Port b p) ≡ at_boxes before i (drop i plan.boxes) →
      None ≡ end_at (places_of plan) (Port b p)
  port_beyond before i all known = sym (known ∙ ap (at_boxes before i) (drop_all i plan.boxes all))

-- how many ports a box has, by the class that a look-up lends
pub ports_by : (plan : Plan) (box : BoxPlan) (lent : Option (Bor ClassPlan)) (ports : ℕ) →
    IsItemAt plan.classes box.class lent →
    ports ≡ length (unwrap_or (option_map (λ class. class.now) lent)
    (record { ports = []; relations = []; handlers = []; queries = [] })).ports →
    ports ≡ ports_of plan box
ports_by plan box lent ports here counted =
    counted ∙ ap (λ class. length class.ports)
    (here.4 (omega arith) (record { ports = []; relations = []; handlers = []; queries = [] }))
