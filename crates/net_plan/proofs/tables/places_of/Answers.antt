use Rattle.std.proofs.Common.{◌≡◌, ℕ, ◌+◌, ◌∷◌, ◌++◌, ◌<◌, List, length, map, drop, slice_index_or, sym, ap, ◌∙◌}
use Rattle.std.proofs.Common.{append_assoc}
use Rattle.std.specs.List.{range_with_len}
use Rattle.std.proofs.lemmas.List.{drop_more}
use Rattle.net_plan.specs.declared.plan.Plan.{Plan}
use Rattle.net_plan.specs.declared.plan.BoxPlan.{BoxPlan}
use Rattle.net_plan.specs.declared.plan.ClassPlan.{ClassPlan}
use Rattle.net_plan.specs.declared.fact.Place.{Place}
use Rattle.net_plan.specs.declared.fact.Place.TheVariants.{Port}
use Rattle.net_plan.specs.Plan.{class_of, ports_of}
use Rattle.net_plan.specs.Ends.{port_places, places_of}
use Rattle.net_plan.proofs.tables.places_of.Goals as goal

one_more : (plan : Plan) (i : ℕ) (boxes : List BoxPlan) (box : BoxPlan) (class : ClassPlan) (ports : List (List ℕ))
    (old new : List Place) →
    boxes ≡ plan.boxes → i < length boxes → box ≡ slice_index_or boxes i box → class ≡ class_of plan box →
    ports ≡ class.ports →
    new ≡ old ++ map (Port i) (range_with_len 0 (length ports)) →
    old ++ port_places plan i (drop i plan.boxes) ≡ places_of plan →
    new ++ port_places plan (i + 1) (drop (i + 1) plan.boxes) ≡ places_of plan
one_more plan i boxes box class ports old new are less is is_class is_ports pushed before =
    let rest : List Place = port_places plan (i + 1) (drop (i + 1) plan.boxes) in
    let cut : drop i boxes ≡ box ∷ drop (i + 1) boxes =
    drop_more boxes i box less ∙ ap (λ (b : BoxPlan). b ∷ drop (i + 1) boxes) (sym is) in
    let cut' : drop i plan.boxes ≡ box ∷ drop (i + 1) plan.boxes =
    ap (drop i) (sym are) ∙ cut ∙ ap (λ (l : List BoxPlan). box ∷ drop (i + 1) l) are in
    let count : length ports ≡ ports_of plan box =
    ap length is_ports ∙ ap (λ (k : ClassPlan). length k.ports) is_class in
    let own : map (Port i) (range_with_len 0 (length ports)) ≡ map (Port i) (range_with_len 0 (ports_of plan box)) =
    ap (λ (n : ℕ). map (Port i) (range_with_len 0 n)) count in
    ap (λ (l : List Place). l ++ rest) (pushed ∙ ap (λ (l : List Place). old ++ l) own)
    ∙ append_assoc old (map (Port i) (range_with_len 0 (ports_of plan box))) rest
    ∙ ap (λ (l : List BoxPlan). old ++ port_places plan i l) (sym cut')
    ∙ before

pub loop-number-preserved : goal.loop-number-preserved
loop-number-preserved c =
    one_more c.args.plan.now c.loop-number.number c.as_slice-boxed-items.result.now c.boxed-item.result
    c.class_of_box.result.now c.as_slice-in-loop-number.result.now
    c.loop-number.places c.push_ports.new.places c.as_slice-boxed-items.ensures c.loop-number-test.true c.boxed-item.is
    c.class_of_box.ensures.class c.as_slice-in-loop-number.ensures
    c.in_ok-push_ports.ensures c.loop-number.invariant
