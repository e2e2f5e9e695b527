use Rattle.std.proofs.Common.{ℕ, ◌≡◌, ◌<◌, ◌≤◌, List, [], ◌∷◌, ◌++◌, ap, sym, ◌∙◌, length, map, take, slice_index_or}
use Rattle.std.proofs.Common.{arith}
use Rattle.std.proofs.Math.ListN.{length-set}
use Rattle.std.proofs.lemmas.List.{length-map, take_more_set, take_more, map-append}
use Rattle.net_plan.specs.declared.plan.FieldPlan.{FieldPlan}
use Rattle.net_plan.specs.Plan.{size_of}
use Rattle.net_plan.proofs.tables.headers_of.Goals as goal

pub loop-k-preserved : goal.loop-k-preserved
loop-k-preserved c =
    let same : length (map (size_of c.args.plan.now) c.args.plan.now.fields) ≡ length c.args.plan.now.fields =
    length-map c.args.plan.now.fields (size_of c.args.plan.now) in
    let fields' : length c.as_slice-fields.result.now ≡ length c.args.plan.now.fields =
    ap length c.as_slice-fields.ensures in
    let eight : length c.as_slice-fields.result.now ≤ 8 =
    omega (arith, same, fields', c.requires.headers.headers.counted.1) in
    let in' : c.loop-k.k < length c.loop-k.sizes = omega (arith, c.loop-k.invariant.room, eight) in
    let fields : List FieldPlan = c.as_slice-fields.result.now in
    let field : FieldPlan = c.index-fields-k.result in
    record {
      read =
          take_more_set c.loop-k.sizes c.loop-k.k c.values_of.result in'
          ∙ ap (λ (sizes : List ℕ). sizes ++ c.values_of.result ∷ []) c.loop-k.invariant.read
          ∙ ap (λ (size : ℕ). map (size_of c.args.plan.now) (take c.loop-k.k fields) ++ size ∷ [])
          (c.values_of.ensures ∙ ap (size_of c.args.plan.now) c.index-fields-k.is)
          ∙ sym (map-append (size_of c.args.plan.now) (take c.loop-k.k fields)
          (slice_index_or fields c.loop-k.k field ∷ []))
          ∙ ap (map (size_of c.args.plan.now)) (sym (take_more fields c.loop-k.k field c.loop-k-test.true));
      room = length-set c.loop-k.sizes c.loop-k.k c.values_of.result ∙ c.loop-k.invariant.room;
    }
