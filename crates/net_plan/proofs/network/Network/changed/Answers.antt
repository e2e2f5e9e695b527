use Rattle.std.proofs.Common.{ℕ, ◌<◌, List, length, slice_index, slice_index_or, sym, ap, subst, arith}
use Rattle.header_set.specs.Headers.{product}
use Rattle.box_handlers.specs.declared.act.Term.TheVariants.{Field}
use Rattle.box_handlers.specs.Tuple.{value_of}
use Rattle.net_plan.specs.Plan.{sizes_of, fields_at}
use Rattle.net_plan.proofs.ReadLemmas.{sizes_long, change_is_read, change_has_field, change_is_below, one_changed}
use Rattle.net_plan.proofs.network.Network.changed.Goals as goal

pub value_at-value-requires-clause-read : goal.value_at-value-requires-clause-read
value_at-value-requires-clause-read c =
    change_is_read c.args.self.now c.args.changes.now c.args.p c.args.picked.now c.loop-change.change-index
    c.loop-change.changed (record { field = 0; to = Field 0 })
    c.sound.ensures c.requires.fit c.loop-change-test.true

pub with_field-changed-requires-clause-in_range : goal.with_field-changed-requires-clause-in_range
with_field-changed-requires-clause-in_range c =
    let field :
    (slice_index_or c.args.changes.now c.loop-change.change-index
    (record { field = 0; to = Field 0 })).field < length c.args.self.now.fields =
    change_has_field c.args.self.now c.args.changes.now c.args.p c.args.picked.now c.loop-change.change-index
    c.loop-change.changed (record { field = 0; to = Field 0 })
    c.sound.ensures c.requires.fit c.loop-change-test.true in
    omega (arith, field, sizes_long c.args.self.now, ap length c.headers.ensures)

pub with_field-changed-requires-clause-value : goal.with_field-changed-requires-clause-value
with_field-changed-requires-clause-value c =
    let below : value_of (fields_at c.args.self.now c.args.p) c.args.picked.now
    (slice_index_or c.args.changes.now c.loop-change.change-index
    (record { field = 0; to = Field 0 })).to < slice_index (sizes_of c.args.self.now)
    (slice_index_or c.args.changes.now c.loop-change.change-index (record { field = 0; to = Field 0 })).field =
    change_is_below c.args.self.now c.args.changes.now c.args.p c.args.picked.now c.loop-change.change-index
    c.loop-change.changed (record { field = 0; to = Field 0 })
    c.sound.ensures c.requires.fit c.loop-change-test.true in
    let less : c.value_at-value.result < slice_index (sizes_of c.args.self.now)
    (slice_index_or c.args.changes.now c.loop-change.change-index
    (record { field = 0; to = Field 0 })).field = omega (arith, below, c.value_at-value.ensures) in
    subst (λ (sizes : List ℕ). c.value_at-value.result < slice_index sizes
    (slice_index_or c.args.changes.now c.loop-change.change-index (record { field = 0; to = Field 0 })).field)
    (sym c.headers.ensures) less

pub loop-change-preserved : goal.loop-change-preserved
loop-change-preserved c = record {
  fields =
      one_changed c.args.self.now c.args.changes.now c.args.p c.args.picked.now c.loop-change.change-index
      c.loop-change.changed (record { field = 0; to = Field 0 })
      c.sound.ensures c.requires.fit c.loop-change-test.true
      c.headers.result.now c.value_at-value.result c.with_field-changed.result c.headers.ensures
      c.value_at-value.ensures c.loop-change.invariant.fields c.with_field-changed.ensures;
  in_range =
      subst
      (λ (sizes : List ℕ). c.with_field-changed.result < product sizes) c.headers.ensures
      c.with_field-changed.ensures.below;
}
