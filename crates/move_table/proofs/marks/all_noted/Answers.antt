use Rattle.std.proofs.Common.{◌≡◌, ℕ, ◌+◌, ◌^◌, ◌<◌, ◌≤◌, ◌⊎◌, inl, inr, List, length, refl, sym, subst, get_or, arith}
use Rattle.std.proofs.lemmas.Bool.{cases_lt}
use Rattle.std.proofs.lemmas.List.{get_or_default}
use Rattle.box_contents.specs.declared.entry.Entry.{Entry}
use Rattle.box_moves.specs.Moves.{masks_at}
use Rattle.net_plan.specs.declared.plan.Plan.{Plan}
use Rattle.query_tables.specs.Sites.{IsMember}
use Rattle.query_tables.specs.Tables.{tuples_in}
use Rattle.move_table.specs.Effect.{between}
use Rattle.move_table.specs.Marks.{IsNotedAt, ReachesOutside}
use Rattle.move_table.proofs.MarkLemmas.{few_masks_at, member_in_range}
use Rattle.move_table.proofs.OutsideLemmas.{noted_within}
use Rattle.move_table.proofs.marks.all_noted.Goals as goal

pub is_noted_at-requires-clause-packet : goal.is_noted_at-requires-clause-packet
is_noted_at-requires-clause-packet c =
    member_in_range c.args.tables.now.plan c.args.net.now c.requires.tables c.args.b c.args.site.now
    c.members-q-items.result.now (c.members-q-items.ensures.only c.args.site.now c.requires.at) c.loop-q.q-index _
    c.loop-q-test.true

pub tuples-requires-clause-packet : goal.tuples-requires-clause-packet
tuples-requires-clause-packet c =
    member_in_range c.args.tables.now.plan c.args.tables.now.plan refl c.args.b c.args.site.now
    c.members-q-items.result.now (c.members-q-items.ensures.only c.args.site.now c.requires.at) c.loop-q.q-index _
    c.loop-q-test.true

-- one packet more
more : (P : ℕ → Type 0) (items : List ℕ) (at e : ℕ) → at < length items → P (get_or items at e) →
    ((k d : ℕ) → k < at → P (get_or items k d)) → (k d : ℕ) → k < at + 1 → P (get_or items k d)
more P items at e within here before k d less = elim (cases_lt k at) [
  | inl earlier ↦ before k d earlier
  | inr later ↦ let same : at ≡ k = omega (arith, less, later) in
      subst (λ (n : ℕ). P (get_or items n d)) same (subst P (get_or_default items at e d within) here)
]

pub loop-q-preserved-then-reaches_outside : goal.loop-q-preserved-then-reaches_outside
loop-q-preserved-then-reaches_outside c =
    let plan = c.args.net.now in
    let fixed = c.args.site.now.fixed in
    let items = c.members-q-items.result.now in
    more (λ (q : ℕ). IsNotedAt plan c.args.moves.now c.args.b (between fixed c.args.w c.args.after) q
    ⊎ ReachesOutside fixed (tuples_in plan c.args.b q) c.args.w c.args.after) items c.loop-q.q-index 0 c.loop-q-test.true
    (inr (subst (λ (p : Plan). ReachesOutside fixed (tuples_in p c.args.b (get_or items c.loop-q.q-index 0)) c.args.w
    c.args.after) c.requires.tables
    (subst (λ (l : List Entry). ReachesOutside fixed l c.args.w c.args.after) c.tuples.ensures
    (c.reaches_outside.ensures.0 c.if-reaches_outside.true)))) c.loop-q.invariant

pub loop-q-preserved : goal.loop-q-preserved
loop-q-preserved c =
    let plan = c.args.net.now in
    let fixed = c.args.site.now.fixed in
    more (λ (q : ℕ). IsNotedAt plan c.args.moves.now c.args.b (between fixed c.args.w c.args.after) q
    ⊎ ReachesOutside fixed (tuples_in plan c.args.b q) c.args.w c.args.after) c.members-q-items.result.now
    c.loop-q.q-index 0 c.loop-q-test.true (inl (c.is_noted_at.ensures c.if-not-is_noted_at.false)) c.loop-q.invariant

pub returns : goal.returns
returns c holds packet member mask known contents fit answered =
    let plan = c.args.net.now in
    let fixed = c.args.site.now.fixed in
    let items = c.members-q-items.result.now in
    let there = c.members-q-items.ensures.all c.args.site.now c.requires.at packet
    (subst (λ (p : Plan). IsMember p c.args.b c.args.site.now packet) (sym c.requires.tables) member) in
    let few : masks_at plan c.args.b ≤ 2 ^ 12 = few_masks_at plan c.args.b c.queries-queries.result.now
    c.queries-queries.ensures.queries c.queries-queries.ensures.few in
    noted_within plan c.args.moves.now c.args.b fixed c.args.w c.args.after packet
    (let below = c.requires.is.below in omega (arith, below, few)) (omega (arith, few))
    (subst (λ (q : ℕ). IsNotedAt plan c.args.moves.now c.args.b (between fixed c.args.w c.args.after) q
    ⊎ ReachesOutside fixed (tuples_in plan c.args.b q) c.args.w c.args.after) there.2
    (c.loop-q.invariant there.0 packet (omega (arith, there.1, c.loop-q-test.false))))
    mask known contents fit answered
