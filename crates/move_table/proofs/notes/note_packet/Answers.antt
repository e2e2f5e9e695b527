use Rattle.std.proofs.Common.{◌≡◌, ℕ, ◌^◌, ◌<◌, ◌≤◌, List, length, subst, arith}
use Rattle.box_handlers.specs.declared.act.Query.{Query}
use Rattle.net_plan.specs.declared.plan.Plan.{Plan}
use Rattle.box_moves.specs.Moves.{masks_at}
use Rattle.box_masks.specs.declared.write.Write.{Write}
use Rattle.box_masks.specs.Writes.{AreShown}
use Rattle.query_tables.specs.Tables.{queries_of, tuples_in}
use Rattle.move_table.specs.declared.effect.Effect.{Effect}
use Rattle.move_table.specs.Effect.{effect_over, HasNoKnown}
use Rattle.move_table.specs.Moves.{Move, Patches}
use Rattle.move_table.proofs.CoverLemmas.{effect_is}
use Rattle.move_table.proofs.EffectLemmas.{shown_known}
use Rattle.move_table.proofs.NoteLemmas.{FirstMoves, first_none, first_jump, first_turn, first_all}
use Rattle.move_table.proofs.WithinLemmas.{followed_noted}
use Rattle.move_table.proofs.notes.note_packet.Goals as goal

pub note_mask-requires-clause-followed : goal.note_mask-requires-clause-followed
note_mask-requires-clause-followed g c =
    followed_noted c.args.net.now
    (FirstMoves c.args.net.now
    (λ (move : Move). Patches c.args.net.now c.args.b c.args.p c.args.v c.args.update.now move × (move.packet ≡ c.args.q))
    (λ move. move.mask) c.loop-w.from) c.args.moves.now c.loop-w.moves c.args.work.now c.loop-w.work
    c.loop-w.invariant.noted c.requires.followed

pub loop-w-init : goal.loop-w-init
loop-w-init g c =
    record {
      noted = first_none c.args.net.now
          (λ (move : Move). Patches c.args.net.now c.args.b c.args.p c.args.v c.args.update.now move
          × (move.packet ≡ c.args.q))
          (λ move. move.mask) c.args.moves.now c.args.work.now c.requires.sized;
      within = omega arith;
    }

-- no move comes from a mask without the known bits
none_between : (plan : Plan) (box packet mask q : ℕ) (update : List Write) (effect : Effect) (masks from to : ℕ) →
    effect ≡ effect_over (tuples_in plan box packet) mask update (tuples_in plan box q) → queries_of plan box ≤ 12 →
    to ≤ 2 ^ 16 → HasNoKnown effect.known effect.bits from to → (move : Move) →
    Patches plan box packet mask update move × (move.packet ≡ q) → from ≤ move.mask → move.mask < to → ⊥
none_between plan box packet mask q update effect masks from to is few most none move holds later less =
    none move.mask later less
    (shown_known plan box packet mask q move.mask update effect is few (omega (arith, less, most))
    (subst (λ (n : ℕ). AreShown plan box packet mask n move.mask) holds.1 holds.0.shown))

pub loop-w-preserved : goal.loop-w-preserved
loop-w-preserved g c =
    let plan = c.args.net.now in
    let found = c.in-Some.ensures in
    let few : queries_of plan c.args.b ≤ 12 =
    subst (λ (l : List Query). length l ≤ 12) c.queries-queries.ensures.queries c.queries-queries.ensures.few in
    let Q = λ (move : Move). Patches plan c.args.b c.args.p c.args.v c.args.update.now move × (move.packet ≡ c.args.q) in
    let less = found.1 in
    record {
      noted = first_turn plan Q (λ move. move.mask) c.in-Some.w c.args.moves.now c.loop-w.moves c.note_mask.new.moves
          c.args.work.now c.loop-w.work c.note_mask.new.work
          (first_jump plan Q (λ move. move.mask) c.loop-w.from c.in-Some.w c.args.moves.now c.loop-w.moves
          c.args.work.now c.loop-w.work found.0
          (λ move is holds later before. none_between plan c.args.b c.args.p c.args.v c.args.q c.args.update.now
          c.effect_of-effect.result c.masks_of-masks.result c.loop-w.from c.in-Some.w (effect_is plan c.args.b c.args.p c.args.v c.args.q c.args.update.now c.args.tables.now.plan c.tuples.result.now
          c.tuples-2.result.now c.effect_of-effect.result c.requires.tables c.tuples.ensures c.tuples-2.ensures
          c.effect_of-effect.ensures.effect) few
          (omega (arith, less, c.masks_of-masks.ensures.few)) found.3 move holds later before)
          c.loop-w.invariant.noted) c.note_mask.ensures;
      within = omega (arith, less);
    }

pub returns : goal.returns
returns g c =
    let plan = c.args.net.now in
    let few : queries_of plan c.args.b ≤ 12 =
    subst (λ (l : List Query). length l ≤ 12) c.queries-queries.ensures.queries c.queries-queries.ensures.few in
    let Q = λ (move : Move). Patches plan c.args.b c.args.p c.args.v c.args.update.now move × (move.packet ≡ c.args.q) in
    first_all plan Q (λ move. move.mask) c.masks_of-masks.result c.args.moves.now c.loop-w.moves c.args.work.now c.loop-w.work
    (λ move is holds.
    let small : move.mask < masks_at plan c.args.b =
    subst (λ (b : ℕ). move.mask < masks_at plan b) holds.0.boxed is.mask_is in
    omega (arith, small, c.masks_of-masks.ensures.masks))
    (first_jump plan Q (λ move. move.mask) c.loop-w.from c.masks_of-masks.result c.args.moves.now c.loop-w.moves
    c.args.work.now c.loop-w.work c.loop-w.invariant.within
    (λ move is holds later before. none_between plan c.args.b c.args.p c.args.v c.args.q c.args.update.now
    c.effect_of-effect.result c.masks_of-masks.result c.loop-w.from c.masks_of-masks.result
    (effect_is plan c.args.b c.args.p c.args.v c.args.q c.args.update.now c.args.tables.now.plan c.tuples.result.now
    c.tuples-2.result.now c.effect_of-effect.result c.requires.tables c.tuples.ensures c.tuples-2.ensures
    c.effect_of-effect.ensures.effect) few (omega (arith, c.masks_of-masks.ensures.few)) c.in_default.ensures move holds later before)
    c.loop-w.invariant.noted)
