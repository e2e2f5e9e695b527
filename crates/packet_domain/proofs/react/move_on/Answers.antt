use Rattle.std.proofs.Common.{ℕ, ◌^◌, ◌<◌, ◌≤◌, length, ap, subst, arith}
use Rattle.std.proofs.Math.Pow.{pow_mono}
use Rattle.net_plan.specs.declared.plan.Plan.{Plan}
use Rattle.box_moves.specs.Moves.{masks_at, HasMove, HasNoMoveFrom}
use Rattle.packet_domain.proofs.MoveLemmas.{move_turn, move_all}
use Rattle.packet_domain.proofs.react.move_on.Goals as goal

pub loop-other-preserved : goal.loop-other-preserved
loop-other-preserved g c =
    let plan = c.args.net.now in
    let moves = c.args.table.now.moves in
    let found = c.in-Some.ensures in
    let has = subst (λ (p : Plan). HasMove p moves c.args.b c.args.q c.args.w c.in-Some.other) c.requires.table found.1 in
    let below : c.in-Some.other < masks_at plan c.args.b = has.is_move.other_is in
    record {
      turns = move_turn plan moves c.args.b c.args.q c.args.w c.loop-other.from c.in-Some.other c.args.work.now
          c.loop-other.work c.offer.new.work found.0 has
          (subst (λ (p : Plan). HasNoMoveFrom p moves c.args.b c.args.q c.args.w c.loop-other.from c.in-Some.other)
          c.requires.table found.2) c.loop-other.invariant.turns c.offer.ensures;
      within = omega (arith, below);
    }

pub returns : goal.returns
returns g c =
    let plan = c.args.net.now in
    let moves = c.args.table.now.moves in
    move_all plan moves c.args.b c.args.q c.args.w c.loop-other.from c.args.work.now c.loop-other.work
    (subst (λ (p : Plan). HasNoMoveFrom p moves c.args.b c.args.q c.args.w c.loop-other.from (masks_at p c.args.b))
    c.requires.table c.in_default.ensures) c.loop-other.invariant.turns

pub overflow_add-from : goal.overflow_add-from
overflow_add-from g c =
    let plan = c.args.net.now in
    let moves = c.args.table.now.moves in
    let has = subst (λ (p : Plan). HasMove p moves c.args.b c.args.q c.args.w c.in-Some.other) c.requires.table
    c.in-Some.ensures.1 in
    let below : c.in-Some.other < masks_at plan c.args.b = has.is_move.other_is in
    let long = ap length c.queries-queries.ensures.queries in
    let few : 2 ^ length c.queries-queries.result.now ≤ 2 ^ 12 =
    pow_mono {i = length c.queries-queries.result.now} {j = 12} c.queries-queries.ensures.few in
    let most : masks_at plan c.args.b ≤ 4096 = subst (λ (n : ℕ). 2 ^ n ≤ 4096) long few in
    omega (arith, below, most)
