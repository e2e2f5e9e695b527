use Rattle.std.proofs.Common.{◌≡◌, ℕ, ◌<◌, ap, subst, arith}
use Rattle.net_plan.specs.declared.plan.Plan.{Plan}
use Rattle.net_plan.specs.Plan.{packets_of}
use Rattle.move_table.specs.Moves.{Move, Patches}
use Rattle.move_table.specs.Within.{AreNested, IsShared}
use Rattle.move_table.proofs.MarkLemmas.{one_site}
use Rattle.move_table.proofs.WithinLemmas.{below_none, below_next, below_all, within_known, within_of}
use Rattle.move_table.proofs.pairs.note_common.Goals as goal

pub returns-then-are_nested : goal.returns-then-are_nested
returns-then-are_nested g c =
    let plan = c.args.net.now in
    within_known plan
    (IsShared plan c.args.tables.now c.args.b c.args.p c.args.v c.args.update.now c.args.one c.args.other)
    (Patches plan c.args.b c.args.p c.args.v c.args.update.now) c.args.moves.now c.args.work.now c.requires.sized
    c.requires.followed
    (λ move is shared.
    let first = one_site c.args.tables.now c.args.b c.args.one c.site.result shared.common.of_one.site c.site.ensures.at
    shared.common.of_one.at in
    let second = one_site c.args.tables.now c.args.b c.args.other c.site-2.result shared.common.of_other.site
    c.site-2.ensures.at shared.common.of_other.at in
    absurd (shared.apart
    (subst (λ (n : ℕ). AreNested n shared.common.of_other.site.fixed) (ap (λ s. s.fixed) first)
    (subst (λ (n : ℕ). AreNested c.site.result.fixed n) (ap (λ s. s.fixed) second)
    (c.are_nested.ensures.0 c.if-are_nested.true)))))

pub loop-q-init : goal.loop-q-init
loop-q-init g c =
    let plan = c.args.net.now in
    record {
      within = below_none plan
          (IsShared plan c.args.tables.now c.args.b c.args.p c.args.v c.args.update.now c.args.one c.args.other)
          (Patches plan c.args.b c.args.p c.args.v c.args.update.now) c.args.moves.now c.args.work.now c.requires.sized
          c.requires.followed;
      small = omega arith;
    }

pub loop-q-preserved : goal.loop-q-preserved
loop-q-preserved g c =
    let plan = c.args.net.now in
    let found = c.in-Some.ensures in
    let less : c.in-Some.q < packets_of plan =
    subst (λ (p : Plan). c.in-Some.q < packets_of p) c.requires.tables found.1.of_one.member.in_range in
    let M = Patches plan c.args.b c.args.p c.args.v c.args.update.now in
    let Q = IsShared plan c.args.tables.now c.args.b c.args.p c.args.v c.args.update.now c.args.one c.args.other in
    record {
      within = below_next plan Q M c.loop-q.from c.in-Some.q (λ (move : Move). M move × (move.packet ≡ c.in-Some.q))
          c.args.moves.now c.loop-q.moves c.note_packet.new.moves c.args.work.now c.loop-q.work c.note_packet.new.work
          (λ move shared later before. found.2 move.packet later before shared.common)
          (λ move shared e. (shared.patches, e)) c.loop-q.invariant.within
          (within_of plan (λ (move : Move). M move × (move.packet ≡ c.in-Some.q)) M
          (λ (move : Move). M move × (move.packet ≡ c.in-Some.q)) c.loop-q.moves c.note_packet.new.moves c.loop-q.work
          c.note_packet.new.work (λ move is holds. holds) (λ move holds. holds.0) c.note_packet.ensures);
      small = omega (arith, less);
    }

pub returns : goal.returns
returns g c =
    let plan = c.args.net.now in
    below_all plan
    (IsShared plan c.args.tables.now c.args.b c.args.p c.args.v c.args.update.now c.args.one c.args.other)
    (Patches plan c.args.b c.args.p c.args.v c.args.update.now) c.loop-q.from c.args.moves.now c.loop-q.moves
    c.args.work.now c.loop-q.work (λ move shared later. c.in_default.ensures move.packet later shared.common)
    c.loop-q.invariant.within
