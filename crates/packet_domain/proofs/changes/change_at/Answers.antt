use Rattle.std.proofs.Common.{ℕ, List, arith}
use Rattle.net_plan.specs.declared.fact.Fact.TheVariants.{State}
use Rattle.packet_domain.specs.Reasons.{AgreeingChanges}
use Rattle.move_table.proofs.OfferedLemmas.{known_turn, known_all}
use Rattle.packet_domain.proofs.changes.change_at.Goals as goal

pub loop-w-preserved : goal.loop-w-preserved
loop-w-preserved g c =
    let plan = c.args.net.now in
    let found = c.in-Some.ensures in
    record {
      turns = known_turn plan (State c.args.b c.args.q)
          (λ (done : List ℕ) (w : ℕ). AgreeingChanges plan c.args.b c.args.p c.args.v c.args.fired.now c.args.q w)
          c.loop-w.at c.in-Some.w c.args.work.now c.loop-w.work c.change.new.work found.0 found.1 found.2
          c.loop-w.invariant.turns c.change.ensures;
      within = omega (arith, found.1.0.2);
    }

pub returns : goal.returns
returns g c =
    known_all c.args.net.now (State c.args.b c.args.q)
    (λ (done : List ℕ) (w : ℕ).
    AgreeingChanges c.args.net.now c.args.b c.args.p c.args.v c.args.fired.now c.args.q w)
    c.loop-w.at c.args.work.now c.loop-w.work c.in_default.ensures c.loop-w.invariant.turns
