use Rattle.std.proofs.Common.{ℕ, List, ◌∙◌, arith}
use Rattle.net_plan.specs.declared.fact.Fact.TheVariants.{State}
use Rattle.packet_domain.specs.Reasons.{IsDelivered}
use Rattle.packet_domain.specs.Table.{MovesBy}
use Rattle.move_table.proofs.AddLemmas.{moves_known_turn, moves_known_all}
use Rattle.move_table.proofs.OfferedLemmas.{known_turn, known_all}
use Rattle.packet_domain.proofs.delivered.deliver_to.Goals as goal

pub loop-v-preserved : goal.loop-v-preserved
loop-v-preserved g c =
    let plan = c.args.net.now in
    let inlet = c.args.inlet in
    let found = c.in-Some.ensures in
    record {
      made = c.deliver.ensures.same ∙ c.loop-v.invariant.made;
      table = c.deliver.ensures.table ∙ c.loop-v.invariant.table;
      followed = c.deliver.ensures.followed;
      turns = known_turn plan (State inlet.b c.args.p)
          (λ (done : List ℕ) (v : ℕ). IsDelivered plan done inlet.end c.args.p inlet.b v) c.loop-v.at c.in-Some.v
          c.args.work.now c.loop-v.work c.deliver.new.work found.0 found.1 found.2 c.loop-v.invariant.turns
          c.deliver.ensures.offered;
      adds = moves_known_turn plan c.args.work.now.done (State inlet.b c.args.p)
          (λ (v : ℕ). MovesBy plan inlet.end c.args.p inlet.b v) c.loop-v.work.done c.loop-v.at c.in-Some.v
          c.args.table.now.moves c.loop-v.table.moves c.deliver.new.table.moves c.loop-v.invariant.turns.grows.done found.0 found.1 found.2
          c.loop-v.invariant.adds c.deliver.ensures.adds;
      within = omega (arith, found.1.0.2);
    }

pub returns-clause-offered : goal.returns-clause-offered
returns-clause-offered g c =
    let plan = c.args.net.now in
    let inlet = c.args.inlet in
    known_all plan (State inlet.b c.args.p)
    (λ (done : List ℕ) (v : ℕ). IsDelivered plan done inlet.end c.args.p inlet.b v) c.loop-v.at c.args.work.now
    c.loop-v.work c.in_default.ensures c.loop-v.invariant.turns

pub returns-clause-adds : goal.returns-clause-adds
returns-clause-adds g c =
    let plan = c.args.net.now in
    let inlet = c.args.inlet in
    moves_known_all plan c.args.work.now.done (State inlet.b c.args.p)
    (λ (v : ℕ). MovesBy plan inlet.end c.args.p inlet.b v) c.loop-v.work.done c.loop-v.at c.args.table.now.moves c.loop-v.table.moves
    c.loop-v.invariant.turns.grows.done c.in_default.ensures c.loop-v.invariant.adds
