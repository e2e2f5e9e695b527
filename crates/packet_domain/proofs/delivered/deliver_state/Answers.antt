use Rattle.std.proofs.Common.{ℕ, ◌<◌, ◌≤◌, List, subst, ◌∙◌}
use Rattle.net_plan.specs.Plan.{box_at, ports_of}
use Rattle.packet_domain.specs.Reasons.{AsStateAt}
use Rattle.move_table.specs.Moves.{Adds}
use Rattle.packet_domain.specs.Table.{MovesAsStateAt}
use Rattle.move_table.proofs.AddLemmas.{moves_below_turn, moves_below_all}
use Rattle.move_table.proofs.OfferedLemmas.{below_turn, below_all}
use Rattle.packet_domain.proofs.RoleLemmas.{as_state}
use Rattle.packet_domain.proofs.MoveLemmas.{moves_as_state}
use Rattle.packet_domain.proofs.delivered.deliver_state.Goals as goal

pub loop-port-preserved : goal.loop-port-preserved
loop-port-preserved g c =
    let plan = c.args.net.now in
    record {
      made = c.deliver_at.ensures.same ∙ c.loop-port.invariant.made;
      table = c.deliver_at.ensures.table ∙ c.loop-port.invariant.table;
      followed = c.deliver_at.ensures.followed;
      turns = below_turn plan (ports_of plan (box_at plan c.args.b))
          (λ (done : List ℕ) (port : ℕ). AsStateAt plan done c.args.b c.args.p c.args.v port) c.loop-port.port
          c.args.work.now c.loop-port.work c.deliver_at.new.work
          (subst (λ (n : ℕ). c.loop-port.port < n) c.ports-port-end.ensures.ports c.loop-port-test.true)
          c.loop-port.invariant.turns c.deliver_at.ensures.offered;
      adds = moves_below_turn plan (ports_of plan (box_at plan c.args.b))
          (λ (port : ℕ). MovesAsStateAt plan c.args.work.now.done c.args.b c.args.p c.args.v port) c.loop-port.port
          c.args.table.now.moves c.loop-port.table.moves c.deliver_at.new.table.moves
          (subst (λ (n : ℕ). c.loop-port.port < n) c.ports-port-end.ensures.ports c.loop-port-test.true)
          c.loop-port.invariant.adds
          (subst (λ (d : List ℕ). Adds plan (MovesAsStateAt plan d c.args.b c.args.p c.args.v c.loop-port.port)
          c.loop-port.table.moves c.deliver_at.new.table.moves) c.loop-port.invariant.turns.grows.done c.deliver_at.ensures.adds);
    }

pub returns-clause-offered : goal.returns-clause-offered
returns-clause-offered g c =
    let plan = c.args.net.now in
    as_state plan c.args.work.now.done c.args.work.now c.loop-port.work c.args.b c.args.p c.args.v
    (below_all plan (ports_of plan (box_at plan c.args.b))
    (λ (done : List ℕ) (port : ℕ). AsStateAt plan done c.args.b c.args.p c.args.v port) c.loop-port.port
    c.args.work.now c.loop-port.work
    (subst (λ (n : ℕ). n ≤ c.loop-port.port) c.ports-port-end.ensures.ports c.loop-port-test.false)
    c.loop-port.invariant.turns)

pub returns-clause-adds : goal.returns-clause-adds
returns-clause-adds g c =
    let plan = c.args.net.now in
    moves_as_state plan c.args.work.now.done c.args.table.now.moves c.loop-port.table.moves c.args.b c.args.p c.args.v
    (moves_below_all plan (ports_of plan (box_at plan c.args.b))
    (λ (port : ℕ). MovesAsStateAt plan c.args.work.now.done c.args.b c.args.p c.args.v port) c.loop-port.port
    c.args.table.now.moves c.loop-port.table.moves
    (subst (λ (n : ℕ). n ≤ c.loop-port.port) c.ports-port-end.ensures.ports c.loop-port-test.false)
    c.loop-port.invariant.adds)
