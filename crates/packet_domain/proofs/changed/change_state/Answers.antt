use Rattle.std.proofs.Common.{ℕ, ◌<◌, ◌≤◌, List, subst, ◌∙◌}
use Rattle.net_plan.specs.Plan.{box_at, ports_of}
use Rattle.packet_domain.specs.Reasons.{AsChangedAt}
use Rattle.move_table.proofs.OfferedLemmas.{below_turn, below_all}
use Rattle.packet_domain.proofs.RoleLemmas.{as_changed}
use Rattle.packet_domain.proofs.changed.change_state.Goals as goal

pub loop-port-preserved : goal.loop-port-preserved
loop-port-preserved g c =
    let plan = c.args.net.now in
    record {
      made = c.change_at_port.ensures.same ∙ c.loop-port.invariant.made;
      turns = below_turn plan (ports_of plan (box_at plan c.args.b))
          (λ (done : List ℕ) (port : ℕ). AsChangedAt plan done c.args.b c.args.q c.args.w port) c.loop-port.port
          c.args.work.now c.loop-port.work c.change_at_port.new.work
          (subst (λ (n : ℕ). c.loop-port.port < n) c.ports-port-end.ensures.ports c.loop-port-test.true)
          c.loop-port.invariant.turns c.change_at_port.ensures.offered;
    }

pub returns-clause-offered : goal.returns-clause-offered
returns-clause-offered g c =
    let plan = c.args.net.now in
    as_changed plan c.args.work.now.done c.args.work.now c.loop-port.work c.args.b c.args.q c.args.w
    (below_all plan (ports_of plan (box_at plan c.args.b))
    (λ (done : List ℕ) (port : ℕ). AsChangedAt plan done c.args.b c.args.q c.args.w port) c.loop-port.port
    c.args.work.now c.loop-port.work
    (subst (λ (n : ℕ). n ≤ c.loop-port.port) c.ports-port-end.ensures.ports c.loop-port-test.false)
    c.loop-port.invariant.turns)
