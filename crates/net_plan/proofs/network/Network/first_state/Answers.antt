use Rattle.std.proofs.Common.{◌≡◌, ◌+◌, ap, ◌∙◌, arith}
use Rattle.net_plan.specs.Plan.{boxes_of}
use Rattle.net_plan.specs.Kept.{first_state, first_states}
use Rattle.net_plan.proofs.TableLemmas.{counted_length, counted_read}
use Rattle.net_plan.proofs.network.Network.first_state.Goals as goal

pub bounds-as_slice-b : goal.bounds-as_slice-b
bounds-as_slice-b c =
    let table : c.as_slice.result.now ≡ first_states c.args.self.now =
    c.as_slice.ensures ∙ c.self.invariant.states_are ∙ ap first_states c.self.view_is in
    omega (
      arith,
      counted_length (first_state c.args.self.now) (boxes_of c.args.self.now + 1) c.as_slice.result.now table,
    )

pub returns : goal.returns
returns c =
    let table : c.as_slice.result.now ≡ first_states c.args.self.now =
    c.as_slice.ensures ∙ c.self.invariant.states_are ∙ ap first_states c.self.view_is in
    counted_read (first_state c.args.self.now) (boxes_of c.args.self.now + 1) c.as_slice.result.now table c.args.b 0
    (omega arith)
