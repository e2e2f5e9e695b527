use Rattle.std.proofs.Common.{◌≡◌, ℕ, ◌+◌, ◌-◌, ◌*◌, ◌/◌, ◌%◌, sym, subst, arith}
use Rattle.net_plan.specs.declared.plan.Plan.{Plan}
use Rattle.net_plan.specs.declared.fact.Fact.TheVariants.{State}
use Rattle.net_plan.specs.Plan.{packets_of, box_at, masks_of}
use Rattle.net_plan.specs.Cells.{IsInRange, cell_of}
use Rattle.net_plan.specs.Kept.{first_state}
use Rattle.net_plan.proofs.CellLemmas.{state_fact}
use Rattle.net_plan.proofs.StateLemmas.{next_state, IsBoxOf}
use Rattle.net_plan.proofs.network.Network.state_at.Goals as goal

abbrev IsIts : Plan → ℕ → ℕ → ℕ → ℕ → Type 0
IsIts plan cell box first masks =
    IsInRange plan (State box ((cell - first) / masks) ((cell - first) % masks))
    × (cell_of plan (State box ((cell - first) / masks) ((cell - first) % masks)) ≡ cell)

its : (plan : Plan) (cell box first masks : ℕ) → IsBoxOf plan cell box → first ≡ first_state plan box →
    masks ≡ masks_of plan (box_at plan box) → IsIts plan cell box first masks
its plan cell box first masks stands is_first is_masks =
    let next : first_state plan (box + 1) ≡ first_state plan box + packets_of plan * masks_of plan (box_at plan box) =
    next_state plan box stands.in_range in
    let found : IsIts plan cell box (first_state plan box) (masks_of plan (box_at plan box)) =
    state_fact plan box cell stands.in_range stands.from (omega (arith, next, stands.below)) in
    subst (λ (n : ℕ). IsIts plan cell box n masks) (sym is_first)
    (subst (λ (n : ℕ). IsIts plan cell box (first_state plan box) n) (sym is_masks) found)

pub returns-clause-in_range : goal.returns-clause-in_range
returns-clause-in_range c =
    (its c.args.self.now c.args.cell c.box_of_state-b.result c.first_state.result c.masks-masks.result
    (record {
      in_range = c.box_of_state-b.ensures.boxed;
      from = c.box_of_state-b.ensures.from;
      below =
          c.box_of_state-b.ensures.below;
    })
    c.first_state.ensures c.masks-masks.ensures.masks).0

pub returns-clause-cell : goal.returns-clause-cell
returns-clause-cell c =
    (its c.args.self.now c.args.cell c.box_of_state-b.result c.first_state.result c.masks-masks.result
    (record {
      in_range = c.box_of_state-b.ensures.boxed;
      from = c.box_of_state-b.ensures.from;
      below =
          c.box_of_state-b.ensures.below;
    })
    c.first_state.ensures c.masks-masks.ensures.masks).1
