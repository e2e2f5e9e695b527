use Rattle.std.proofs.Common.{◌≡◌, ℕ, ◌-◌, ◌≤◌, ap, ◌∙◌, subst, arith}
use Rattle.std.specs.Prelude.{Result, MatchResult}
use Rattle.net_plan.specs.declared.plan.Plan.{Plan}
use Rattle.net_plan.specs.Plan.{boxes_of}
use Rattle.net_plan.specs.Kept.{first_states}
use Rattle.net_plan.proofs.StateLemmas.{found_box, IsBoxOf}
use Rattle.net_plan.proofs.network.Network.box_of_state.Goals as goal

abbrev Found : Plan → ℕ → Result ℕ ℕ → Type 0
Found plan cell result =
    MatchResult result (IsBoxOf plan cell)
    (λ behind. (1 ≤ behind) × (behind ≤ boxes_of plan) × IsBoxOf plan cell (behind - 1))

pub overflow_cast-result : goal.overflow_cast-result
overflow_cast-result c =
    let table : c.as_slice.result.now ≡ first_states c.args.self.now =
    c.as_slice.ensures ∙ c.self.invariant.states_are ∙ ap first_states c.self.view_is in
    let found : IsBoxOf c.args.self.now c.args.cell c.in-Ok.b =
    subst (Found c.args.self.now c.args.cell) c.in-Ok.is
    (found_box c.args.self.now c.sound.ensures c.as_slice.result.now table c.args.cell c.requires.from c.requires.below
    c.binary_search.result c.binary_search.ensures.position) in
    omega (arith, found.in_range, c.sound.ensures.limits.boxes)

pub overflow_cast-result-in-Err : goal.overflow_cast-result-in-Err
overflow_cast-result-in-Err c =
    let table : c.as_slice.result.now ≡ first_states c.args.self.now =
    c.as_slice.ensures ∙ c.self.invariant.states_are ∙ ap first_states c.self.view_is in
    let found : (1 ≤ c.in-Err.behind) × (c.in-Err.behind ≤ boxes_of c.args.self.now)
    × IsBoxOf c.args.self.now c.args.cell (c.in-Err.behind - 1) =
    subst (Found c.args.self.now c.args.cell) c.in-Err.is
    (found_box c.args.self.now c.sound.ensures c.as_slice.result.now table c.args.cell c.requires.from c.requires.below
    c.binary_search.result c.binary_search.ensures.position) in
    omega (arith, found.1, c.sound.ensures.limits.boxes)

pub overflow_sub-result : goal.overflow_sub-result
overflow_sub-result c =
    let table : c.as_slice.result.now ≡ first_states c.args.self.now =
    c.as_slice.ensures ∙ c.self.invariant.states_are ∙ ap first_states c.self.view_is in
    let found : (1 ≤ c.in-Err.behind) × (c.in-Err.behind ≤ boxes_of c.args.self.now)
    × IsBoxOf c.args.self.now c.args.cell (c.in-Err.behind - 1) =
    subst (Found c.args.self.now c.args.cell) c.in-Err.is
    (found_box c.args.self.now c.sound.ensures c.as_slice.result.now table c.args.cell c.requires.from c.requires.below
    c.binary_search.result c.binary_search.ensures.position) in
    found.0

pub returns-in-Ok-clause-boxed : goal.returns-in-Ok-clause-boxed
returns-in-Ok-clause-boxed c =
    let table : c.as_slice.result.now ≡ first_states c.args.self.now =
    c.as_slice.ensures ∙ c.self.invariant.states_are ∙ ap first_states c.self.view_is in
    let found : IsBoxOf c.args.self.now c.args.cell c.in-Ok.b =
    subst (Found c.args.self.now c.args.cell) c.in-Ok.is
    (found_box c.args.self.now c.sound.ensures c.as_slice.result.now table c.args.cell c.requires.from c.requires.below
    c.binary_search.result c.binary_search.ensures.position) in
    found.in_range

pub returns-in-Ok-clause-from : goal.returns-in-Ok-clause-from
returns-in-Ok-clause-from c =
    let table : c.as_slice.result.now ≡ first_states c.args.self.now =
    c.as_slice.ensures ∙ c.self.invariant.states_are ∙ ap first_states c.self.view_is in
    let found : IsBoxOf c.args.self.now c.args.cell c.in-Ok.b =
    subst (Found c.args.self.now c.args.cell) c.in-Ok.is
    (found_box c.args.self.now c.sound.ensures c.as_slice.result.now table c.args.cell c.requires.from c.requires.below
    c.binary_search.result c.binary_search.ensures.position) in
    found.from

pub returns-in-Ok-clause-below : goal.returns-in-Ok-clause-below
returns-in-Ok-clause-below c =
    let table : c.as_slice.result.now ≡ first_states c.args.self.now =
    c.as_slice.ensures ∙ c.self.invariant.states_are ∙ ap first_states c.self.view_is in
    let found : IsBoxOf c.args.self.now c.args.cell c.in-Ok.b =
    subst (Found c.args.self.now c.args.cell) c.in-Ok.is
    (found_box c.args.self.now c.sound.ensures c.as_slice.result.now table c.args.cell c.requires.from c.requires.below
    c.binary_search.result c.binary_search.ensures.position) in
    found.below

pub returns-in-Err-clause-boxed : goal.returns-in-Err-clause-boxed
returns-in-Err-clause-boxed c =
    let table : c.as_slice.result.now ≡ first_states c.args.self.now =
    c.as_slice.ensures ∙ c.self.invariant.states_are ∙ ap first_states c.self.view_is in
    let found : (1 ≤ c.in-Err.behind) × (c.in-Err.behind ≤ boxes_of c.args.self.now)
    × IsBoxOf c.args.self.now c.args.cell (c.in-Err.behind - 1) =
    subst (Found c.args.self.now c.args.cell) c.in-Err.is
    (found_box c.args.self.now c.sound.ensures c.as_slice.result.now table c.args.cell c.requires.from c.requires.below
    c.binary_search.result c.binary_search.ensures.position) in
    found.2.in_range

pub returns-in-Err-clause-from : goal.returns-in-Err-clause-from
returns-in-Err-clause-from c =
    let table : c.as_slice.result.now ≡ first_states c.args.self.now =
    c.as_slice.ensures ∙ c.self.invariant.states_are ∙ ap first_states c.self.view_is in
    let found : (1 ≤ c.in-Err.behind) × (c.in-Err.behind ≤ boxes_of c.args.self.now)
    × IsBoxOf c.args.self.now c.args.cell (c.in-Err.behind - 1) =
    subst (Found c.args.self.now c.args.cell) c.in-Err.is
    (found_box c.args.self.now c.sound.ensures c.as_slice.result.now table c.args.cell c.requires.from c.requires.below
    c.binary_search.result c.binary_search.ensures.position) in
    found.2.from

pub returns-in-Err-clause-below : goal.returns-in-Err-clause-below
returns-in-Err-clause-below c =
    let table : c.as_slice.result.now ≡ first_states c.args.self.now =
    c.as_slice.ensures ∙ c.self.invariant.states_are ∙ ap first_states c.self.view_is in
    let found : (1 ≤ c.in-Err.behind) × (c.in-Err.behind ≤ boxes_of c.args.self.now)
    × IsBoxOf c.args.self.now c.args.cell (c.in-Err.behind - 1) =
    subst (Found c.args.self.now c.args.cell) c.in-Err.is
    (found_box c.args.self.now c.sound.ensures c.as_slice.result.now table c.args.cell c.requires.from c.requires.below
    c.binary_search.result c.binary_search.ensures.position) in
    found.2.below
