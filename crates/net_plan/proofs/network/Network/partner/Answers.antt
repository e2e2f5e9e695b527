use Rattle.std.proofs.Common.{◌≡◌, ◌<◌, ℕ, List, Option, Some, None, MatchOption, slice_index_or, sym, ap, subst, ◌∙◌}
use Rattle.std.proofs.Common.{arith}
use Rattle.net_plan.specs.declared.plan.Plan.{Plan}
use Rattle.net_plan.specs.Ends.{ends_of, IsLinked, partner_of}
use Rattle.net_plan.specs.Kept.{partners_of}
use Rattle.net_plan.specs.Sound.{IsSound}
use Rattle.net_plan.proofs.Linked.{partner_cases, linked_in_range}
use Rattle.net_plan.proofs.TableLemmas.{counted_length, counted_read}
use Rattle.net_plan.proofs.network.Network.partner.Goals as goal

abbrev Tells : Plan → ℕ → Option ℕ → Type 0
Tells plan end found = MatchOption found ((other : ℕ) → IsLinked plan end other → ⊥) (IsLinked plan end)

in_range : (plan : Plan) (end : ℕ) (found : Option ℕ) → IsSound plan → Tells plan end found →
    MatchOption found (Unit {0}) (λ other. other < ends_of plan)
in_range plan end None sound none = tt
in_range plan end (Some other) sound linked = linked_in_range plan end other sound linked

module _ (plan : Plan) (end : ℕ) (table : List (Option ℕ)) (is : table ≡ partners_of plan)
    (less : end < ends_of plan) where
  read : slice_index_or table end None ≡ partner_of plan end
  read = counted_read (partner_of plan) (ends_of plan) table is end None less

  told : Tells plan end (slice_index_or table end None)
  told = subst (Tells plan end) (sym read) (partner_cases plan.links end)

pub bounds-as_slice-end : goal.bounds-as_slice-end
bounds-as_slice-end c =
    let table : c.as_slice.result.now ≡ partners_of c.args.self.now =
    c.as_slice.ensures ∙ c.self.invariant.partners_are ∙ ap partners_of c.self.view_is in
    omega (arith, counted_length (partner_of c.args.self.now) (ends_of c.args.self.now) c.as_slice.result.now table)

pub returns-clause-value : goal.returns-clause-value
returns-clause-value c =
    let table : c.as_slice.result.now ≡ partners_of c.args.self.now =
    c.as_slice.ensures ∙ c.self.invariant.partners_are ∙ ap partners_of c.self.view_is in
    read c.args.self.now c.args.end c.as_slice.result.now table c.requires

pub returns-clause-linked : goal.returns-clause-linked
returns-clause-linked c =
    let table : c.as_slice.result.now ≡ partners_of c.args.self.now =
    c.as_slice.ensures ∙ c.self.invariant.partners_are ∙ ap partners_of c.self.view_is in
    told c.args.self.now c.args.end c.as_slice.result.now table c.requires

pub returns-clause-in_range : goal.returns-clause-in_range
returns-clause-in_range c =
    let table : c.as_slice.result.now ≡ partners_of c.args.self.now =
    c.as_slice.ensures ∙ c.self.invariant.partners_are ∙ ap partners_of c.self.view_is in
    in_range c.args.self.now c.args.end (slice_index_or c.as_slice.result.now c.args.end None) c.sound.ensures
    (told c.args.self.now c.args.end c.as_slice.result.now table c.requires)
