-- A closed set of cells covers what can be reached, and shows what is bad.
use Rattle.std.proofs.Common.{ℕ, not, List, map, refl, sym, subst}
use Rattle.std.specs.List.{Contains}
use Rattle.std.proofs.lemmas.List.Elements.{All-map, All-weaker}
use Rattle.std.proofs.lemmas.List.Kept.{IsStrictlySortedBy-filter}
use Rattle.fix_engine.specs.Closed.{AreBelow, IsClosed}
use Rattle.header_set.specs.Laws.{FieldsAreBelowSizes}
use Rattle.header_set.proofs.Radix.{positive_sizes, field_below}
use Rattle.box_contents.specs.Contents.{entry_cmp, same_entry}
use Rattle.box_contents.specs.Laws.{WithKeepsRising, WithoutKeepsRising}
use Rattle.box_contents.proofs.Entries.{entries_total}
use Rattle.box_contents.proofs.Held.{with_rises}
use Rattle.box_executions.specs.Laws.{OutcomeIsInRange}
use Rattle.box_executions.proofs.KeepLemmas.{outcome_in_range}
use Rattle.net_plan.specs.declared.plan.Plan.{Plan}
use Rattle.net_plan.specs.Cells.{IsInRange, cell_of, cells_of}
use Rattle.net_runs.specs.declared.world.World.{World}
use Rattle.net_runs.proofs.WorldLemmas.{first_is_world, step_keeps_world}
use Rattle.packet_state.specs.Covers as packet_state
use Rattle.packet_state.proofs.CoverLemmas.{first_covered, step_covered}
use Rattle.packet_state.proofs.RangeLemmas.{follows_in_range}
use Rattle.packet_state.proofs.RunLemmas.{bad_step_covered}
use Rattle.packet_domain.specs.declared.abstraction.Transition.{Transition}
use Rattle.packet_domain.specs.Follows.{Follows}
use Rattle.move_table.specs.Offered.{IsDone}
use Rattle.packet_domain.specs.Worlds.{IsFirst, Leads, IsBadTransition, Covers, IsBadCell}

fields_below : FieldsAreBelowSizes
fields_below sizes p k headers less = field_below sizes p k (positive_sizes sizes headers) less

with_rising : WithKeepsRising
with_rising entries entry rising = with_rises entries_total entry entries rising

without_rising : WithoutKeepsRising
without_rising entries entry rising =
    IsStrictlySortedBy-filter entry_cmp (λ other. not (same_entry entry other)) entries rising

in_range : OutcomeIsInRange
in_range = outcome_in_range fields_below with_rising without_rising

-- the facts of a closed set of cells are closed
facts_closed : (plan : Plan) (cells : List ℕ) → IsClosed (Follows plan) cells →
    packet_state.IsClosed plan (IsDone plan cells)
facts_closed plan cells closed premises fact known follows =
    let here = follows_in_range plan premises fact follows in (
      here,
      closed (map (cell_of plan) premises) (cell_of plan fact)
          (All-map (Contains cells) (cell_of plan) premises
          (All-weaker (IsDone plan cells) (λ f. Contains cells (cell_of plan f)) (λ f is. is.1) premises known))
          (record {
            facts = premises;
            fact = fact;
            facts_in_range = All-weaker (IsDone plan cells) (IsInRange plan) (λ f is. is.0) premises known;
            in_range = here;
            premises_are = refl;
            cell_is = refl;
            follows = follows;
          }),
    )

pub first_is_covered : (plan : Plan) (cells : List ℕ) (world : World) → AreBelow (cells_of plan) cells →
    IsClosed (Follows plan) cells → IsFirst plan world → Covers plan cells world
first_is_covered plan cells world below closed first =
    subst (Covers plan cells) (sym first.1)
    (record {
      sound = first.0;
      world_is = first_is_world plan first.0;
      covers = first_covered plan (IsDone plan cells) (facts_closed plan cells closed);
    })

pub next_is_covered : (plan : Plan) (cells : List ℕ) (old new : World) (transition : Transition) →
    AreBelow (cells_of plan) cells → IsClosed (Follows plan) cells → Covers plan cells old →
    Leads plan old transition new → Covers plan cells new
next_is_covered plan cells old new transition below closed covers leads = record {
  sound = covers.sound;
  world_is = step_keeps_world in_range plan transition.mode transition.step old new leads.0 covers.sound covers.world_is leads.1;
  covers = step_covered plan (IsDone plan cells) (facts_closed plan cells closed) transition.mode transition.step old new leads.0
      covers.world_is leads.1 covers.covers;
}

pub bad_is_shown : (plan : Plan) (cells : List ℕ) (old new : World) (transition : Transition) →
    AreBelow (cells_of plan) cells → IsClosed (Follows plan) cells → Covers plan cells old →
    Leads plan old transition new → IsBadTransition plan old transition new →
    (cell : ℕ) × Contains cells cell × IsBadCell plan cell
bad_is_shown plan cells old new transition below closed covers leads bad =
    let found =
    bad_step_covered plan (IsDone plan cells) (facts_closed plan cells closed) transition.mode transition.step old new bad.0
    covers.world_is bad.1 covers.covers bad.2 in
    (cell_of plan found.0, found.1.1, (found.0, found.1.0, refl, found.2))
