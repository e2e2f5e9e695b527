-- The fact of the abort on the way round is derivable.
use Rattle.std.proofs.Common.{◌≡◌, [], ◌∷◌, refl, lit<}
use Rattle.std.proofs.lemmas.List.Elements.{All-from_recursion}
use Rattle.amdl_tree.specs.Derivation.{IsDerivable}
use Rattle.amdl_tree.proofs.DerivationLemmas.{derivable_start, derivable_step}
use Rattle.header_set.specs.Headers.{field_of}
use Rattle.box_executions.specs.Laws.{GuardMeanings, StatementMeanings}
use Rattle.box_executions.specs.Shape.{IsTuple, AreContents}
use Rattle.net_plan.specs.declared.fact.Fact.{Fact}
use Rattle.net_plan.specs.declared.fact.Fact.TheVariants.{Out, State, Abort}
use Rattle.net_plan.proofs.Rising.{head_contained, tail_contained}
use Rattle.packet_state.specs.Answers.{answers}
use Rattle.packet_state.specs.Follows.{Follows}
use Rattle.net_examples.specs.Loop.{loop_plan, open_a, AbortedFactIsDerivable}
use Rattle.net_examples.proofs.BoxLemmas.{only, one_rises}
use Rattle.net_examples.proofs.LoopLemmas.{first_link, second_link, sends_any, three, door_passes, round_aborts}

abbrev Derived : Fact → Type 0
Derived fact = IsDerivable (Follows loop_plan) fact

is_tuple : IsTuple ((2 ∷ []) ∷ []) (record { relation = 0; tuple = 0 })
is_tuple = record { sizes = 2 ∷ []; numbered = refl; in_range = lit< tt }

open_fits : AreContents ((2 ∷ []) ∷ []) open_a
open_fits = record {
  rising = one_rises (record { relation = 0; tuple = 0 });
  tuples = only (IsTuple ((2 ∷ []) ∷ [])) (record { relation = 0; tuple = 0 }) is_tuple;
}

-- the door is open for a, and not for b
open_for_a : answers loop_plan 0 0 open_a ≡ 1
unfolding field_of
open_for_a = refl

shut_for_b : answers loop_plan 0 1 open_a ≡ 0
unfolding field_of
shut_for_b = refl

h_sends : Derived (Out 0 0)
h_sends = derivable_start (Follows loop_plan) (Out 0 0)
    (record { host = 0; at_host = refl; packet_in_range = lit< tt; sends = sends_any 0 })

starts_open : Derived (State 0 0 1)
starts_open = derivable_start (Follows loop_plan) (State 0 0 1)
    (record { box_in_range = lit< tt; packet_in_range = lit< tt; answered = open_for_a })

starts_shut : Derived (State 0 1 0)
starts_shut = derivable_start (Follows loop_plan) (State 0 1 0)
    (record { box_in_range = lit< tt; packet_in_range = lit< tt; answered = shut_for_b })

module _ (guards : GuardMeanings) (statements : StatementMeanings) where
  -- the door puts b out on the way round
  passes : Derived (Out 2 1)
  passes = derivable_step (Follows loop_plan) (Out 0 0 ∷ State 0 0 1 ∷ []) (Out 2 1)
      (All-from_recursion Derived (Out 0 0 ∷ State 0 0 1 ∷ []) (h_sends, (starts_open, tt))) (
        refl,
        record {
          contents = open_a;
          left = [];
          outputs = three;
          meets = record {
            packet_in_range = lit< tt;
            other = 1;
            port = 0;
            linked = first_link;
            at_port = refl;
            contents_fit = open_fits;
            answered = open_for_a;
            choices = 0 ∷ [];
            handles = door_passes guards statements;
          };
          port = 1;
          at_port = refl;
          put_out =
              tail_contained (record { port = 1; packet = 0 }) (record { port = 1; packet = 1 })
              (record { port = 3; packet = 0 } ∷ record { port = 1; packet = 1 } ∷ [])
              (tail_contained (record { port = 3; packet = 0 }) (record { port = 1; packet = 1 })
              (record { port = 1; packet = 1 } ∷ []) (head_contained (record { port = 1; packet = 1 }) []));
        },
      )

  aborts : Derived (Abort 0 1)
  aborts = derivable_step (Follows loop_plan) (Out 2 1 ∷ State 0 1 0 ∷ []) (Abort 0 1)
      (All-from_recursion Derived (Out 2 1 ∷ State 0 1 0 ∷ []) (passes, (starts_shut, tt))) (
        refl,
        (
          refl,
          refl,
          record {
            contents = open_a;
            meets = record {
              packet_in_range = lit< tt;
              other = 3;
              port = 2;
              linked = second_link;
              at_port = refl;
              contents_fit = open_fits;
              answered = shut_for_b;
              choices = 1 ∷ [];
              handles = round_aborts guards statements open_a;
            };
          },
        ),
      )

  pub aborted_fact : AbortedFactIsDerivable
  aborted_fact = record { derivable = aborts; bad = tt }
