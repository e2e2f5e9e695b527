-- The fact of what a revert lets through is derivable, and bad.
use Rattle.std.proofs.Common.{[], ◌∷◌, refl, lit<}
use Rattle.std.proofs.lemmas.List.Elements.{All-nil, All-from_recursion}
use Rattle.amdl_tree.specs.Derivation.{IsDerivable}
use Rattle.amdl_tree.proofs.DerivationLemmas.{derivable_start, derivable_step}
use Rattle.box_handlers.specs.Body.{BodiesAreRead, FormulasAreRead}
use Rattle.box_executions.specs.Shape.{IsTuple, AreContents}
use Rattle.net_plan.specs.declared.fact.Fact.{Fact}
use Rattle.net_plan.specs.declared.fact.Fact.TheVariants.{Out, State}
use Rattle.net_plan.proofs.Rising.{head_contained}
use Rattle.packet_state.specs.Follows.{Follows}
use Rattle.net_examples.specs.Forgetful.{forgetful, blocked_a, RevertedFactIsDerivable}
use Rattle.net_examples.proofs.BoxLemmas.{none_rise}
use Rattle.net_examples.proofs.ForgetfulLemmas.{sent_linked, passed_linked, round_linked, p_may_send, q_forbids, out}
use Rattle.net_examples.proofs.ForgetfulLemmas.{first_blocked, back_passes}

abbrev Derived : Fact → Type 0
Derived fact = IsDerivable (Follows forgetful) fact

none_fit : AreContents ((1 ∷ []) ∷ []) []
none_fit = record { rising = none_rise; tuples = All-nil (IsTuple ((1 ∷ []) ∷ [])) }

p_sends : Derived (Out 0 0)
p_sends = derivable_start (Follows forgetful) (Out 0 0)
    (record { host = 0; at_host = refl; packet_in_range = lit< tt; sends = p_may_send })

starts_bare : Derived (State 0 0 0)
starts_bare = derivable_start (Follows forgetful) (State 0 0 0)
    (record { box_in_range = lit< tt; packet_in_range = lit< tt; answered = refl })

module _ (bodies : BodiesAreRead) (formulas : FormulasAreRead) where
  goes_round : Derived (Out 4 0)
  goes_round = derivable_step (Follows forgetful) (Out 0 0 ∷ State 0 0 0 ∷ []) (Out 4 0)
      (All-from_recursion Derived (Out 0 0 ∷ State 0 0 0 ∷ []) (p_sends, (starts_bare, tt))) (
        refl,
        record {
          contents = [];
          left = blocked_a;
          outputs = out 2 ∷ [];
          meets = record {
            packet_in_range = lit< tt;
            other = 2;
            port = 0;
            linked = sent_linked;
            at_port = refl;
            contents_fit = none_fit;
            answered = refl;
            choices = [];
            handles = first_blocked bodies formulas;
          };
          port = 2;
          at_port = refl;
          put_out = head_contained (out 2) [];
        },
      )

  passes : Derived (Out 3 0)
  passes = derivable_step (Follows forgetful) (Out 4 0 ∷ State 0 0 0 ∷ []) (Out 3 0)
      (All-from_recursion Derived (Out 4 0 ∷ State 0 0 0 ∷ []) (goes_round, (starts_bare, tt))) (
        refl,
        record {
          contents = [];
          left = [];
          outputs = out 1 ∷ [];
          meets = record {
            packet_in_range = lit< tt;
            other = 5;
            port = 3;
            linked = round_linked;
            at_port = refl;
            contents_fit = none_fit;
            answered = refl;
            choices = 0 ∷ [];
            handles = back_passes bodies formulas;
          };
          port = 1;
          at_port = refl;
          put_out = head_contained (out 1) [];
        },
      )

  pub reverted_fact : RevertedFactIsDerivable
  reverted_fact = record { derivable = passes; bad = (1, 1, passed_linked, refl, q_forbids) }
