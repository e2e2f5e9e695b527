-- Each fact of the firewall is derivable.
use Rattle.std.proofs.Common.{◌≡◌, ℕ, zero, suc, ◌<◌, List, [], ◌∷◌, Some, None, refl, sym, subst, ◌∙◌, inl, inr}
use Rattle.std.proofs.Common.{arith, lit<, codes}
use Rattle.std.specs.List.{All}
use Rattle.std.proofs.lemmas.List.Elements.{All-nil, All-contains, All-from_recursion}
use Rattle.std.proofs.lemmas.List.Kept.{AllPairs-cons}
use Rattle.amdl_tree.specs.Derivation.{IsDerivable}
use Rattle.amdl_tree.proofs.DerivationLemmas.{derivable_start, derivable_step, derivable_kept}
use Rattle.header_set.specs.Headers.{field_of}
use Rattle.header_set.specs.Pattern.{fixed_at}
use Rattle.box_contents.specs.declared.entry.Entry.{Entry}
use Rattle.box_contents.specs.Contents.{with_entry}
use Rattle.box_contents.specs.Laws.{HeldIsMember, HeldWith}
use Rattle.box_handlers.specs.Body.{Body, BodiesAreRead, FormulasAreRead}
use Rattle.box_executions.specs.Environment.{IsChanged}
use Rattle.box_executions.specs.Execution.{Outcome, Done, BodyRuns}
use Rattle.box_executions.specs.Shape.{IsTuple}
use Rattle.net_plan.specs.declared.plan.LinkPlan.{LinkPlan}
use Rattle.net_plan.specs.declared.fact.Fact.{Fact}
use Rattle.net_plan.specs.declared.fact.Fact.TheVariants.{Out, State}
use Rattle.net_plan.specs.Fact.{Precedes, IsRising}
use Rattle.net_plan.specs.Plan.{Sends}
use Rattle.net_plan.specs.Ends.{IsLinked}
use Rattle.net_plan.proofs.Rising.{head_contained, tail_contained}
use Rattle.net_runs.specs.World.{Handles}
use Rattle.packet_state.specs.Answers.{answers}
use Rattle.packet_state.specs.Follows.{Meets, Follows, IsLeast}
use Rattle.net_examples.specs.Firewall.{at_inner, at_outer, fence, peer, firewall, firewall_facts}
use Rattle.net_examples.proofs.BoxLemmas.{only, none_rise, one_rises, field_is_not}
use Rattle.net_examples.proofs.FirewallSound.{inner_read, outer_read}
use Rattle.net_examples.proofs.FirewallLemmas.{Known, listed, known_closed, env, entry_at, out}

-- the order of the list: the facts from one of them on

abbrev from_7 : List Fact
from_7 = State 0 1 0 ∷ []

abbrev from_6 : List Fact
from_6 = State 0 0 1 ∷ from_7

abbrev from_5 : List Fact
from_5 = State 0 0 0 ∷ from_6

abbrev from_4 : List Fact
from_4 = Out 3 0 ∷ from_5

abbrev from_3 : List Fact
from_3 = Out 2 0 ∷ from_4

abbrev from_2 : List Fact
from_2 = Out 1 1 ∷ from_3

abbrev from_1 : List Fact
from_1 = Out 1 0 ∷ from_2

before_0 : All (Precedes (Out 0 0)) from_1
before_0 = All-from_recursion (Precedes (Out 0 0)) from_1 (
  inr (refl, inl (lit< tt)),
  (
    inr (refl, inl (lit< tt)),
    (inr (refl, inl (lit< tt)), (inr (refl, inl (lit< tt)), (inl (lit< tt), (inl (lit< tt), (inl (lit< tt), tt))))),
  ),
)

before_1 : All (Precedes (Out 1 0)) from_2
before_1 = All-from_recursion (Precedes (Out 1 0)) from_2 (
  inr (refl, inr (refl, inl (lit< tt))),
  (
    inr (
      refl,
      inl
          (lit< tt),
    ),
    (inr (refl, inl (lit< tt)), (inl (lit< tt), (inl (lit< tt), (inl (lit< tt), tt)))),
  ),
)

before_2 : All (Precedes (Out 1 1)) from_3
before_2 = All-from_recursion (Precedes (Out 1 1)) from_3 (
  inr (refl, inl (lit< tt)),
  (
    inr (refl, inl (lit< tt)),
    (inl (lit< tt), (inl (lit< tt), (inl (lit< tt), tt))),
  ),
)

before_3 : All (Precedes (Out 2 0)) from_4
before_3 = All-from_recursion (Precedes (Out 2 0)) from_4 (
  inr (refl, inl (lit< tt)),
  (
    inl (lit< tt),
    (
      inl (lit< tt),
      (inl (lit< tt), tt),
    ),
  ),
)

before_4 : All (Precedes (Out 3 0)) from_5
before_4 = All-from_recursion (Precedes (Out 3 0)) from_5 (inl (lit< tt), (inl (lit< tt), (inl (lit< tt), tt)))

before_5 : All (Precedes (State 0 0 0)) from_6
before_5 = All-from_recursion (Precedes (State 0 0 0)) from_6 (
  inr (refl, inr (refl, inr (refl, inl (lit< tt)))),
  (inr (refl, inr (refl, inl (lit< tt))), tt),
)

before_6 : All (Precedes (State 0 0 1)) from_7
before_6 = All-from_recursion (Precedes (State 0 0 1)) from_7 (inr (refl, inr (refl, inl (lit< tt))), tt)

before_7 : All (Precedes (State 0 1 0)) []
before_7 = All-from_recursion (Precedes (State 0 1 0)) [] tt

rising : IsRising firewall_facts
rising = AllPairs-cons Precedes (Out 0 0) from_1 before_0 (AllPairs-cons Precedes (Out 1 0) from_2 before_1
    (AllPairs-cons Precedes (Out 1 1) from_3 before_2 (AllPairs-cons Precedes (Out 2 0) from_4 before_3
    (AllPairs-cons Precedes (Out 3 0) from_5 before_4 (AllPairs-cons Precedes (State 0 0 0) from_6 before_5
    (AllPairs-cons Precedes (State 0 0 1) from_7 before_6 (AllPairs-cons Precedes (State 0 1 0) [] before_7
    (λ i j d below in_range. absurd (omega arith)))))))))

-- executions

abbrev known_a : List Entry
known_a = entry_at 0 ∷ []

same_packet : IsChanged (env 0) [] 0
same_packet = record { in_range = lit< tt; fields = refl }

answers_yes : answers firewall 0 0 known_a ≡ 1
unfolding field_of
answers_yes = refl

answers_after : answers firewall 0 0 (with_entry [] (entry_at 0)) ≡ 1
unfolding field_of
answers_after = refl

is_tuple : IsTuple ((2 ∷ []) ∷ []) (entry_at 0)
unfolding field_of
is_tuple = record { sizes = 2 ∷ []; numbered = refl; in_range = lit< tt }

abbrev passed : Outcome
passed = Done (with_entry [] (entry_at 0)) (out 1 0 ∷ [])

abbrev let_in : Outcome
let_in = Done known_a (out 0 0 ∷ [])

abbrev one_link : LinkPlan
one_link = record { one = 0; two = 2 }

abbrev other_link : LinkPlan
other_link = record { one = 3; two = 1 }

inner_link : IsLinked firewall 0 2
inner_link = (one_link, head_contained one_link (other_link ∷ []), inl (refl, refl))

outer_link : IsLinked firewall 1 3
outer_link = (
  other_link,
  tail_contained one_link other_link (other_link ∷ []) (head_contained other_link []),
  inr (refl, refl),
)

sends_a : Sends firewall 0 0
sends_a = (0, peer (Some 0), lit< tt, refl, record { each = λ k y less fixed. each k y less fixed })
  where
    each : (k y : ℕ) → k < 1 → fixed_at (peer (Some 0)) k ≡ Some y → field_of (2 ∷ []) 0 k ≡ y
    each zero y less fixed = let same : 0 ≡ y = cc in field_is_not ∙ same
    each (suc k) y less fixed = absurd (omega (arith, less))

sends_all : (packet : ℕ) → Sends firewall 1 packet
sends_all packet = (0, peer None, lit< tt, refl, record { each = λ k y less fixed. each k y less fixed })
  where
    each : (k y : ℕ) → k < 1 → fixed_at (peer None) k ≡ Some y → field_of (2 ∷ []) packet k ≡ y
    each zero y less fixed = absurd (cc)
    each (suc k) y less fixed = absurd (omega (arith, less))

module _ (bodies : BodiesAreRead) (formulas : FormulasAreRead) where
  inner_handles : Handles firewall 0 0 0 [] [] passed
  inner_handles = record {
    box_plan = record { name = codes "f"; class = 0; first = [] };
    class = fence;
    at_box = record { numbered = refl; of_class = refl };
    handler = at_inner;
    at_port = refl;
    executes = subst (λ (b : Body). BodyRuns b (env 0) [] [] passed []) (sym (inner_read bodies formulas))
        (record {
          packet = 0;
          changed = same_packet;
          last = Done (with_entry [] (entry_at 0)) [];
          second = (refl, refl);
          ends = refl;
        });
  }

  outer_handles : Handles firewall 0 1 0 known_a (0 ∷ []) let_in
  outer_handles = record {
    box_plan = record { name = codes "f"; class = 0; first = [] };
    class = fence;
    at_box = record { numbered = refl; of_class = refl };
    handler = at_outer;
    at_port = refl;
    executes = subst (λ (b : Body). BodyRuns b (env 0) known_a (0 ∷ []) let_in []) (sym (outer_read bodies formulas))
        (inr (record {
          choice = 0;
          others = [];
          next = refl;
          runs = inr (record {
            mid = known_a;
            outputs = out 0 0 ∷ [];
            unused = [];
            last = Done known_a [];
            first = (
              inl (head_contained (entry_at 0) [], tt),
              record {
                packet = 0;
                changed = same_packet;
                last = Done known_a [];
                second = (refl, refl);
                ends = refl;
              },
            );
            second = (refl, refl);
            ends = refl;
          });
        }));
  }

  inner_meets : Meets firewall 0 0 0 0 [] passed
  inner_meets = record {
    packet_in_range = lit< tt;
    other = 2;
    port = 0;
    linked = inner_link;
    at_port = refl;
    contents_fit = record { rising = none_rise; tuples = All-nil (IsTuple ((2 ∷ []) ∷ [])) };
    answered = refl;
    choices = [];
    handles = inner_handles;
  }

  outer_meets : Meets firewall 1 0 0 1 known_a let_in
  outer_meets = record {
    packet_in_range = lit< tt;
    other = 3;
    port = 1;
    linked = outer_link;
    at_port = refl;
    contents_fit = record {
      rising = one_rises (entry_at 0);
      tuples = only (IsTuple ((2 ∷ []) ∷ [])) (entry_at 0) is_tuple;
    };
    answered = answers_yes;
    choices = 0 ∷ [];
    handles = outer_handles;
  }

  -- derivations

  abbrev Derived : Fact → Type 0
  Derived fact = IsDerivable (Follows firewall) fact

  p_sends : Derived (Out 0 0)
  p_sends = derivable_start (Follows firewall) (Out 0 0)
      (record { host = 0; at_host = refl; packet_in_range = lit< tt; sends = sends_a })

  q_sends : (packet : ℕ) → packet < 2 → Derived (Out 1 packet)
  q_sends packet less = derivable_start (Follows firewall) (Out 1 packet)
      (record { host = 1; at_host = refl; packet_in_range = less; sends = sends_all packet })

  starts_bare : (packet : ℕ) → packet < 2 → answers firewall 0 packet [] ≡ 0 → Derived (State 0 packet 0)
  starts_bare packet less answered = derivable_start (Follows firewall) (State 0 packet 0)
      (record { box_in_range = lit< tt; packet_in_range = less; answered = answered })

  goes_out : Derived (Out 3 0)
  goes_out = derivable_step (Follows firewall) (Out 0 0 ∷ State 0 0 0 ∷ []) (Out 3 0)
      (All-from_recursion Derived (Out 0 0 ∷ State 0 0 0 ∷ []) (p_sends, (starts_bare 0 (lit< tt) refl, tt))) (
        refl,
        record {
          contents = [];
          left = with_entry [] (entry_at 0);
          outputs = out 1 0 ∷ [];
          meets = inner_meets;
          port = 1;
          at_port = refl;
          put_out = head_contained (out 1 0) [];
        },
      )

  gets_known : Derived (State 0 0 1)
  gets_known = derivable_step (Follows firewall) (Out 0 0 ∷ State 0 0 0 ∷ State 0 0 0 ∷ []) (State 0 0 1)
      (All-from_recursion Derived (Out 0 0 ∷ State 0 0 0 ∷ State 0 0 0 ∷ [])
      (p_sends, (starts_bare 0 (lit< tt) refl, (starts_bare 0 (lit< tt) refl, tt)))) (
        refl,
        refl,
        refl,
        refl,
        record {
          second_in_range = lit< tt;
          contents = [];
          left = with_entry [] (entry_at 0);
          outputs = out 1 0 ∷ [];
          meets = inner_meets;
          answered = refl;
          leaves = answers_after;
        },
      )

  comes_in : Derived (Out 2 0)
  comes_in = derivable_step (Follows firewall) (Out 1 0 ∷ State 0 0 1 ∷ []) (Out 2 0)
      (All-from_recursion Derived (Out 1 0 ∷ State 0 0 1 ∷ []) (q_sends 0 (lit< tt), (gets_known, tt))) (
        refl,
        record {
          contents = known_a;
          left = known_a;
          outputs = out 0 0 ∷ [];
          meets = outer_meets;
          port = 0;
          at_port = refl;
          put_out = head_contained (out 0 0) [];
        },
      )

  all_derived : All Derived firewall_facts
  all_derived =
      All-from_recursion Derived firewall_facts (
        p_sends,
        (
          q_sends 0 (lit< tt),
          (
            q_sends 1 (lit< tt),
            (comes_in, (goes_out, (starts_bare 0 (lit< tt) refl, (gets_known, (starts_bare 1 (lit< tt) refl, tt))))),
          ),
        ),
      )

  pub facts_are_least : HeldIsMember → HeldWith → IsLeast firewall firewall_facts
  facts_are_least held held_with = record {
    rising = rising;
    member = λ fact. (
      λ there. All-contains Derived firewall_facts fact all_derived there,
      λ derived. listed fact
          (derivable_kept (Follows firewall) Known (known_closed bodies formulas held held_with) fact derived),
    );
  }
