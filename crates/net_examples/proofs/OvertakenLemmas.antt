-- The packet that overtakes, by hand: the handlers, and the run over unordered channels.
use Rattle.std.proofs.Common.{◌≡◌, ℕ, zero, suc, false, true, List, [], ◌∷◌, ◌++◌, Some, None, refl, sym, ap, subst, ◌∙◌}
use Rattle.std.proofs.Common.{inl, inr, arith, lit<, codes, replicate}
use Rattle.std.specs.List.{Contains}
use Rattle.header_set.specs.Headers.{field_of}
use Rattle.header_set.specs.Pattern.{fixed_at, Matches}
use Rattle.box_handlers.specs.declared.act.Term.TheVariants.{Field, Value}
use Rattle.box_handlers.specs.declared.act.Probe.TheVariants.{Has, Not}
use Rattle.box_handlers.specs.declared.act.Act.TheVariants.{Output}
use Rattle.box_handlers.specs.Body.{Formula, Holds, Alike, Denied, Both, Every, Either, Neither, Body, Stop, Writes}
use Rattle.box_handlers.specs.Body.{Emit, Fork, Branches, NoBranch, OneBranch, body_of, branches_of, formula_of, formula_of_probe}
use Rattle.box_handlers.specs.Body.{BodiesAreRead, FormulasAreRead}
use Rattle.box_executions.specs.Environment.{Environment, entry_in, IsChanged}
use Rattle.box_executions.specs.Execution.{Done, Emission, BodyRuns}
use Rattle.net_plan.specs.Plan.{Sends, Forbids}
use Rattle.net_plan.specs.Ends.{IsLinked}
use Rattle.net_plan.proofs.Rising.{none_contained, head_contained, contained_cases}
use Rattle.net_runs.specs.declared.world.Mode.TheVariants.{Unordered}
use Rattle.net_runs.specs.declared.world.Step.TheVariants.{Send, Deliver}
use Rattle.net_runs.specs.declared.world.Event.TheVariants.{Moved, Delivered}
use Rattle.net_runs.specs.World.{first_world, PutsOut, environment_of, Handles, Leads, Run}
use Rattle.net_examples.specs.Overtaken.{seen_a, written, at_inlet, forgetting, passing, noting, at_back, pairer}
use Rattle.net_examples.specs.Overtaken.{any_word, overtaken, state, seen, overtaking, OvertakenByHand}
use Rattle.net_examples.proofs.BoxLemmas.{field_is_not}
use Rattle.net_examples.proofs.ForgetfulLemmas.{sent_linked, passed_linked, round_linked}

-- what hosts send and forbid

nothing_fixed : (n k : ℕ) → fixed_at (replicate n None) k ≡ None
nothing_fixed zero k = refl
nothing_fixed (suc n) zero = refl
nothing_fixed (suc n) (suc k) = nothing_fixed n k

any_matches : Matches (2 ∷ []) any_word 0
any_matches = record { each = λ k x less fixed. absurd (none_there k x fixed) }
  where
    none_there : (k x : ℕ) → fixed_at any_word k ≡ Some x → ⊥
    none_there k x fixed = let never : None ≡ Some x = sym (nothing_fixed 8 k) ∙ fixed in cc

p_may_send : Sends overtaken 0 0
p_may_send = (0, any_word, lit< tt, refl, any_matches)

q_forbids : Forbids overtaken 1 0
q_forbids = (0, any_word, lit< tt, refl, any_matches)

-- links are those of the box that forgets

pub linked_in : IsLinked overtaken 0 2
linked_in = sent_linked

pub linked_out : IsLinked overtaken 3 1
linked_out = passed_linked

pub linked_round : IsLinked overtaken 4 5
linked_round = round_linked

-- the handlers as plain data

abbrev pub is_b : Formula
is_b = Either (Both (Alike (Field 0) (Value 1)) Every) Neither

abbrev pub is_seen : Formula
is_seen = Either (Both (Alike (Field 0) (Value 0)) (Both (Holds seen_a) Every)) Neither

abbrev pub is_new : Formula
is_new = Either (Both (Alike (Field 0) (Value 0)) (Both (Denied (Holds seen_a)) Every)) Neither

abbrev pub inlet_body : Body
inlet_body = Emit 2 (written 0) (Emit 2 (written 1) Stop)

abbrev pub back_branches : Branches
back_branches =
    OneBranch is_b (Writes seen_a false Stop)
    (OneBranch is_seen (Emit 1 [] Stop) (OneBranch is_new (Writes seen_a true Stop) NoBranch))

abbrev pub back_body : Body
back_body = Fork back_branches Stop

-- executions

abbrev pub env : ℕ → Environment
env packet = environment_of overtaken pairer packet

abbrev pub out : ℕ → ℕ → Emission
out port packet = record { port = port; packet = packet }

same_0 : IsChanged (env 0) [] 0
same_0 = record { in_range = lit< tt; fields = refl }

changed_0 : IsChanged (env 0) (written 0) 0
unfolding field_of
changed_0 = record { in_range = lit< tt; fields = refl }

changed_1 : IsChanged (env 0) (written 1) 1
unfolding field_of
changed_1 = record { in_range = lit< tt; fields = refl }

module _ (bodies : BodiesAreRead) (formulas : FormulasAreRead) where
  pub inlet_read : body_of at_inlet ≡ inlet_body
  inlet_read =
      bodies.output 2 (written 0) (Output 2 (written 1) ∷ [])
      ∙ ap (λ rest. Emit 2 (written 0) rest) (bodies.output 2 (written 1) [])

  is_b_read : formula_of forgetting.guard ≡ is_b
  is_b_read =
      formulas.test forgetting.guard
      ∙ ap (λ formula. Either (Both formula Every) Neither) (formulas.same (Field 0) (Value 1))

  is_seen_read : formula_of passing.guard ≡ is_seen
  is_seen_read =
      formulas.test passing.guard
      ∙ (λ i. Either (Both (formulas.same (Field 0) (Value 0) i) (Both (formulas.has seen_a i) Every)) Neither)

  denied_read : formula_of_probe (Not (Has seen_a)) ≡ Denied (Holds seen_a)
  denied_read = formulas.deny (Has seen_a) ∙ ap (λ formula. Denied formula) (formulas.has seen_a)

  is_new_read : formula_of noting.guard ≡ is_new
  is_new_read =
      formulas.test noting.guard
      ∙ (λ i. Either (Both (formulas.same (Field 0) (Value 0) i) (Both (denied_read i) Every)) Neither)

  last_read : branches_of (noting ∷ []) ≡ OneBranch is_new (Writes seen_a true Stop) NoBranch
  last_read =
      bodies.branch noting [] ∙ (λ i. OneBranch (is_new_read i) (bodies.insert seen_a [] i) NoBranch)

  more_read : branches_of (passing ∷ noting ∷ []) ≡
      OneBranch is_seen (Emit 1 [] Stop) (OneBranch is_new (Writes seen_a true Stop) NoBranch)
  more_read =
      bodies.branch passing (noting ∷ [])
      ∙ (λ i. OneBranch (is_seen_read i) (bodies.output 1 [] [] i) (last_read i))

  pub back_read : body_of at_back ≡ back_body
  back_read =
      bodies.choose (forgetting ∷ passing ∷ noting ∷ []) []
      ∙ ap (λ branches. Fork branches Stop)
      (bodies.branch forgetting (passing ∷ noting ∷ [])
      ∙ (λ i. OneBranch (is_b_read i) (bodies.remove seen_a [] i) (more_read i)))

  inlet_handles : Handles overtaken 0 0 0 [] [] (Done [] (out 2 0 ∷ out 2 1 ∷ []))
  inlet_handles = record {
    box_plan = record { name = codes "g"; class = 0; first = [] };
    class = pairer;
    at_box = record { numbered = refl; of_class = refl };
    handler = at_inlet;
    at_port = refl;
    executes = subst (λ (b : Body). BodyRuns b (env 0) [] [] (Done [] (out 2 0 ∷ out 2 1 ∷ [])) []) (sym (inlet_read))
        (record {
          packet = 0;
          changed = changed_0;
          last = Done [] (out 2 1 ∷ []);
          second = record {
            packet = 1;
            changed = changed_1;
            last = Done [] [];
            second = (refl, refl);
            ends = refl;
          };
          ends = refl;
        });
  }

  back_notes : Handles overtaken 0 3 0 [] (2 ∷ []) (Done seen [])
  back_notes = record {
    box_plan = record { name = codes "g"; class = 0; first = [] };
    class = pairer;
    at_box = record { numbered = refl; of_class = refl };
    handler = at_back;
    at_port = refl;
    executes = subst (λ (b : Body). BodyRuns b (env 0) [] (2 ∷ []) (Done seen []) []) (sym (back_read))
        (inr (record {
          choice = 2;
          others = [];
          next = refl;
          runs = inr (record {
            mid = seen;
            outputs = [];
            unused = [];
            last = Done seen [];
            first = (
              inl (field_is_not, (none_contained (entry_in (env 0) seen_a), tt)),
              (refl, refl),
            );
            second = (refl, refl);
            ends = refl;
          });
        }));
  }

  back_passes : Handles overtaken 0 3 0 seen (1 ∷ []) (Done seen (out 1 0 ∷ []))
  back_passes = record {
    box_plan = record { name = codes "g"; class = 0; first = [] };
    class = pairer;
    at_box = record { numbered = refl; of_class = refl };
    handler = at_back;
    at_port = refl;
    executes = subst (λ (b : Body). BodyRuns b (env 0) seen (1 ∷ []) (Done seen (out 1 0 ∷ [])) []) (sym (back_read))
        (inr (record {
          choice = 1;
          others = [];
          next = refl;
          runs = inr (record {
            mid = seen;
            outputs = out 1 0 ∷ [];
            unused = [];
            last = Done seen [];
            first = (
              inl (field_is_not, (head_contained (record { relation = 0; tuple = 0 }) [], tt)),
              record {
                packet = 0;
                changed = same_0;
                last = Done seen [];
                second = (refl, refl);
                ends = refl;
              },
            );
            second = (refl, refl);
            ends = refl;
          });
        }));
  }

  -- steps

  send_step : (sent : List ℕ) →
      Leads overtaken Unordered (state sent [] [] []) (Send 0 0) Moved (state (sent ++ 0 ∷ []) [] [] [])
  send_step sent = record {
    end = 0;
    at_host = refl;
    packet_in_range = lit< tt;
    sends = p_may_send;
    put_out = record {
      linked = λ other _. record { packets = sent; waits = refl; leaves = refl };
      unlinked = λ none. absurd (none 2 linked_in);
    };
    happens = refl;
  }

  round_put : (packet : ℕ) (sent round : List ℕ) →
      PutsOut overtaken 4 packet (state sent round [] []) (state sent (round ++ packet ∷ []) [] [])
  round_put packet sent round = record {
    linked = λ other _. record { packets = round; waits = refl; leaves = refl };
    unlinked = λ none. absurd (none 5 linked_round);
  }

  passed_put : (round : List ℕ) → PutsOut overtaken 3 0 (state [] round [] seen) (state [] round (0 ∷ []) seen)
  passed_put round = record {
    linked = λ other _. record { packets = []; waits = refl; leaves = refl };
    unlinked = λ none. absurd (none 1 linked_out);
  }

  pair_step : (sent round : List ℕ) →
      Leads overtaken Unordered (state (0 ∷ sent) round [] []) (Deliver 2 0 []) Moved
      (state sent ((round ++ 0 ∷ []) ++ 1 ∷ []) [] [])
  pair_step sent round = inr record {
    box = 0;
    port = 0;
    at_port = refl;
    packet_in_range = lit< tt;
    left = state sent round [] [];
    taken = record {
      from = 0;
      linked = linked_in;
      packets = 0 ∷ sent;
      waits = refl;
      next = tt;
      others = sent;
      takes = record { front = []; rest = sent; stood = refl; first = none_contained 0; taken = refl };
      leaves = refl;
    };
    contents = [];
    has = refl;
    outcome = Done [] (out 2 0 ∷ out 2 1 ∷ []);
    handles = inlet_handles;
    reacts = (
      refl,
      (
        4,
        state sent (round ++ 0 ∷ []) [] [],
        refl,
        round_put 0 sent round,
        (
          4,
          state sent ((round ++ 0 ∷ []) ++ 1 ∷ []) [] [],
          refl,
          round_put 1 sent (round ++ 0 ∷ []),
          refl,
        ),
      ),
    );
  }

  note_step : (round : List ℕ) →
      Leads overtaken Unordered (state [] (0 ∷ round) [] []) (Deliver 5 0 (2 ∷ [])) Moved (state [] round [] seen)
  note_step round = inr record {
    box = 0;
    port = 3;
    at_port = refl;
    packet_in_range = lit< tt;
    left = state [] round [] [];
    taken = record {
      from = 4;
      linked = linked_round;
      packets = 0 ∷ round;
      waits = refl;
      next = tt;
      others = round;
      takes = record { front = []; rest = round; stood = refl; first = none_contained 0; taken = refl };
      leaves = refl;
    };
    contents = [];
    has = refl;
    outcome = Done seen [];
    handles = back_notes;
    reacts = (refl, refl);
  }

  -- the a behind a b is taken
  overtake_step :
      Leads overtaken Unordered (state [] (1 ∷ 0 ∷ 1 ∷ []) [] seen) (Deliver 5 0 (1 ∷ [])) Moved
      (state [] (1 ∷ 1 ∷ []) (0 ∷ []) seen)
  overtake_step = inr record {
    box = 0;
    port = 3;
    at_port = refl;
    packet_in_range = lit< tt;
    left = state [] (1 ∷ 1 ∷ []) [] seen;
    taken = record {
      from = 4;
      linked = linked_round;
      packets = 1 ∷ 0 ∷ 1 ∷ [];
      waits = refl;
      next = tt;
      others = 1 ∷ 1 ∷ [];
      takes = record { front = 1 ∷ []; rest = 1 ∷ []; stood = refl; first = not_before; taken = refl };
      leaves = refl;
    };
    contents = seen;
    has = refl;
    outcome = Done seen (out 1 0 ∷ []);
    handles = back_passes;
    reacts = (refl, (3, state [] (1 ∷ 1 ∷ []) (0 ∷ []) seen, refl, passed_put (1 ∷ 1 ∷ []), refl));
  }
    where
      not_before : Contains {X = ℕ} (1 ∷ []) 0 → ⊥
      not_before there =
          elim (contained_cases 1 0 [] there) [
            | inl same ↦ let never : ◌≡◌ {A = ℕ} 1 0 = same in absurd (omega (arith, never))
            | inr none ↦ none_contained 0 none
          ]

  get_step :
      Leads overtaken Unordered (state [] (1 ∷ 1 ∷ []) (0 ∷ []) seen) (Deliver 1 0 []) (Delivered 1 0)
      (state [] (1 ∷ 1 ∷ []) [] seen)
  get_step = inl record {
    host = 1;
    at_host = refl;
    packet_in_range = lit< tt;
    taken = record {
      from = 3;
      linked = linked_out;
      packets = 0 ∷ [];
      waits = refl;
      next = tt;
      others = [];
      takes = record { front = []; rest = []; stood = refl; first = none_contained 0; taken = refl };
      leaves = refl;
    };
    no_choices = refl;
    happens = refl;
  }

  the_run :
      Run overtaken Unordered (first_world overtaken) overtaking
      (Moved ∷ Moved ∷ Moved ∷ Moved ∷ Moved ∷ Moved ∷ Delivered 1 0 ∷ []) (state [] (1 ∷ 1 ∷ []) [] seen)
  the_run = (
    Moved,
    Moved ∷ Moved ∷ Moved ∷ Moved ∷ Moved ∷ Delivered 1 0 ∷ [],
    state (0 ∷ []) [] [] [],
    refl,
    send_step [],
    (
      Moved,
      Moved ∷ Moved ∷ Moved ∷ Moved ∷ Delivered 1 0 ∷ [],
      state (0 ∷ 0 ∷ []) [] [] [],
      refl,
      send_step (0 ∷ []),
      (
        Moved,
        Moved ∷ Moved ∷ Moved ∷ Delivered 1 0 ∷ [],
        state (0 ∷ []) (0 ∷ 1 ∷ []) [] [],
        refl,
        pair_step (0 ∷ []) [],
        (
          Moved,
          Moved ∷ Moved ∷ Delivered 1 0 ∷ [],
          state [] (0 ∷ 1 ∷ 0 ∷ 1 ∷ []) [] [],
          refl,
          pair_step [] (0 ∷ 1 ∷ []),
          (
            Moved,
            Moved ∷ Delivered 1 0 ∷ [],
            state [] (1 ∷ 0 ∷ 1 ∷ []) [] seen,
            refl,
            note_step (1 ∷ 0 ∷ 1 ∷ []),
            (
              Moved,
              Delivered 1 0 ∷ [],
              state [] (1 ∷ 1 ∷ []) (0 ∷ []) seen,
              refl,
              overtake_step,
              (Delivered 1 0, [], state [] (1 ∷ 1 ∷ []) [] seen, refl, get_step, (refl, refl)),
            ),
          ),
        ),
      ),
    ),
  )

  pub overtaken_by_hand : OvertakenByHand
  overtaken_by_hand = record {
    run = the_run;
    bad = (lit< tt, q_forbids);
    unsafe = λ safe.
        safe Unordered overtaking (Moved ∷ Moved ∷ Moved ∷ Moved ∷ Moved ∷ Moved ∷ Delivered 1 0 ∷ [])
        (state [] (1 ∷ 1 ∷ []) [] seen) the_run (Delivered 1 0) (6, lit< tt, refl) (lit< tt, q_forbids);
  }
