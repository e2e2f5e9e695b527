-- The box that is linked to itself, by hand.
use Rattle.std.proofs.Common.{◌≡◌, ℕ, zero, suc, ◌<◌, List, [], ◌∷◌, ◌++◌, Some, None, refl, sym, subst, inl, inr}
use Rattle.std.proofs.Common.{arith, lit<}
use Rattle.std.specs.Prelude.{codes, All, Any}
use Rattle.std.proofs.lemmas.List.Elements.{All-nil, All-cons, All-head}
use Rattle.header_set.specs.Headers.{field_of}
use Rattle.header_set.specs.Pattern.{fixed_at}
use Rattle.box_contents.specs.declared.entry.Entry.{Entry}
use Rattle.box_handlers.specs.declared.act.Term.TheVariants.{Field, Value}
use Rattle.box_handlers.specs.declared.act.Change.{Change}
use Rattle.box_handlers.specs.declared.act.Probe.{Probe}
use Rattle.box_handlers.specs.declared.act.Probe.TheVariants.{Has, Same}
use Rattle.box_handlers.specs.declared.act.Act.{Act}
use Rattle.box_handlers.specs.declared.act.Act.TheVariants.{Output, Abort}
use Rattle.box_executions.specs.Environment.{Environment, IsChanged}
use Rattle.box_executions.specs.Guard.{ProbeIsTrue, GuardIsTrue}
use Rattle.box_executions.specs.Execution.{Outcome, Done, Emission, after_outputs, Runs}
use Rattle.box_executions.specs.Laws.{GuardMeanings, StatementMeanings}
use Rattle.net_plan.specs.declared.plan.LinkPlan.{LinkPlan}
use Rattle.net_plan.specs.Plan.{Sends}
use Rattle.net_plan.specs.Ends.{IsLinkedBy, Joins}
use Rattle.net_plan.proofs.Rising.{contained_cases, none_contained, head_contained, tail_contained}
use Rattle.net_runs.specs.declared.world.Mode.{Mode}
use Rattle.net_runs.specs.declared.world.Mode.TheVariants.{Unordered, Ordered}
use Rattle.net_runs.specs.declared.world.Step.TheVariants.{Send, Deliver, Revert}
use Rattle.net_runs.specs.declared.world.Event.TheVariants.{Moved, Aborted}
use Rattle.net_runs.specs.World.{IsNext, PutsOut, IsUnlinked, environment_of, Handles, Leads}
use Rattle.net_examples.specs.Loop.{opened, to_b, where_true, passing, at_door, at_back, gate, loop_plan, state, open_a}
use Rattle.net_examples.specs.Loop.{way_round, LoopStepsByHand, AbortedRunByHand, LoopIsUnsafe}

abbrev env : ℕ → Environment
env packet = environment_of loop_plan gate packet

-- links

abbrev links : List LinkPlan
links = record { one = 0; two = 1 } ∷ record { one = 2; two = 3 } ∷ []

pub first_link : IsLinkedBy links 0 1
first_link = (
  record { one = 0; two = 1 },
  head_contained (record { one = 0; two = 1 }) (record { one = 2; two = 3 } ∷ []),
  inl
      (refl, refl),
)

pub second_link : IsLinkedBy links 2 3
second_link = (
  record { one = 2; two = 3 },
  tail_contained (record { one = 0; two = 1 }) (record { one = 2; two = 3 }) (record { one = 2; two = 3 } ∷ [])
      (head_contained (record { one = 2; two = 3 }) []),
  inl (refl, refl),
)

bare : IsUnlinked loop_plan 4
bare other (link, there, joins) =
    elim (contained_cases (record { one = 0; two = 1 }) link (record { one = 2; two = 3 } ∷ []) there) [
      | inl same ↦ no_end 0 1 other (lit< tt) (lit< tt) (subst (λ (l : LinkPlan). Joins l 4 other) (sym same) joins)
      | inr later ↦ elim (contained_cases (record { one = 2; two = 3 }) link [] later) [
        | inl same ↦ no_end 2 3 other (lit< tt) (lit< tt) (subst (λ (l : LinkPlan). Joins l 4 other) (sym same) joins)
        | inr none ↦ none_contained link none
      ]
    ]
  where
    no_end : (one two other : ℕ) → one < 4 → two < 4 → Joins (record { one = one; two = two }) 4 other → ⊥
    no_end one two other less below (inl joined) = let here : one ≡ 4 = joined.0 in absurd (omega arith)
    no_end one two other less below (inr joined) = let here : two ≡ 4 = joined.1 in absurd (omega arith)

-- what the host may send

pub sends_any : (packet : ℕ) → Sends loop_plan 0 packet
sends_any packet = (
  0,
  None ∷ None ∷ None ∷ None ∷ None ∷ None ∷ None ∷ None ∷ [],
  lit< tt,
  refl,
  record { each = λ k x less fixed. absurd (nothing_fixed k x less fixed) },
)
  where
    nothing_fixed : (k x : ℕ) → k < 1 →
        fixed_at (None ∷ None ∷ None ∷ None ∷ None ∷ None ∷ None ∷ None ∷ []) k ≡ Some x → ⊥
    nothing_fixed zero x less fixed = cc
    nothing_fixed (suc k) x less fixed = absurd (omega arith)

-- what is put out

there_put : (packet : ℕ) (sent round : List ℕ) (contents : List Entry) →
    PutsOut loop_plan 2 packet (state sent round contents) (state sent (round ++ packet ∷ []) contents)
there_put packet sent round contents = record {
  linked = λ other _. record { packets = round; waits = refl; leaves = refl };
  unlinked = λ none. absurd (none 3 second_link);
}

off_put : (packet : ℕ) (sent round : List ℕ) (contents : List Entry) →
    PutsOut loop_plan 4 packet (state sent round contents) (state sent round contents)
off_put packet sent round contents =
    record { linked = λ other linked. absurd (bare other linked); unlinked = λ _. refl }

next_head : (mode : Mode) (packet : ℕ) (rest : List ℕ) → IsNext mode packet (packet ∷ rest)
next_head Unordered packet rest = tt
next_head Ordered packet rest = (rest, refl)

-- executions

-- what the open door puts out
abbrev pub three : List Emission
three = record { port = 1; packet = 0 } ∷ record { port = 3; packet = 0 } ∷ record { port = 1; packet = 1 } ∷ []

module _ (guards : GuardMeanings) (statements : StatementMeanings) where
  one_probe : (e : Environment) (contents : List Entry) (probe : Probe) (body : List Act) →
      ProbeIsTrue e contents probe → GuardIsTrue e contents (where_true probe body)
  one_probe e contents probe body holds =
      ((guards e contents).test (record { any = (probe ∷ []) ∷ [] })).1 (
        0,
        probe ∷ [],
        lit< tt,
        refl,
        All-cons (ProbeIsTrue e contents) probe [] holds
            (All-nil (ProbeIsTrue e contents)),
      )

  the_probe : (e : Environment) (contents : List Entry) (probe : Probe) (body : List Act) →
      GuardIsTrue e contents (where_true probe body) → ProbeIsTrue e contents probe
  the_probe e contents probe body holds = by (((guards e contents).test (record { any = (probe ∷ []) ∷ [] })).0 holds)
    where
      by : Any (λ probes. All (ProbeIsTrue e contents) probes) ((probe ∷ []) ∷ []) → ProbeIsTrue e contents probe
      by (zero, probes, less, is, all) =
          All-head (ProbeIsTrue e contents) probe [] (subst (All (ProbeIsTrue e contents)) (sym is) all)
      by (suc k, probes, less, is, all) = absurd (omega arith)

  ends : (e : Environment) (contents : List Entry) (left : List ℕ) → Runs e [] contents left (Done contents []) left
  ends e contents left = (statements e [] contents left (Done contents []) left).none.1 (refl, refl)

  puts : (e : Environment) (port : ℕ) (changes : List Change) (rest : List Act) (contents : List Entry) (left : List ℕ)
      (packet : ℕ) (last : Outcome) → IsChanged e changes packet →
      Runs e rest contents left last left →
      Runs e (Output port changes ∷ rest) contents left
      (after_outputs (record { port = port; packet = packet } ∷ []) last) left
  puts e port changes rest contents left packet last changed runs =
      ((statements e rest contents left (after_outputs (record { port = port; packet = packet } ∷ []) last)
      left).output port changes).1
      (record { packet = packet; changed = changed; last = last; second = runs; ends = refl })

  same_0 : IsChanged (env 0) [] 0
  same_0 = record { in_range = lit< tt; fields = refl }

  changed_0 : IsChanged (env 0) to_b 1
  unfolding field_of
  changed_0 = record { in_range = lit< tt; fields = refl }

  -- at the open door
  abbrev passed : Outcome
  passed = Done [] three

  block_runs : Runs (env 0) passing open_a [] passed []
  unfolding field_of
  block_runs =
      ((statements (env 0) (Output 1 [] ∷ Output 3 [] ∷ Output 1 to_b ∷ []) open_a [] passed []).remove opened).1
      (puts (env 0) 1 [] (Output 3 [] ∷ Output 1 to_b ∷ []) [] [] 0
      (Done [] (record { port = 3; packet = 0 } ∷ record { port = 1; packet = 1 } ∷ [])) same_0
      (puts (env 0) 3 [] (Output 1 to_b ∷ []) [] [] 0 (Done [] (record { port = 1; packet = 1 } ∷ [])) same_0
      (puts (env 0) 1 to_b [] [] [] 1 (Done [] []) changed_0 (ends (env 0) [] []))))

  has_open : ProbeIsTrue (env 0) open_a (Has opened)
  unfolding field_of
  has_open = ((guards (env 0) open_a).has opened).1 (0, lit< tt, refl)

  pub door_passes : Handles loop_plan 0 0 0 open_a (0 ∷ []) passed
  door_passes = record {
    box_plan = record { name = codes "g"; class = 0; first = open_a };
    class = gate;
    at_box = record { numbered = refl; of_class = refl };
    handler = at_door;
    at_port = refl;
    executes =
        ((statements (env 0) [] open_a (0 ∷ []) passed []).choose (where_true (Has opened) passing ∷ [])).1
        (inr record {
          choice = 0;
          others = [];
          next = refl;
          runs = inr record {
            mid = [];
            outputs = three;
            unused = [];
            last = Done [] [];
            first = record {
              branch = where_true (Has opened) passing;
              numbered = refl;
              guard = one_probe (env 0) open_a (Has opened) passing has_open;
              runs = block_runs;
            };
            second = ends (env 0) [] [];
            ends = refl;
          };
        });
  }

  -- at the shut door
  door_stays : Handles loop_plan 0 0 0 [] [] (Done [] [])
  door_stays = record {
    box_plan = record { name = codes "g"; class = 0; first = open_a };
    class = gate;
    at_box = record { numbered = refl; of_class = refl };
    handler = at_door;
    at_port = refl;
    executes =
        ((statements (env 0) [] [] [] (Done [] []) []).choose (where_true (Has opened) passing ∷ [])).1
        (inl (
          All-cons (λ branch. GuardIsTrue (env 0) [] branch → ⊥) (where_true (Has opened) passing) []
              (λ holds. none_there (the_probe (env 0) [] (Has opened) passing holds))
              (All-nil (λ branch. GuardIsTrue (env 0) [] branch → ⊥)),
          ends (env 0) [] [],
        ));
  }
    where
      none_there : ProbeIsTrue (env 0) [] (Has opened) → ⊥
      none_there holds =
          let there = ((guards (env 0) []).has opened).0 holds in
          let less : there.0 < 0 = there.1 in
          absurd (omega arith)

  -- on the way round
  round_goes : (contents : List Entry) →
      Handles loop_plan 0 2 0 contents (0 ∷ []) (Done contents (record { port = 1; packet = 1 } ∷ []))
  unfolding field_of
  round_goes contents = record {
    box_plan = record { name = codes "g"; class = 0; first = open_a };
    class = gate;
    at_box = record { numbered = refl; of_class = refl };
    handler = at_back;
    at_port = refl;
    executes =
        ((statements (env 0) [] contents (0 ∷ []) (Done contents (record { port = 1; packet = 1 } ∷ [])) []).choose
        (where_true (Same (Field 0) (Value 0)) (Output 1 to_b ∷ []) ∷ where_true (Same (Field 0) (Value 1))
        (Abort ∷ []) ∷ [])).1
        (inr record {
          choice = 0;
          others = [];
          next = refl;
          runs = inr record {
            mid = contents;
            outputs = record { port = 1; packet = 1 } ∷ [];
            unused = [];
            last = Done contents [];
            first = record {
              branch = where_true (Same (Field 0) (Value 0)) (Output 1 to_b ∷ []);
              numbered = refl;
              guard = one_probe (env 0) contents (Same (Field 0) (Value 0)) (Output 1 to_b ∷ [])
                  (((guards (env 0) contents).same (Field 0) (Value 0)).1 refl);
              runs = puts (env 0) 1 to_b [] contents [] 1 (Done contents []) changed_0 (ends (env 0) contents []);
            };
            second = ends (env 0) contents [];
            ends = refl;
          };
        });
  }

  pub round_aborts : (contents : List Entry) → Handles loop_plan 0 2 1 contents (1 ∷ []) Outcome.Aborted
  unfolding field_of
  round_aborts contents = record {
    box_plan = record { name = codes "g"; class = 0; first = open_a };
    class = gate;
    at_box = record { numbered = refl; of_class = refl };
    handler = at_back;
    at_port = refl;
    executes =
        ((statements (env 1) [] contents (1 ∷ []) Outcome.Aborted []).choose
        (where_true (Same (Field 0) (Value 0)) (Output 1 to_b ∷ []) ∷ where_true (Same (Field 0) (Value 1))
        (Abort ∷ []) ∷ [])).1
        (inr record {
          choice = 1;
          others = [];
          next = refl;
          runs = inl (
            record {
              branch = where_true (Same (Field 0) (Value 1)) (Abort ∷ []);
              numbered = refl;
              guard = one_probe (env 1) contents (Same (Field 0) (Value 1)) (Abort ∷ [])
                  (((guards (env 1) contents).same (Field 0) (Value 1)).1 refl);
              runs = (statements (env 1) [] contents [] Outcome.Aborted []).abort.1 (refl, refl);
            },
            refl,
          );
        });
  }

  -- steps

  send_step : (mode : Mode) (sent round : List ℕ) (contents : List Entry) →
      Leads loop_plan mode (state sent round contents) (Send 0 0) Moved (state (sent ++ 0 ∷ []) round contents)
  send_step mode sent round contents = record {
    end = 0;
    at_host = refl;
    packet_in_range = lit< tt;
    sends = sends_any 0;
    put_out = record {
      linked = λ other _. record { packets = sent; waits = refl; leaves = refl };
      unlinked = λ none. absurd (none 1 first_link);
    };
    happens = refl;
  }

  pass_step : (mode : Mode) (rest : List ℕ) →
      Leads loop_plan mode (state (0 ∷ rest) [] open_a) (Deliver 1 0 (0 ∷ [])) Moved (state rest (0 ∷ 1 ∷ []) [])
  pass_step mode rest = inr record {
    box = 0;
    port = 0;
    at_port = refl;
    packet_in_range = lit< tt;
    left = state rest [] open_a;
    taken = record {
      from = 0;
      linked = first_link;
      packets = 0 ∷ rest;
      waits = refl;
      next = next_head mode 0 rest;
      others = rest;
      takes = record { front = []; rest = rest; stood = refl; first = none_contained 0; taken = refl };
      leaves = refl;
    };
    contents = open_a;
    has = refl;
    outcome = passed;
    handles = door_passes;
    reacts = (
      refl,
      (
        2,
        state rest (0 ∷ []) [],
        refl,
        there_put 0 rest [] [],
        (
          4,
          state rest (0 ∷ []) [],
          refl,
          off_put 0 rest (0 ∷ []) [],
          (2, state rest (0 ∷ 1 ∷ []) [], refl, there_put 1 rest (0 ∷ []) [], refl),
        ),
      ),
    );
  }

  stay_step : (mode : Mode) → Leads loop_plan mode (state (0 ∷ []) [] []) (Deliver 1 0 []) Moved (state [] [] [])
  stay_step mode = inr record {
    box = 0;
    port = 0;
    at_port = refl;
    packet_in_range = lit< tt;
    left = state [] [] [];
    taken = record {
      from = 0;
      linked = first_link;
      packets = 0 ∷ [];
      waits = refl;
      next = next_head mode 0 [];
      others = [];
      takes = record { front = []; rest = []; stood = refl; first = none_contained 0; taken = refl };
      leaves = refl;
    };
    contents = [];
    has = refl;
    outcome = Done [] [];
    handles = door_stays;
    reacts = (refl, refl);
  }

  round_step : (mode : Mode) (rest : List ℕ) (contents : List Entry) →
      Leads loop_plan mode (state [] (0 ∷ rest) contents) (Deliver 3 0 (0 ∷ [])) Moved
      (state [] (rest ++ 1 ∷ []) contents)
  round_step mode rest contents = inr record {
    box = 0;
    port = 2;
    at_port = refl;
    packet_in_range = lit< tt;
    left = state [] rest contents;
    taken = record {
      from = 2;
      linked = second_link;
      packets = 0 ∷ rest;
      waits = refl;
      next = next_head mode 0 rest;
      others = rest;
      takes = record { front = []; rest = rest; stood = refl; first = none_contained 0; taken = refl };
      leaves = refl;
    };
    contents = contents;
    has = refl;
    outcome = Done contents (record { port = 1; packet = 1 } ∷ []);
    handles = round_goes contents;
    reacts = (refl, (2, state [] (rest ++ 1 ∷ []) contents, refl, there_put 1 [] rest contents, refl));
  }

  abort_step : (mode : Mode) (rest : List ℕ) (contents : List Entry) →
      Leads loop_plan mode (state [] (1 ∷ rest) contents) (Deliver 3 1 (1 ∷ [])) (Aborted 0 1) (state [] rest contents)
  abort_step mode rest contents = inr record {
    box = 0;
    port = 2;
    at_port = refl;
    packet_in_range = lit< tt;
    left = state [] rest contents;
    taken = record {
      from = 2;
      linked = second_link;
      packets = 1 ∷ rest;
      waits = refl;
      next = next_head mode 1 rest;
      others = rest;
      takes = record { front = []; rest = rest; stood = refl; first = none_contained 1; taken = refl };
      leaves = refl;
    };
    contents = contents;
    has = refl;
    outcome = Outcome.Aborted;
    handles = round_aborts contents;
    reacts = (refl, refl);
  }

  revert_step : (mode : Mode) (sent round : List ℕ) (contents : List Entry) →
      Leads loop_plan mode (state sent round contents) (Revert 0) Moved (state sent round open_a)
  revert_step mode sent round contents = record {
    box_plan = record { name = codes "g"; class = 0; first = open_a };
    numbered = refl;
    leaves = refl;
    happens = refl;
  }

  pub loop_steps : LoopStepsByHand
  loop_steps mode = record {
    sends = send_step mode (1 ∷ []) [];
    passes = pass_step mode (1 ∷ 0 ∷ []);
    stays = stay_step mode;
    goes_round = round_step mode (0 ∷ []);
    aborts = abort_step mode (0 ∷ []);
    reverts = revert_step mode;
  }

  pub aborted_run : AbortedRunByHand
  aborted_run mode = record {
    run = (
      Moved,
      Moved ∷ Moved ∷ Aborted 0 1 ∷ Moved ∷ [],
      state (0 ∷ []) [] open_a,
      refl,
      send_step mode [] [] open_a,
      (
        Moved,
        Moved ∷ Aborted 0 1 ∷ Moved ∷ [],
        state [] (0 ∷ 1 ∷ []) [],
        refl,
        pass_step mode [],
        (
          Moved,
          Aborted 0 1 ∷ Moved ∷ [],
          state [] (1 ∷ 1 ∷ []) [],
          refl,
          round_step mode (1 ∷ []) [],
          (
            Aborted 0 1,
            Moved ∷ [],
            state [] (1 ∷ []) [],
            refl,
            abort_step mode (1 ∷ []) [],
            (Moved, [], state [] (1 ∷ []) open_a, refl, revert_step mode [] (1 ∷ []) [], (refl, refl)),
          ),
        ),
      ),
    );
    bad = tt;
  }

  pub loop_is_unsafe : LoopIsUnsafe
  loop_is_unsafe safe =
      safe Unordered way_round (Moved ∷ Moved ∷ Moved ∷ Aborted 0 1 ∷ Moved ∷ []) (state [] (1 ∷ []) open_a)
      (aborted_run Unordered).run (Aborted 0 1) (3, lit< tt, refl) tt
