-- The box that forgets its block list, by hand: its handlers, and a run with a revert.
use Rattle.std.proofs.Common.{◌≡◌, ℕ, zero, suc, true, List, [], ◌∷◌, ◌++◌, Some, None, refl, sym, ap, subst}
use Rattle.std.proofs.Common.{◌∙◌, inl, inr, lit<, codes, replicate}
use Rattle.std.specs.List.{Contains}
use Rattle.header_set.specs.Headers.{field_of}
use Rattle.header_set.specs.Pattern.{fixed_at, Matches}
use Rattle.box_contents.specs.declared.entry.Entry.{Entry}
use Rattle.box_contents.specs.Contents.{with_entry}
use Rattle.box_handlers.specs.declared.act.Probe.TheVariants.{Has, Not}
use Rattle.box_handlers.specs.declared.act.Act.TheVariants.{Output}
use Rattle.box_handlers.specs.declared.act.Branch.{Branch}
use Rattle.box_handlers.specs.Body.{Formula, Holds, Denied, Both, Every, Either, Neither, Body, Stop, Writes, Emit}
use Rattle.box_handlers.specs.Body.{Fork, NoBranch, OneBranch, body_of, formula_of, BodiesAreRead, FormulasAreRead}
use Rattle.box_executions.specs.Environment.{Environment, entry_in, IsChanged}
use Rattle.box_executions.specs.Guard.{IsSatisfied}
use Rattle.box_executions.specs.Execution.{Done, Emission, BodyRuns}
use Rattle.net_plan.specs.declared.plan.LinkPlan.{LinkPlan}
use Rattle.net_plan.specs.Plan.{Sends, Forbids}
use Rattle.net_plan.specs.Ends.{IsLinked}
use Rattle.net_plan.proofs.Rising.{none_contained, head_contained, tail_contained}
use Rattle.net_runs.specs.declared.world.Mode.{Mode}
use Rattle.net_runs.specs.declared.world.Mode.TheVariants.{Unordered, Ordered}
use Rattle.net_runs.specs.declared.world.Step.{Step}
use Rattle.net_runs.specs.declared.world.Step.TheVariants.{Send, Deliver, Revert}
use Rattle.net_runs.specs.declared.world.Event.{Event}
use Rattle.net_runs.specs.declared.world.Event.TheVariants.{Moved, Delivered}
use Rattle.net_runs.specs.declared.world.World.{World}
use Rattle.net_runs.specs.World.{first_world, Run, IsNext, PutsOut, environment_of, Handles, Leads}
use Rattle.net_examples.specs.Forgetful.{blocked_word, at_inlet, at_back, blocker, any_word, forgetful, state, blocked_a}
use Rattle.net_examples.specs.Forgetful.{way_round, after_that, RevertedRunByHand, ForgetfulIsUnsafe}

-- links

abbrev pub sent_link : LinkPlan
sent_link = record { one = 0; two = 2 }

abbrev pub passed_link : LinkPlan
passed_link = record { one = 3; two = 1 }

abbrev pub round_link : LinkPlan
round_link = record { one = 4; two = 5 }

pub sent_linked : IsLinked forgetful 0 2
sent_linked = (sent_link, head_contained sent_link (passed_link ∷ round_link ∷ []), inl (refl, refl))

pub passed_linked : IsLinked forgetful 3 1
passed_linked = (
  passed_link,
  tail_contained sent_link passed_link (passed_link ∷ round_link ∷ []) (head_contained passed_link (round_link ∷ [])),
  inl (refl, refl),
)

pub round_linked : IsLinked forgetful 4 5
round_linked = (
  round_link,
  tail_contained sent_link round_link (passed_link ∷ round_link ∷ [])
      (tail_contained passed_link round_link (round_link ∷ []) (head_contained round_link [])),
  inl (refl, refl),
)

-- what hosts send and forbid

nothing_fixed : (n k : ℕ) → fixed_at (replicate n None) k ≡ None
nothing_fixed zero k = refl
nothing_fixed (suc n) zero = refl
nothing_fixed (suc n) (suc k) = nothing_fixed n k

any_matches : Matches (1 ∷ []) any_word 0
any_matches = record { each = λ k x less fixed. absurd (none_there k x fixed) }
  where
    none_there : (k x : ℕ) → fixed_at any_word k ≡ Some x → ⊥
    none_there k x fixed = let never : None ≡ Some x = sym (nothing_fixed 8 k) ∙ fixed in cc

pub p_may_send : Sends forgetful 0 0
p_may_send = (0, any_word, lit< tt, refl, any_matches)

pub q_forbids : Forbids forgetful 1 0
q_forbids = (0, any_word, lit< tt, refl, any_matches)

-- the handlers as plain data

abbrev pub guard : Formula
guard = Either (Both (Denied (Holds blocked_word)) Every) Neither

abbrev pub inlet_body : Body
inlet_body = Writes blocked_word true (Emit 2 [] Stop)

abbrev pub back_body : Body
back_body = Fork (OneBranch guard (Emit 1 [] Stop) NoBranch) Stop

abbrev unless_blocked : Branch
unless_blocked = record { guard = record { any = (Not (Has blocked_word) ∷ []) ∷ [] }; body = Output 1 [] ∷ [] }

-- executions

abbrev pub env : Environment
env = environment_of forgetful blocker 0

abbrev pub out : ℕ → Emission
out port = record { port = port; packet = 0 }

pub entry_is : entry_in env blocked_word ≡ record { relation = 0; tuple = 0 }
unfolding field_of
entry_is = refl

same_packet : IsChanged env [] 0
same_packet = record { in_range = lit< tt; fields = refl }

module _ (bodies : BodiesAreRead) (formulas : FormulasAreRead) where
  pub inlet_read : body_of at_inlet ≡ inlet_body
  inlet_read =
      bodies.insert blocked_word (Output 2 [] ∷ []) ∙ ap (λ rest. Writes blocked_word true rest) (bodies.output 2 [] [])

  pub back_read : body_of at_back ≡ back_body
  back_read =
      bodies.choose (unless_blocked ∷ []) []
      ∙ ap (λ branches. Fork branches Stop)
      (bodies.branch unless_blocked []
      ∙ (λ i. OneBranch (formula_is i) (bodies.output 1 [] [] i) NoBranch))
    where
      formula_is : formula_of (record { any = (Not (Has blocked_word) ∷ []) ∷ [] }) ≡ guard
      formula_is =
          formulas.test (record { any = (Not (Has blocked_word) ∷ []) ∷ [] })
          ∙ ap (λ formula. Either (Both formula Every) Neither)
          (formulas.deny (Has blocked_word) ∙ ap (λ formula. Denied formula) (formulas.has blocked_word))

  -- the packet is blocked, if it isn't yet, and let round
  inlet_handles : (contents left : List Entry) → with_entry contents (record { relation = 0; tuple = 0 }) ≡ left →
      Handles forgetful 0 0 0 contents [] (Done left (out 2 ∷ []))
  inlet_handles contents left e = record {
    box_plan = record { name = codes "g"; class = 0; first = [] };
    class = blocker;
    at_box = record { numbered = refl; of_class = refl };
    handler = at_inlet;
    at_port = refl;
    executes = subst (λ (b : Body). BodyRuns b env contents [] (Done left (out 2 ∷ [])) [])
        (sym (inlet_read))
        (record {
          packet = 0;
          changed = same_packet;
          last = Done left [];
          second = (ap (λ (l : List Entry). Done l []) (sym (ap (with_entry contents) entry_is ∙ e)), refl);
          ends = refl;
        });
  }

  pub first_blocked : Handles forgetful 0 0 0 [] [] (Done blocked_a (out 2 ∷ []))
  first_blocked = inlet_handles [] blocked_a refl

  pub still_blocked : Handles forgetful 0 0 0 blocked_a [] (Done blocked_a (out 2 ∷ []))
  still_blocked = inlet_handles blocked_a blocked_a refl

  -- a blocked packet is dropped
  back_drops : Handles forgetful 0 3 0 blocked_a [] (Done blocked_a [])
  back_drops = record {
    box_plan = record { name = codes "g"; class = 0; first = [] };
    class = blocker;
    at_box = record { numbered = refl; of_class = refl };
    handler = at_back;
    at_port = refl;
    executes = subst (λ (b : Body). BodyRuns b env blocked_a [] (Done blocked_a []) []) (sym (back_read))
        (inl ((blocked, tt), (refl, refl)));
  }
    where
      blocked : IsSatisfied env blocked_a guard → ⊥
      blocked (inl (denied, every)) =
          denied (subst (Contains blocked_a) (sym entry_is) (head_contained (record { relation = 0; tuple = 0 }) []))
      blocked (inr never) = never

  -- from the first contents it is let through
  pub back_passes : Handles forgetful 0 3 0 [] (0 ∷ []) (Done [] (out 1 ∷ []))
  back_passes = record {
    box_plan = record { name = codes "g"; class = 0; first = [] };
    class = blocker;
    at_box = record { numbered = refl; of_class = refl };
    handler = at_back;
    at_port = refl;
    executes = subst (λ (b : Body). BodyRuns b env [] (0 ∷ []) (Done [] (out 1 ∷ [])) []) (sym (back_read))
        (inr (record {
          choice = 0;
          others = [];
          next = refl;
          runs = inr (record {
            mid = [];
            outputs = out 1 ∷ [];
            unused = [];
            last = Done [] [];
            first = (
              inl (none_contained (entry_in env blocked_word), tt),
              record {
                packet = 0;
                changed = same_packet;
                last = Done [] [];
                second = (refl, refl);
                ends = refl;
              },
            );
            second = (refl, refl);
            ends = refl;
          });
        }));
  }

  -- steps

  next_head : (mode : Mode) (packet : ℕ) (rest : List ℕ) → IsNext mode packet (packet ∷ rest)
  next_head Unordered packet rest = tt
  next_head Ordered packet rest = (rest, refl)

  send_step : (mode : Mode) (sent round passed : List ℕ) (contents : List Entry) →
      Leads forgetful mode (state sent round passed contents) (Send 0 0) Moved
      (state (sent ++ 0 ∷ []) round passed contents)
  send_step mode sent round passed contents = record {
    end = 0;
    at_host = refl;
    packet_in_range = lit< tt;
    sends = p_may_send;
    put_out = record {
      linked = λ other _. record { packets = sent; waits = refl; leaves = refl };
      unlinked = λ none. absurd (none 2 sent_linked);
    };
    happens = refl;
  }

  -- a packet is put out on the way round, and at the outlet
  round_put : (sent round passed : List ℕ) (contents : List Entry) →
      PutsOut forgetful 4 0 (state sent round passed contents) (state sent (round ++ 0 ∷ []) passed contents)
  round_put sent round passed contents = record {
    linked = λ other _. record { packets = round; waits = refl; leaves = refl };
    unlinked = λ none. absurd (none 5 round_linked);
  }

  passed_put : (sent round passed : List ℕ) (contents : List Entry) →
      PutsOut forgetful 3 0 (state sent round passed contents) (state sent round (passed ++ 0 ∷ []) contents)
  passed_put sent round passed contents = record {
    linked = λ other _. record { packets = passed; waits = refl; leaves = refl };
    unlinked = λ none. absurd (none 1 passed_linked);
  }

  block_step : (mode : Mode) (sent round : List ℕ) (contents : List Entry) →
      Handles forgetful 0 0 0 contents [] (Done blocked_a (out 2 ∷ [])) →
      Leads forgetful mode (state (0 ∷ sent) round [] contents) (Deliver 2 0 []) Moved
      (state sent (round ++ 0 ∷ []) [] blocked_a)
  block_step mode sent round contents handled = inr record {
    box = 0;
    port = 0;
    at_port = refl;
    packet_in_range = lit< tt;
    left = state sent round [] contents;
    taken = record {
      from = 0;
      linked = sent_linked;
      packets = 0 ∷ sent;
      waits = refl;
      next = next_head mode 0 sent;
      others = sent;
      takes = record { front = []; rest = sent; stood = refl; first = none_contained 0; taken = refl };
      leaves = refl;
    };
    contents = contents;
    has = refl;
    outcome = Done blocked_a (out 2 ∷ []);
    handles = handled;
    reacts = (
      refl,
      (4, state sent (round ++ 0 ∷ []) [] blocked_a, refl, round_put sent round [] blocked_a, refl),
    );
  }

  drop_step : (mode : Mode) (round : List ℕ) →
      Leads forgetful mode (state [] (0 ∷ round) [] blocked_a) (Deliver 5 0 []) Moved (state [] round [] blocked_a)
  drop_step mode round = inr record {
    box = 0;
    port = 3;
    at_port = refl;
    packet_in_range = lit< tt;
    left = state [] round [] blocked_a;
    taken = record {
      from = 4;
      linked = round_linked;
      packets = 0 ∷ round;
      waits = refl;
      next = next_head mode 0 round;
      others = round;
      takes = record { front = []; rest = round; stood = refl; first = none_contained 0; taken = refl };
      leaves = refl;
    };
    contents = blocked_a;
    has = refl;
    outcome = Done blocked_a [];
    handles = back_drops;
    reacts = (refl, refl);
  }

  forget_step : (mode : Mode) (round : List ℕ) →
      Leads forgetful mode (state [] round [] blocked_a) (Revert 0) Moved (state [] round [] [])
  forget_step mode round = record {
    box_plan = record { name = codes "g"; class = 0; first = [] };
    numbered = refl;
    leaves = refl;
    happens = refl;
  }

  pass_step : (mode : Mode) (round : List ℕ) →
      Leads forgetful mode (state [] (0 ∷ round) [] []) (Deliver 5 0 (0 ∷ [])) Moved (state [] round (0 ∷ []) [])
  pass_step mode round = inr record {
    box = 0;
    port = 3;
    at_port = refl;
    packet_in_range = lit< tt;
    left = state [] round [] [];
    taken = record {
      from = 4;
      linked = round_linked;
      packets = 0 ∷ round;
      waits = refl;
      next = next_head mode 0 round;
      others = round;
      takes = record { front = []; rest = round; stood = refl; first = none_contained 0; taken = refl };
      leaves = refl;
    };
    contents = [];
    has = refl;
    outcome = Done [] (out 1 ∷ []);
    handles = back_passes;
    reacts = (refl, (3, state [] round (0 ∷ []) [], refl, passed_put [] round [] [], refl));
  }

  get_step : (mode : Mode) →
      Leads forgetful mode (state [] [] (0 ∷ []) []) (Deliver 1 0 []) (Delivered 1 0) (state [] [] [] [])
  get_step mode = inl record {
    host = 1;
    at_host = refl;
    packet_in_range = lit< tt;
    taken = record {
      from = 3;
      linked = passed_linked;
      packets = 0 ∷ [];
      waits = refl;
      next = next_head mode 0 [];
      others = [];
      takes = record { front = []; rest = []; stood = refl; first = none_contained 0; taken = refl };
      leaves = refl;
    };
    no_choices = refl;
    happens = refl;
  }

  -- the first four steps, before what else happens
  first_four : (mode : Mode) (steps : List Step) (events : List Event) (new : World) →
      Run forgetful mode (state [] (0 ∷ 0 ∷ []) [] blocked_a) steps events new →
      Run forgetful mode (first_world forgetful) (way_round ++ steps) (Moved ∷ Moved ∷ Moved ∷ Moved ∷ events) new
  first_four mode steps events new runs = (
    Moved,
    Moved ∷ Moved ∷ Moved ∷ events,
    state (0 ∷ []) [] [] [],
    refl,
    send_step mode [] [] [] [],
    (
      Moved,
      Moved ∷ Moved ∷ events,
      state (0 ∷ 0 ∷ []) [] [] [],
      refl,
      send_step mode (0 ∷ []) [] [] [],
      (
        Moved,
        Moved ∷ events,
        state (0 ∷ []) (0 ∷ []) [] blocked_a,
        refl,
        block_step mode (0 ∷ []) [] [] first_blocked,
        (
          Moved,
          events,
          state [] (0 ∷ 0 ∷ []) [] blocked_a,
          refl,
          block_step mode [] (0 ∷ []) blocked_a still_blocked,
          runs,
        ),
      ),
    ),
  )

  pub reverted_run : RevertedRunByHand
  reverted_run mode = record {
    blocks = first_four mode [] [] (state [] (0 ∷ 0 ∷ []) [] blocked_a) (refl, refl);
    drops = drop_step mode (0 ∷ []);
    forgets = forget_step mode (0 ∷ []);
    passes = pass_step mode [];
    run = first_four mode after_that (Moved ∷ Moved ∷ Moved ∷ Delivered 1 0 ∷ []) (state [] [] [] []) (
      Moved,
      Moved ∷ Moved ∷ Delivered 1 0 ∷ [],
      state [] (0 ∷ []) [] blocked_a,
      refl,
      drop_step mode (0 ∷ []),
      (
        Moved,
        Moved ∷ Delivered 1 0 ∷ [],
        state [] (0 ∷ []) [] [],
        refl,
        forget_step mode (0 ∷ []),
        (
          Moved,
          Delivered 1 0 ∷ [],
          state [] [] (0 ∷ []) [],
          refl,
          pass_step mode [],
          (Delivered 1 0, [], state [] [] [] [], refl, get_step mode, (refl, refl)),
        ),
      ),
    );
    bad = (lit< tt, q_forbids);
  }

  pub forgetful_is_unsafe : ForgetfulIsUnsafe
  forgetful_is_unsafe safe =
      safe Unordered (way_round ++ after_that)
      (Moved ∷ Moved ∷ Moved ∷ Moved ∷ Moved ∷ Moved ∷ Moved ∷ Delivered 1 0 ∷ []) (state [] [] [] [])
      (reverted_run Unordered).run (Delivered 1 0) (7, lit< tt, refl) (lit< tt, q_forbids)
