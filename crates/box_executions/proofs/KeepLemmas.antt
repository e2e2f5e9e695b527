-- Executions keep contents that fit, and put out what is in range.
use Rattle.std.proofs.Common.{◌≡◌, ℕ, ◌<◌, zero, suc, not, true, false, List, [], ◌∷◌, ◌++◌, inl, inr, refl, sym, subst}
use Rattle.std.specs.Prelude.{All}
use Rattle.std.proofs.lemmas.List.Elements.{All-nil, All-cons, All-append, All-filter}
use Rattle.std.proofs.lemmas.Map.Views.{All-insert_key}
use Rattle.header_set.specs.Headers.{product}
use Rattle.header_set.specs.Laws.{FieldsAreBelowSizes}
use Rattle.box_contents.specs.declared.entry.Entry.{Entry}
use Rattle.box_contents.specs.Contents.{entry_cmp, same_entry, with_entry, without_entry}
use Rattle.box_contents.specs.Laws.{WithKeepsRising, WithoutKeepsRising}
use Rattle.box_handlers.specs.declared.act.Change.{Change}
use Rattle.box_handlers.specs.Body.{Body, Stop, Writes, Emit, Halt, Fork, Each, Branches, NoBranch, OneBranch, body_of}
use Rattle.box_handlers.specs.Fits.{Surroundings, Fits, BranchesFit}
use Rattle.box_executions.specs.Environment.{Environment, entry_in, with_pick}
use Rattle.box_executions.specs.Execution.{Outcome, Done, Aborted, Emission, Behaviour, after_outputs, InSequence}
use Rattle.box_executions.specs.Execution.{PutsOutFirst, UsesChoice, BodyRuns, BranchRuns}
use Rattle.box_executions.specs.Shape.{IsEnvironment, IsTuple, AreContents, IsEmission, IsOutcome}
use Rattle.box_executions.specs.Laws.{OutcomeIsInRange}
use Rattle.box_executions.proofs.RangeLemmas.{pick_opened, entry_is_tuple}

-- contents that fit lead to an outcome that fits
abbrev pub Keeps : ℕ → List ℕ → List (List ℕ) → Behaviour → Type 0
Keeps ports headers relations runs =
    (contents : List Entry) (choices left : List ℕ) (outcome : Outcome) → AreContents relations contents →
    runs contents choices outcome left → IsOutcome ports headers relations outcome

module _ (ports : ℕ) (headers : List ℕ) (relations : List (List ℕ)) where
  after_keeps : (outputs : List Emission) (outcome : Outcome) → All (IsEmission ports headers) outputs →
      IsOutcome ports headers relations outcome →
      IsOutcome ports headers relations (after_outputs outputs outcome)
  after_keeps outputs (Done contents later) are is =
      (is.0, All-append (IsEmission ports headers) outputs later are is.1)
  after_keeps outputs Aborted are is = tt

  in_sequence_keeps : (block rest : Behaviour) → Keeps ports headers relations block →
      Keeps ports headers relations rest → Keeps ports headers relations (InSequence block rest)
  in_sequence_keeps block rest block_keeps rest_keeps contents choices left outcome are (inl (aborts, ends)) =
      subst (λ o. IsOutcome ports headers relations o) (sym ends) tt
  in_sequence_keeps block rest block_keeps rest_keeps contents choices left outcome are (inr goes) =
      let first : AreContents relations goes.mid × All (IsEmission ports headers) goes.outputs =
      block_keeps contents choices goes.unused (Done goes.mid goes.outputs) are goes.first in
      let second = rest_keeps goes.mid goes.unused left goes.last first.0 goes.second in
      subst (λ o. IsOutcome ports headers relations o) (sym goes.ends)
      (after_keeps goes.outputs goes.last first.1 second)

  by_choice_keeps : (block : ℕ → Behaviour) (rest : Behaviour) →
      ((choice : ℕ) → Keeps ports headers relations (block choice)) → Keeps ports headers relations rest →
      Keeps ports headers relations (UsesChoice block rest)
  by_choice_keeps block rest block_keeps rest_keeps contents choices left outcome are uses =
      in_sequence_keeps (block uses.choice) rest (block_keeps uses.choice) rest_keeps contents uses.others left outcome
      are uses.runs

  put_out_keeps : (env : Environment) (port : ℕ) (changes : List Change) (rest : Behaviour) → headers ≡ env.headers →
      port < ports → Keeps ports headers relations rest →
      Keeps ports headers relations (PutsOutFirst env port changes rest)
  put_out_keeps env port changes rest same less rest_keeps contents choices left outcome are puts =
      let emission : Emission = record { port = port; packet = puts.packet } in
      let fits : IsEmission ports headers emission =
      record { port = less; packet = subst (λ h. puts.packet < product h) (sym same) puts.changed.in_range } in
      subst (λ o. IsOutcome ports headers relations o) (sym puts.ends)
      (after_keeps (emission ∷ []) puts.last
      (All-cons (IsEmission ports headers) emission [] fits (All-nil (IsEmission ports headers)))
      (rest_keeps contents choices left puts.last are puts.second))

module _ (law : FieldsAreBelowSizes) (with_rising : WithKeepsRising) (without_rising : WithoutKeepsRising)
    (around : Surroundings) where
  pub with_fits : (relations : List (List ℕ)) (contents : List Entry) (entry : Entry) →
      AreContents relations contents → IsTuple relations entry →
      AreContents relations (with_entry contents entry)
  with_fits relations contents entry are is = record {
    rising = with_rising contents entry are.rising;
    tuples = All-insert_key entry_cmp entry (IsTuple relations) contents are.tuples is;
  }

  pub without_fits : (relations : List (List ℕ)) (contents : List Entry) (entry : Entry) →
      AreContents relations contents → AreContents relations (without_entry contents entry)
  without_fits relations contents entry are = record {
    rising = without_rising contents entry are.rising;
    tuples = All-filter (λ other. not (same_entry entry other)) (IsTuple relations) contents are.tuples;
  }

  mutual
    pub body_keeps : (body : Body) (env : Environment) (picks : List ℕ) → IsEnvironment around picks env →
        Fits around body picks →
        Keeps around.ports env.headers env.relations (BodyRuns body env)
    body_keeps Stop env picks is fits contents choices left outcome are runs =
        subst (λ o. IsOutcome around.ports env.headers env.relations o) (sym runs.0)
        (are, All-nil (IsEmission around.ports env.headers))
    body_keeps (Writes query true rest) env picks is fits contents choices left outcome are runs =
        body_keeps rest env picks is fits.1 (with_entry contents (entry_in env query)) choices left outcome
        (with_fits env.relations contents (entry_in env query) are
        (entry_is_tuple law around picks env is query fits.0)) runs
    body_keeps (Writes query false rest) env picks is fits contents choices left outcome are runs =
        body_keeps rest env picks is fits.1 (without_entry contents (entry_in env query)) choices left outcome
        (without_fits env.relations contents (entry_in env query) are) runs
    body_keeps (Emit port changes rest) env picks is fits contents choices left outcome are runs =
        put_out_keeps around.ports env.headers env.relations env port changes (BodyRuns rest env) refl fits.0
        (body_keeps rest env picks is fits.3) contents choices left outcome are runs
    body_keeps (Halt rest) env picks is fits contents choices left outcome are runs =
        subst (λ o. IsOutcome around.ports env.headers env.relations o) (sym runs.0) tt
    body_keeps (Fork branches rest) env picks is fits contents choices left outcome are (inl (none, runs)) =
        body_keeps rest env picks is fits.1 contents choices left outcome are runs
    body_keeps (Fork branches rest) env picks is fits contents choices left outcome are (inr uses) =
        by_choice_keeps around.ports env.headers env.relations (BranchRuns branches env) (BodyRuns rest env)
        (branches_keep branches env picks is fits.0) (body_keeps rest env picks is fits.1) contents choices left
        outcome are uses
    body_keeps (Each values body rest) env picks is fits contents choices left outcome are uses =
        by_choice_keeps around.ports env.headers env.relations
        (λ value s c o l. (value < values) × BodyRuns body (with_pick env value) s c o l) (BodyRuns rest env)
        (λ value s c l o fit x. body_keeps body (with_pick env value) (picks ++ values ∷ [])
        (pick_opened around picks env values value is x.0) fits.1 s c l o fit x.1)
        (body_keeps rest env picks is fits.2) contents choices left outcome are uses

    pub branches_keep : (branches : Branches) (env : Environment) (picks : List ℕ) → IsEnvironment around picks env →
        BranchesFit around branches picks → (number : ℕ) →
        Keeps around.ports env.headers env.relations (BranchRuns branches env number)
    branches_keep NoBranch env picks is fits number contents choices left outcome are runs = absurd runs
    branches_keep (OneBranch guard body more) env picks is fits zero contents choices left outcome are runs =
        body_keeps body env picks is fits.1 contents choices left outcome are runs.1
    branches_keep (OneBranch guard body more) env picks is fits (suc number) contents choices left outcome are runs =
        branches_keep more env picks is fits.2 number contents choices left outcome are runs

pub outcome_in_range : FieldsAreBelowSizes → WithKeepsRising → WithoutKeepsRising → OutcomeIsInRange
outcome_in_range law with_rising without_rising around picks env acts contents choices left outcome ready runs =
    body_keeps law with_rising without_rising around (body_of acts) env picks ready.environment ready.fits contents
    choices left outcome ready.contents_fit runs
