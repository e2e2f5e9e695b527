-- An execution uses a front of the choices, and doesn't depend on those behind it.
use Rattle.std.proofs.Common.{◌≡◌, ℕ, ◌<◌, zero, suc, true, false, List, [], ◌∷◌, ◌++◌, append_assoc, inl, inr, refl}
use Rattle.std.proofs.Common.{sym, ap, subst, ◌∙◌}
use Rattle.box_contents.specs.declared.entry.Entry.{Entry}
use Rattle.box_contents.specs.Contents.{with_entry, without_entry}
use Rattle.box_handlers.specs.Body.{Body, Stop, Writes, Emit, Halt, Fork, Each, Branches, NoBranch, OneBranch, body_of}
use Rattle.box_executions.specs.Environment.{Environment, entry_in, with_pick}
use Rattle.box_executions.specs.Execution.{Outcome, Done, Aborted, Behaviour, InSequence, UsesChoice, BodyRuns}
use Rattle.box_executions.specs.Execution.{BranchRuns}
use Rattle.box_executions.specs.Laws.{UsesFront, ExecutionUsesFront}

abbrev pub Fronts : Behaviour → Type 0
Fronts runs = (contents : List Entry) (choices left : List ℕ) (outcome : Outcome) →
    runs contents choices outcome left → UsesFront runs contents choices outcome left

in_sequence_front : (block rest : Behaviour) → Fronts block → Fronts rest → Fronts (InSequence block rest)
in_sequence_front block rest block_fronts rest_fronts contents choices left outcome (inl (aborts, ends)) =
    let front = block_fronts contents choices left Aborted aborts in
    record { used = front.used; stood = front.stood; others = λ other. inl (front.others other, ends) }
in_sequence_front block rest block_fronts rest_fronts contents choices left outcome (inr goes) =
    let first = block_fronts contents choices goes.unused (Done goes.mid goes.outputs) goes.first in
    let second = rest_fronts goes.mid goes.unused left goes.last goes.second in
    record {
      used = first.used ++ second.used;
      stood = first.stood ∙ ap (λ (l : List ℕ). first.used ++ l) second.stood
          ∙ sym (append_assoc first.used second.used left);
      others = λ other. inr record {
        mid = goes.mid;
        outputs = goes.outputs;
        unused = second.used ++ other;
        last = goes.last;
        first = subst (λ c. block contents c (Done goes.mid goes.outputs) (second.used ++ other))
            (sym (append_assoc first.used second.used other))
            (first.others (second.used ++ other));
        second = second.others other;
        ends = goes.ends;
      };
    }

by_choice_front : (block : ℕ → Behaviour) (rest : Behaviour) → ((choice : ℕ) → Fronts (block choice)) → Fronts rest →
    Fronts (UsesChoice block rest)
by_choice_front block rest block_fronts rest_fronts contents choices left outcome uses =
    let front =
    in_sequence_front (block uses.choice) rest (block_fronts uses.choice) rest_fronts contents uses.others left
    outcome uses.runs in
    record {
      used = uses.choice ∷ front.used;
      stood = uses.next ∙ ap (λ (l : List ℕ). uses.choice ∷ l) front.stood;
      others = λ other. record
          { choice = uses.choice; others = front.used ++ other; next = refl; runs = front.others other };
    }

nothing_used : (runs : Behaviour) (contents : List Entry) (choices left : List ℕ) (outcome : Outcome) →
    left ≡ choices →
    ((other : List ℕ) → runs contents other outcome other) → UsesFront runs contents choices outcome left
nothing_used runs contents choices left outcome same others = record { used = []; stood = sym same; others = others }

mutual
  pub body_front : (body : Body) (env : Environment) → Fronts (BodyRuns body env)
  body_front Stop env contents choices left outcome runs =
      nothing_used (BodyRuns Stop env) contents choices left outcome runs.1 (λ other. (runs.0, refl))
  body_front (Writes query true rest) env contents choices left outcome runs =
      let front = body_front rest env (with_entry contents (entry_in env query)) choices left outcome runs in
      record { used = front.used; stood = front.stood; others = front.others }
  body_front (Writes query false rest) env contents choices left outcome runs =
      let front = body_front rest env (without_entry contents (entry_in env query)) choices left outcome runs in
      record { used = front.used; stood = front.stood; others = front.others }
  body_front (Emit port changes rest) env contents choices left outcome puts =
      let front = body_front rest env contents choices left puts.last puts.second in
      record {
        used = front.used;
        stood = front.stood;
        others = λ other. record {
          packet = puts.packet;
          changed = puts.changed;
          last = puts.last;
          second = front.others other;
          ends =
              puts.ends;
        };
      }
  body_front (Halt rest) env contents choices left outcome runs =
      nothing_used (BodyRuns (Halt rest) env) contents choices left outcome runs.1 (λ other. (runs.0, refl))
  body_front (Fork branches rest) env contents choices left outcome (inl (none, runs)) =
      let front = body_front rest env contents choices left outcome runs in
      record { used = front.used; stood = front.stood; others = λ other. inl (none, front.others other) }
  body_front (Fork branches rest) env contents choices left outcome (inr uses) =
      let front =
      by_choice_front (BranchRuns branches env) (BodyRuns rest env) (branch_front branches env)
      (body_front rest env)
      contents choices left outcome uses in
      record { used = front.used; stood = front.stood; others = λ other. inr (front.others other) }
  body_front (Each values body rest) env contents choices left outcome uses =
      by_choice_front (λ value s c o l. (value < values) × BodyRuns body (with_pick env value) s c o l)
      (BodyRuns rest env)
      (λ value s c l o x.
      let front = body_front body (with_pick env value) s c l o x.1 in
      record { used = front.used; stood = front.stood; others = λ other. (x.0, front.others other) })
      (body_front rest env) contents choices left outcome uses

  pub branch_front : (branches : Branches) (env : Environment) (number : ℕ) → Fronts (BranchRuns branches env number)
  branch_front NoBranch env number contents choices left outcome runs = absurd runs
  branch_front (OneBranch guard body more) env zero contents choices left outcome runs =
      let front = body_front body env contents choices left outcome runs.1 in
      record { used = front.used; stood = front.stood; others = λ other. (runs.0, front.others other) }
  branch_front (OneBranch guard body more) env (suc number) contents choices left outcome runs =
      let front = branch_front more env number contents choices left outcome runs in
      record { used = front.used; stood = front.stood; others = front.others }

pub execution_front : ExecutionUsesFront
execution_front env acts contents choices left outcome runs =
    body_front (body_of acts) env contents choices left outcome runs
