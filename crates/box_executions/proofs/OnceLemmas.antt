-- The choices settle an execution.
use Rattle.std.proofs.Common.{◌≡◌, ℕ, ◌<◌, zero, suc, true, false, List, [], ◌∷◌, length, slice_index, ◌⊎◌, inl, inr}
use Rattle.std.proofs.Common.{sym, ap, subst, ◌∙◌, zero-add}
use Rattle.std.proofs.lemmas.List.FromFn.{get_or-map-range_with_len}
use Rattle.header_set.specs.Headers.{product, field_of, IsHeaders}
use Rattle.header_set.specs.Laws.{FieldsDeterminePacket}
use Rattle.box_contents.specs.declared.entry.Entry.{Entry}
use Rattle.box_contents.specs.Contents.{with_entry, without_entry}
use Rattle.box_handlers.specs.declared.act.Change.{Change}
use Rattle.box_handlers.specs.Body.{Body, Stop, Writes, Emit, Halt, Fork, Each, Branches, NoBranch, OneBranch, body_of}
use Rattle.box_executions.specs.Environment.{Environment, fields_of, entry_in, with_pick, IsChanged}
use Rattle.box_executions.specs.Execution.{Outcome, Done, Aborted, Emission, Behaviour, after_outputs, GoesOn}
use Rattle.box_executions.specs.Execution.{InSequence, PutsOutFirst, UsesChoice, NoGuardIsTrue, BodyRuns, BranchRuns}
use Rattle.box_executions.specs.Laws.{ExecutionIsDetermined}

-- there is at most one outcome, and one list of choices that are left
abbrev pub Once : Behaviour → Type 0
Once runs = (contents : List Entry) (choices left other : List ℕ) (one two : Outcome) →
    runs contents choices one left → runs contents choices two other → (one ≡ two) × (left ≡ other)

pub field_read : (headers : List ℕ) (packet k : ℕ) → k < length headers →
    slice_index (fields_of headers packet) k ≡ field_of headers packet k
field_read headers packet k less =
    get_or-map-range_with_len (field_of headers packet) 0 (length headers) k k 0 less (zero-add k)

-- two packets with the same fields are one
same_packet : FieldsDeterminePacket → (headers : List ℕ) (one two : ℕ) → IsHeaders headers → one < product headers →
    two < product headers →
    fields_of headers one ≡ fields_of headers two → one ≡ two
same_packet law headers one two are first second e =
    law headers one two are first second
    (λ k less. sym (field_read headers one k less) ∙ ap (λ (fields : List ℕ). slice_index fields k) e
    ∙ field_read headers two k less)

pub changed_once : FieldsDeterminePacket → (env : Environment) (changes : List Change) (one two : ℕ) →
    IsHeaders env.headers →
    IsChanged env changes one → IsChanged env changes two → one ≡ two
changed_once law env changes one two are first second =
    same_packet law env.headers one two are first.in_range second.in_range (first.fields ∙ sym second.fields)

not_both : (contents : List Entry) (outputs : List Emission) → Aborted ≡ Done contents outputs → ⊥
not_both contents outputs e = cc

same_contents : (one two : List Entry) (first second : List Emission) → Done one first ≡ Done two second → one ≡ two
same_contents one two first second e = cc

same_outputs : (one two : List Entry) (first second : List Emission) → Done one first ≡ Done two second →
    first ≡ second
same_outputs one two first second e = cc

same_choice : (one two : ℕ) (others more : List ℕ) → one ∷ others ≡ two ∷ more → one ≡ two
same_choice one two others more e = cc

same_others : (one two : ℕ) (others more : List ℕ) → one ∷ others ≡ two ∷ more → others ≡ more
same_others one two others more e = cc

goes_once : (block rest : Behaviour) → Once block → Once rest →
    (contents : List Entry) (choices left other : List ℕ) (one two : Outcome) →
    GoesOn block rest contents choices one left → GoesOn block rest contents choices two other →
    (one ≡ two) × (left ≡ other)
goes_once block rest block_once rest_once contents choices left other one two a b =
    let first =
    block_once contents choices a.unused b.unused (Done a.mid a.outputs) (Done b.mid b.outputs) a.first b.first in
    let mid : a.mid ≡ b.mid = same_contents a.mid b.mid a.outputs b.outputs first.0 in
    let outputs : a.outputs ≡ b.outputs = same_outputs a.mid b.mid a.outputs b.outputs first.0 in
    let moved : rest b.mid b.unused a.last left =
    subst (λ (s : List Entry). rest s b.unused a.last left) mid
    (subst (λ (c : List ℕ). rest a.mid c a.last left) first.1 a.second) in
    let second = rest_once b.mid b.unused left other a.last b.last moved b.second in (
      a.ends ∙ ap (λ (o : List Emission). after_outputs o a.last) outputs ∙ ap (after_outputs b.outputs) second.0
          ∙ sym b.ends,
      second.1,
    )

in_sequence_once : (block rest : Behaviour) → Once block → Once rest → Once (InSequence block rest)
in_sequence_once block rest block_once rest_once contents choices left other one two (inl (a, ends)) (inl (b, ended)) =
    let same = block_once contents choices left other Aborted Aborted a b in (ends ∙ sym ended, same.1)
in_sequence_once block rest block_once rest_once contents choices left other one two (inl (a, ends)) (inr b) =
    absurd (not_both b.mid b.outputs
    (block_once contents choices left b.unused Aborted (Done b.mid b.outputs) a b.first).0)
in_sequence_once block rest block_once rest_once contents choices left other one two (inr a) (inl (b, ended)) =
    absurd (not_both a.mid a.outputs
    (block_once contents choices other a.unused Aborted (Done a.mid a.outputs) b a.first).0)
in_sequence_once block rest block_once rest_once contents choices left other one two (inr a) (inr b) =
    goes_once block rest block_once rest_once contents choices left other one two a b

by_choice_once : (block : ℕ → Behaviour) (rest : Behaviour) → ((choice : ℕ) → Once (block choice)) → Once rest →
    Once (UsesChoice block rest)
by_choice_once block rest block_once rest_once contents choices left other one two a b =
    let next : a.choice ∷ a.others ≡ b.choice ∷ b.others = sym a.next ∙ b.next in
    let choice : a.choice ≡ b.choice = same_choice a.choice b.choice a.others b.others next in
    let others : a.others ≡ b.others = same_others a.choice b.choice a.others b.others next in
    let moved : InSequence (block b.choice) rest contents b.others one left =
    subst (λ (n : ℕ). InSequence (block n) rest contents b.others one left) choice
    (subst (λ (c : List ℕ). InSequence (block a.choice) rest contents c one left) others a.runs) in
    in_sequence_once (block b.choice) rest (block_once b.choice) rest_once contents b.others left other one two moved
    b.runs

-- a guard is true, or none is
pub not_none : (branches : Branches) (env : Environment) (number : ℕ) (contents : List Entry) (choices : List ℕ)
    (outcome : Outcome) (left : List ℕ) →
    NoGuardIsTrue env contents branches → BranchRuns branches env number contents choices outcome left → ⊥
not_none NoBranch env number contents choices outcome left none runs = runs
not_none (OneBranch guard body more) env zero contents choices outcome left none runs = none.0 runs.0
not_none (OneBranch guard body more) env (suc number) contents choices outcome left none runs =
    not_none more env number contents choices outcome left none.1 runs

pub not_chosen : (branches : Branches) (env : Environment) (rest : Behaviour) (contents : List Entry) (choices : List ℕ)
    (outcome : Outcome) (left : List ℕ) →
    NoGuardIsTrue env contents branches → UsesChoice (BranchRuns branches env) rest contents choices outcome left → ⊥
not_chosen branches env rest contents choices outcome left none uses =
    elim uses.runs [
      | inl aborts ↦ not_none branches env uses.choice contents uses.others Aborted left none aborts.0
      | inr goes ↦ not_none branches env uses.choice contents uses.others (Done goes.mid goes.outputs) goes.unused none
          goes.first
    ]

module _ (law : FieldsDeterminePacket) where
  put_out_once : (env : Environment) (port : ℕ) (changes : List Change) (rest : Behaviour) → IsHeaders env.headers →
      Once rest → Once (PutsOutFirst env port changes rest)
  put_out_once env port changes rest are rest_once contents choices left other one two a b =
      let packet : a.packet ≡ b.packet = changed_once law env changes a.packet b.packet are a.changed b.changed in
      let second = rest_once contents choices left other a.last b.last a.second b.second in (
        a.ends
            ∙ ap (λ (p : ℕ). after_outputs (record { port = port; packet = p } ∷ []) a.last) packet
            ∙ ap (after_outputs (record { port = port; packet = b.packet } ∷ [])) second.0
            ∙ sym b.ends,
        second.1,
      )

  fork_once : (branches : Branches) (env : Environment) (rest : Behaviour) →
      ((number : ℕ) → Once (BranchRuns branches env number)) → Once rest →
      (contents : List Entry) (choices left other : List ℕ) (one two : Outcome) →
      (NoGuardIsTrue env contents branches × rest contents choices one left)
      ⊎ UsesChoice (BranchRuns branches env) rest contents choices one left →
      (NoGuardIsTrue env contents branches × rest contents choices two other)
      ⊎ UsesChoice (BranchRuns branches env) rest contents choices two other →
      (one ≡ two) × (left ≡ other)
  fork_once branches env rest block_once rest_once contents choices left other one two (inl (none, a))
      (inl (also, b)) = rest_once contents choices left other one two a b
  fork_once branches env rest block_once rest_once contents choices left other one two (inl (none, a)) (inr b) =
      absurd (not_chosen branches env rest contents choices two other none b)
  fork_once branches env rest block_once rest_once contents choices left other one two (inr a) (inl (none, b)) =
      absurd (not_chosen branches env rest contents choices one left none a)
  fork_once branches env rest block_once rest_once contents choices left other one two (inr a) (inr b) =
      by_choice_once (BranchRuns branches env) rest block_once rest_once contents choices left other one two a b

  mutual
    pub body_once : (body : Body) (env : Environment) → IsHeaders env.headers → Once (BodyRuns body env)
    body_once Stop env are contents choices left other one two a b = (a.0 ∙ sym b.0, a.1 ∙ sym b.1)
    body_once (Writes query true rest) env are contents choices left other one two a b =
        body_once rest env are (with_entry contents (entry_in env query)) choices left other one two a b
    body_once (Writes query false rest) env are contents choices left other one two a b =
        body_once rest env are (without_entry contents (entry_in env query)) choices left other one two a b
    body_once (Emit port changes rest) env are contents choices left other one two a b =
        put_out_once env port changes (BodyRuns rest env) are (body_once rest env are) contents choices left other one
        two a b
    body_once (Halt rest) env are contents choices left other one two a b = (a.0 ∙ sym b.0, a.1 ∙ sym b.1)
    body_once (Fork branches rest) env are contents choices left other one two a b =
        fork_once branches env (BodyRuns rest env) (branch_once branches env are) (body_once rest env are) contents
        choices left other one two a b
    body_once (Each values body rest) env are contents choices left other one two a b =
        by_choice_once (λ value s c o l. (value < values) × BodyRuns body (with_pick env value) s c o l)
        (BodyRuns rest env)
        (λ value s c l m o p x y. body_once body (with_pick env value) are s c l m o p x.1 y.1)
        (body_once rest env are) contents choices left other one two a b

    pub branch_once : (branches : Branches) (env : Environment) → IsHeaders env.headers → (number : ℕ) →
        Once (BranchRuns branches env number)
    branch_once NoBranch env are number contents choices left other one two a b = absurd a
    branch_once (OneBranch guard body more) env are zero contents choices left other one two a b =
        body_once body env are contents choices left other one two a.1 b.1
    branch_once (OneBranch guard body more) env are (suc number) contents choices left other one two a b =
        branch_once more env are number contents choices left other one two a b

pub execution_once : FieldsDeterminePacket → ExecutionIsDetermined
execution_once law env acts contents choices left other one two are a b =
    body_once law (body_of acts) env are contents choices left other one two a b
