-- A call of the program keeps each promise.
use Rattle.std.proofs.Common.{◌≡◌, ℕ, ◌≤◌, ◌⊎◌, inl, inr, List, [], ◌∷◌, Option, Some, None, Result, Ok, Err, refl, sym}
use Rattle.std.proofs.Common.{ap, subst, ◌∙◌, arith}
use Rattle.std.specs.Io.KnownBytes.{append_known}
use Rattle.std.proofs.lemmas.List.{append-nil}
use Rattle.amdl_tree.specs.declared.tree.Tree.{Tree}
use Rattle.net_plan.specs.declared.fact.Fact.{Fact}
use Rattle.network_file.specs.declared.reading.ReadRefusal.{ReadRefusal}
use Rattle.outside.specs.Faults.{Rose}
use Rattle.outside.specs.Files.{FileMap}
use Rattle.outside.specs.Sink.{AppendsFront}
use Rattle.plan_text.specs.Messages.{usage_text}
use Rattle.plan_text.specs.declared.refusal.NetworkRefusal.{NetworkRefusal}
use Rattle.amdl_app.specs.Reply.{Reply, says, refuses}
use Rattle.amdl_app.specs.Command.{Analyse, Check, Format, Replay, Asks, AskNothing, LoadsFile}
use Rattle.amdl_app.specs.Loaded.{MayCome}
use Rattle.amdl_app.specs.Report.{IsAnalysis, IsAnalysisOf, refused, reported, status_of}
use Rattle.amdl_app.specs.Counts.{IsCheck, counted}
use Rattle.amdl_app.specs.Formatting.{IsFormatting, formatted}
use Rattle.amdl_app.specs.Spelled.{refusal_of}
use Rattle.amdl_app.specs.Answer.{IsReply, IsAnswer, unasked, asked}
use Rattle.amdl_app.specs.Laws.{AnswerIsUnique}
use Rattle.amdl_app.specs.Outcome.{whole, failed, unfinished, IsCall, no_memory, replied}
use Rattle.amdl_app.specs.Promises.{GivesAnswer, AnswersUpToThree, AnswersUnhindered, UsageIsRight, HasRefusal}
use Rattle.amdl_app.specs.Promises.{IsRefusal, of_network}
use Rattle.amdl_app.specs.Promises.{RefusalIsRight, IsFileFault, lacks, fails, FileFaultIsRight, SinkFaultIsRight}
use Rattle.amdl_app.specs.Promises.{IsCut, nothing, part, fault, CutsAreFronts}
use Rattle.amdl_app.specs.Seen.{FilesSeen, Seen, WhereTold}
use Rattle.amdl_app.proofs.ReplyKinds.{Kind, usage, good, refusing, lacking, failing, IsFault, refusal_is_three}
use Rattle.amdl_app.proofs.ReplyKinds.{after_kind, after_tells, loads_first}
use Rattle.amdl_app.proofs.ReplayKinds.{replay_kind, replay_tells}
use Rattle.amdl_app.proofs.SpelledLemmas.{WhatIsFound}

-- what a reply to a text is
data TextKind (reply : Reply) : Type 0 where
  well : reply.status ≤ 1 → TextKind reply
  ill : (refusal : NetworkRefusal) → reply ≡ refuses refusal → TextKind reply

report_status : (bad : List Fact) → status_of bad ≤ 1
report_status [] = omega arith
report_status (fact ∷ facts) = omega arith

analysed_kind : (found : WhatIsFound) (reply : Reply) → IsAnalysisOf found reply → TextKind reply
analysed_kind found reply (refused refusal is e) = ill refusal e
analysed_kind found reply (reported plan is report) =
    let s : reply.status ≡ status_of report.bad =
    ap (λ (r : Reply). r.status) report.told in well (omega (arith, report_status report.bad))

analysis_kind : (text : List ℕ) (reply : Reply) → IsAnalysis text reply → TextKind reply
analysis_kind text reply a = analysed_kind a.found reply a.analysed

counted_kind : (found : WhatIsFound) (reply : Reply) → reply ≡ counted found → TextKind reply
counted_kind (Ok plan) reply e = let s : reply.status ≡ 0 = ap (λ (r : Reply). r.status) e in well (omega arith)
counted_kind (Err refusal) reply e = ill refusal e

check_kind : (text : List ℕ) (reply : Reply) → IsCheck text reply → TextKind reply
check_kind text reply c = counted_kind c.found reply c.told

formatted_kind : (reading : Result Tree ReadRefusal) (reply : Reply) → reply ≡ formatted reading → TextKind reply
formatted_kind (Ok tree) reply e = let s : reply.status ≡ 0 = ap (λ (r : Reply). r.status) e in well (omega arith)
formatted_kind (Err refusal) reply e = ill (refusal_of refusal) e

formatting_kind : (text : List ℕ) (reply : Reply) → IsFormatting text reply → TextKind reply
formatting_kind text reply f = formatted_kind f.reading reply f.told

of_text : (words : List (List ℕ)) (before after : FilesSeen) (reply : Reply) → TextKind reply →
    Kind words before after reply
of_text words before after reply (well small) = good small
of_text words before after reply (ill refusal e) = refusing (of_network refusal e)

module _ (words : List (List ℕ)) (before after : FilesSeen) where
  analyses : (network : List ℕ) → Asks words (Analyse network) → LoadsFile words network
  analyses network asks = loads_first words (Analyse network) network [] asks refl

  checks : (network : List ℕ) → Asks words (Check network) → LoadsFile words network
  checks network asks = loads_first words (Check network) network [] asks refl

  formats : (network : List ℕ) → Asks words (Format network) → LoadsFile words network
  formats network asks = loads_first words (Format network) network [] asks refl

  kind_of : (reply : Reply) → IsReply (MayCome before after) words reply → Kind words before after reply
  kind_of reply (unasked none e) = usage none e
  kind_of reply (asked (Analyse network) asks (loads, each, p)) =
      after_kind words before after network [] (analyses network asks) (λ text others. IsAnalysis text)
      (λ text others told none a. of_text words before after told (analysis_kind text told a)) loads reply each p
  kind_of reply (asked (Check network) asks (loads, each, p)) =
      after_kind words before after network [] (checks network asks) (λ text others. IsCheck text)
      (λ text others told none c. of_text words before after told (check_kind text told c)) loads reply each p
  kind_of reply (asked (Format network) asks (loads, each, p)) =
      after_kind words before after network [] (formats network asks) (λ text others. IsFormatting text)
      (λ text others told none f. of_text words before after told (formatting_kind text told f)) loads reply each p
  kind_of reply (asked (Replay mode network schedule) asks (loads, each, p)) =
      replay_kind words before after mode network schedule asks loads reply each p

  -- what the work comes to is the answer, or the text of a fault
  pub reply_answers : (files : FileMap) (reply : Reply) → before.told ≡ Some files →
      IsReply (MayCome before after) words reply → IsAnswer words files reply ⊎ IsFault words before after reply
  reply_answers files reply is (unasked none e) = inl (unasked none e)
  reply_answers files reply is (asked (Analyse network) asks (loads, each, p)) =
      elim (after_tells words before after network [] (analyses network asks)
      (λ text others. IsAnalysis text) files is (λ text others told none a. inl ([], tt, a)) loads reply each p) [
        | inl told ↦ inl (asked (Analyse network) asks told)
        | inr failure ↦ inr failure
      ]
  reply_answers files reply is (asked (Check network) asks (loads, each, p)) =
      elim (after_tells words before after network [] (checks network asks)
      (λ text others. IsCheck text) files is (λ text others told none c. inl ([], tt, c)) loads reply each p) [
        | inl told ↦ inl (asked (Check network) asks told)
        | inr failure ↦ inr failure
      ]
  reply_answers files reply is (asked (Format network) asks (loads, each, p)) =
      elim (after_tells words before after network [] (formats network asks)
      (λ text others. IsFormatting text) files is (λ text others told none f. inl ([], tt, f)) loads reply each p) [
        | inl told ↦ inl (asked (Format network) asks told)
        | inr failure ↦ inr failure
      ]
  reply_answers files reply is (asked (Replay mode network schedule) asks (loads, each, p)) =
      elim (replay_tells words before after mode network schedule asks files is loads reply each p) [
        | inl told ↦ inl (asked (Replay mode network schedule) asks told)
        | inr failure ↦ inr failure
      ]

  -- the status of each kind
  kind_status : (reply : Reply) → Kind words before after reply → reply.status ≤ 4
  kind_status reply (usage none e) = let s : reply.status ≡ 2 = ap (λ (r : Reply). r.status) e in omega arith
  kind_status reply (good small) = omega arith
  kind_status reply (refusing refusal) = let s : reply.status ≡ 3 = refusal_is_three words reply refusal in omega arith
  kind_status reply (lacking name there lack e) =
      let s : reply.status ≡ 4 = ap (λ (r : Reply). r.status) e in omega arith
  kind_status reply (failing name there rose e) =
      let s : reply.status ≡ 4 = ap (λ (r : Reply). r.status) e in omega arith

  pub reply_status : (reply : Reply) → IsReply (MayCome before after) words reply → reply.status ≤ 4
  reply_status reply p = kind_status reply (kind_of reply p)

  two_is_usage : (reply : Reply) → Kind words before after reply → reply.status ≡ 2 →
      AskNothing words × (reply ≡ says 2 usage_text)
  two_is_usage reply (usage none e) two = (none, e)
  two_is_usage reply (good small) two = absurd (omega arith)
  two_is_usage reply (refusing refusal) two =
      let s : reply.status ≡ 3 = refusal_is_three words reply refusal in absurd (omega arith)
  two_is_usage reply (lacking name there lack e) two =
      let s : reply.status ≡ 4 = ap (λ (r : Reply). r.status) e in absurd (omega arith)
  two_is_usage reply (failing name there rose e) two =
      let s : reply.status ≡ 4 = ap (λ (r : Reply). r.status) e in absurd (omega arith)

  three_is_refusal : (reply : Reply) → Kind words before after reply → reply.status ≡ 3 → IsRefusal words reply
  three_is_refusal reply (usage none e) three =
      let s : reply.status ≡ 2 = ap (λ (r : Reply). r.status) e in absurd (omega arith)
  three_is_refusal reply (good small) three = absurd (omega arith)
  three_is_refusal reply (refusing refusal) three = refusal
  three_is_refusal reply (lacking name there lack e) three =
      let s : reply.status ≡ 4 = ap (λ (r : Reply). r.status) e in absurd (omega arith)
  three_is_refusal reply (failing name there rose e) three =
      let s : reply.status ≡ 4 = ap (λ (r : Reply). r.status) e in absurd (omega arith)

  not_asked : (reply : Reply) → AskNothing words → IsReply (MayCome before after) words reply →
      reply ≡ says 2 usage_text
  not_asked reply none (unasked none' e) = e
  not_asked reply none (asked command asks p) = absurd (none command asks)

module _ (words : List (List ℕ)) (before after : Seen) (status : ℕ) where
  abbrev Called : Type 0
  Called = IsCall words before after status

  abbrev Replies : Reply → Type 0
  Replies reply = IsReply (MayCome before.files after.files) words reply

  abbrev Fronts : List ℕ → Type 0
  Fronts text = AppendsFront before.sink.written after.sink.written text

  most : (reply : Reply) → Replies reply → reply.status ≤ 4
  most = reply_status words before.files after.files

  pub status_in_range : Called → status ≤ 6
  status_in_range (no_memory s e f) = omega arith
  status_in_range (replied reply p f (whole s e)) = omega (arith, most reply p)
  status_in_range (replied reply p f (failed s rose front)) = omega arith
  status_in_range (replied reply p f (unfinished s front)) = omega arith

  -- a whole reply with another status than that of a fault is the answer's
  given : (files : FileMap) (reply : Reply) → before.files.told ≡ Some files → Replies reply →
      (IsFault words before.files after.files reply → ⊥) → status ≡ reply.status →
      after.sink.written ≡ append_known before.sink.written reply.text →
      GivesAnswer words files before after status
  given files reply is p no_fault s e =
      record {
        reply = reply;
        answer = elim
            (reply_answers words before.files after.files files reply is p) [
              | inl answer ↦ answer
              | inr failure ↦ absurd
                  (no_fault failure)
            ];
        status_is = s;
        text_is = e;
      }

  fault_is_four : (reply : Reply) → IsFault words before.files after.files reply → reply.status ≡ 4
  fault_is_four reply failure = ap (λ (r : Reply). r.status) failure.told

  pub answers_up_to_three : Called → AnswersUpToThree words before after status
  answers_up_to_three (no_memory s e f) small files is = absurd (omega arith)
  answers_up_to_three (replied reply p f (whole s e)) small files is =
      given files reply is p
      (λ failure. let four : reply.status ≡ 4 = fault_is_four reply failure in absurd (omega arith)) s e
  answers_up_to_three (replied reply p f (failed s rose front)) small files is = absurd (omega arith)
  answers_up_to_three (replied reply p f (unfinished s front)) small files is = absurd (omega arith)

  pub answers_unhindered : Called → AnswersUnhindered words before after status
  answers_unhindered (no_memory s e f) quiet_files quiet_sink enough files is = absurd (enough s)
  answers_unhindered (replied reply p f (whole s e)) quiet_files quiet_sink enough files is =
      given files reply is p (λ failure. quiet_files failure.rose) s e
  answers_unhindered (replied reply p f (failed s rose front)) quiet_files quiet_sink enough files is =
      absurd (quiet_sink rose)
  answers_unhindered (replied reply p f (unfinished s front)) quiet_files quiet_sink enough files is = absurd (enough s)

  pub sink_fault_is_right : Called → SinkFaultIsRight before after status
  sink_fault_is_right (no_memory s e f) five = absurd (omega arith)
  sink_fault_is_right (replied reply p f (whole s e)) five = absurd (omega (arith, most reply p))
  sink_fault_is_right (replied reply p f (failed s rose front)) five = rose
  sink_fault_is_right (replied reply p f (unfinished s front)) five = absurd (omega arith)

  -- the usage
  usage_reply : (reply : Reply) → Replies reply → reply.status ≡ 2 → AskNothing words × (reply ≡ says 2 usage_text)
  usage_reply reply p two =
      two_is_usage words before.files after.files reply (kind_of words before.files after.files reply p) two

  usage_only : Called → status ≡ 2 → AskNothing words
  usage_only (no_memory s e f) two = absurd (omega arith)
  usage_only (replied reply p f (whole s e)) two = (usage_reply reply p (sym s ∙ two)).0
  usage_only (replied reply p f (failed s rose front)) two = absurd (omega arith)
  usage_only (replied reply p f (unfinished s front)) two = absurd (omega arith)

  usage_whole : Called → status ≡ 2 → after.sink.written ≡ append_known before.sink.written usage_text
  usage_whole (no_memory s e f) two = absurd (omega arith)
  usage_whole (replied reply p f (whole s e)) two =
      e ∙ ap (λ (r : Reply). append_known before.sink.written r.text) (usage_reply reply p (sym s ∙ two)).1
  usage_whole (replied reply p f (failed s rose front)) two = absurd (omega arith)
  usage_whole (replied reply p f (unfinished s front)) two = absurd (omega arith)

  -- a whole text is a front of itself, and nothing is a front of any text
  all_of : (text : List ℕ) → after.sink.written ≡ append_known before.sink.written text → Fronts text
  all_of text e = (text, ([], sym (append-nil text)), e)

  appended_nothing : (known : Option (List ℕ)) → known ≡ append_known known []
  appended_nothing None = refl
  appended_nothing (Some bytes) = ap Some (sym (append-nil bytes))

  none_of : (text : List ℕ) → after.sink.written ≡ before.sink.written → Fronts text
  none_of text e = ([], (text, refl), e ∙ appended_nothing before.sink.written)

  unasked_reply : (reply : Reply) → AskNothing words → Replies reply → reply ≡ says 2 usage_text
  unasked_reply = not_asked words before.files after.files

  usage_cut : Called → AskNothing words → Fronts usage_text
  usage_cut (no_memory s e f) none = none_of usage_text e
  usage_cut (replied reply p f (whole s e)) none =
      all_of usage_text (e ∙ ap (λ (r : Reply). append_known before.sink.written r.text) (unasked_reply reply none p))
  usage_cut (replied reply p f (failed s rose front)) none =
      subst (λ (r : Reply). Fronts r.text) (unasked_reply reply none p) front
  usage_cut (replied reply p f (unfinished s front)) none =
      subst (λ (r : Reply). Fronts r.text) (unasked_reply reply none p) front

  usage_statuses : Called → AskNothing words → (status ≡ 2) ⊎ ((status ≡ 5) ⊎ (status ≡ 6))
  usage_statuses (no_memory s e f) none = inr (inr s)
  usage_statuses (replied reply p f (whole s e)) none =
      inl (s ∙ ap (λ (r : Reply). r.status) (unasked_reply reply none p))
  usage_statuses (replied reply p f (failed s rose front)) none = inr (inl s)
  usage_statuses (replied reply p f (unfinished s front)) none = inr (inr s)

  pub usage_is_right : Called → UsageIsRight words before after status
  usage_is_right called =
      record
      { only = usage_only called; text = usage_whole called; cut = usage_cut called; statuses = usage_statuses called }

  -- refusals
  refused_reply : (files : FileMap) (reply : Reply) → before.files.told ≡ Some files → Replies reply →
      reply.status ≡ 3 → HasRefusal words files
  refused_reply files reply is p three = (
    reply,
    three_is_refusal words before.files after.files reply (kind_of words before.files after.files reply p) three,
    elim (reply_answers words before.files after.files files reply is p) [
      | inl answer ↦ answer
      | inr failure ↦ let four : reply.status ≡ 4 = fault_is_four reply failure in absurd (omega arith)
    ],
  )

  refusal_only : Called → status ≡ 3 → WhereTold before.files (HasRefusal words)
  refusal_only (no_memory s e f) three files is = absurd (omega arith)
  refusal_only (replied reply p f (whole s e)) three files is = refused_reply files reply is p (sym s ∙ three)
  refusal_only (replied reply p f (failed s rose front)) three files is = absurd (omega arith)
  refusal_only (replied reply p f (unfinished s front)) three files is = absurd (omega arith)

  module _ (one_answer : AnswerIsUnique) where
    refusing_status : (files : FileMap) (reply : Reply) → before.files.told ≡ Some files → HasRefusal words files →
        Replies reply → 3 ≤ reply.status
    refusing_status files reply is (denied, refusal, answer) p =
        elim (reply_answers words before.files after.files files reply is p) [
          | inl other ↦ let s : reply.status ≡ 3 =
              ap (λ (r : Reply). r.status) (one_answer words files reply denied other answer)
              ∙ refusal_is_three words denied refusal in omega arith
          | inr failure ↦ let four : reply.status ≡ 4 = fault_is_four reply failure in omega arith
        ]

    refused_status : (files : FileMap) → before.files.told ≡ Some files → HasRefusal words files → Called → 3 ≤ status
    refused_status files is denied (no_memory s e f) = omega arith
    refused_status files is denied (replied reply p f (whole s e)) =
        omega (arith, refusing_status files reply is denied p)
    refused_status files is denied (replied reply p f (failed s rose front)) = omega arith
    refused_status files is denied (replied reply p f (unfinished s front)) = omega arith

    pub refusal_is_right : Called → RefusalIsRight words before status
    refusal_is_right called = record {
      only = refusal_only called;
      statuses = λ files is denied. (refused_status files is denied called, status_in_range called);
    }

  -- faults of the files
  four_is_fault : (reply : Reply) → after.sink.written ≡ append_known before.sink.written reply.text →
      Kind words before.files after.files reply → reply.status ≡ 4 → IsFileFault words before after
  four_is_fault reply e (usage none e') four =
      let s : reply.status ≡ 2 = ap (λ (r : Reply). r.status) e' in absurd (omega arith)
  four_is_fault reply e (good small) four = absurd (omega arith)
  four_is_fault reply e (refusing refusal) four =
      let s : reply.status ≡ 3 = refusal_is_three words reply refusal in absurd (omega arith)
  four_is_fault reply e (lacking name there lack e') four =
      lacks name there lack (e ∙ ap (λ (r : Reply). append_known before.sink.written r.text) e')
  four_is_fault reply e (failing name there rose e') four =
      fails name there rose (e ∙ ap (λ (r : Reply). append_known before.sink.written r.text) e')

  fault_text : Called → status ≡ 4 → IsFileFault words before after
  fault_text (no_memory s e f) four = absurd (omega arith)
  fault_text (replied reply p f (whole s e)) four =
      four_is_fault reply e (kind_of words before.files after.files reply p) (sym s ∙ four)
  fault_text (replied reply p f (failed s rose front)) four = absurd (omega arith)
  fault_text (replied reply p f (unfinished s front)) four = absurd (omega arith)

  fault_answer : Called → status ≡ 4 → (Rose before.files.faults after.files.faults → ⊥) →
      WhereTold before.files (λ files. GivesAnswer words files before after status)
  fault_answer (no_memory s e f) four quiet files is = absurd (omega arith)
  fault_answer (replied reply p f (whole s e)) four quiet files is =
      given files reply is p (λ failure. quiet failure.rose) s e
  fault_answer (replied reply p f (failed s rose front)) four quiet files is = absurd (omega arith)
  fault_answer (replied reply p f (unfinished s front)) four quiet files is = absurd (omega arith)

  pub file_fault_is_right : Called → FileFaultIsRight words before after status
  file_fault_is_right called = record { text = fault_text called; answer = fault_answer called }

  -- replies that were cut short
  cut_of : (files : FileMap) (reply : Reply) → before.files.told ≡ Some files → Replies reply → Fronts reply.text →
      IsCut words files before after
  cut_of files reply is p front =
      elim (reply_answers words before.files after.files files reply is p) [
        | inl answer ↦ part reply answer front
        | inr failure ↦ fault failure.rose failure.name failure.loads
            (subst (λ (r : Reply). Fronts r.text) failure.told front)
      ]

  pub cuts_are_fronts : Called → CutsAreFronts words before after status
  cuts_are_fronts (no_memory s e f) large files is = nothing e
  cuts_are_fronts (replied reply p f (whole s e)) large files is = absurd (omega (arith, most reply p))
  cuts_are_fronts (replied reply p f (failed s rose front)) large files is = cut_of files reply is p front
  cuts_are_fronts (replied reply p f (unfinished s front)) large files is = cut_of files reply is p front
