-- A call of the program keeps what is promised of a replay.
use Rattle.std.proofs.Common.{◌≡◌, ℕ, ◌≤◌, List, [], ◌∷◌, length, Some, Ok, refl, sym, ap, subst, ◌∙◌, arith}
use Rattle.std.specs.Io.KnownBytes.{append_known}
use Rattle.net_plan.specs.declared.plan.Plan.{Plan}
use Rattle.net_runs.specs.declared.world.Mode.{Mode}
use Rattle.outside.specs.Files.{FileMap, file_of}
use Rattle.schedule.specs.Texts.{bad_of}
use Rattle.schedule_file.specs.Laws.{StatusIsRight}
use Rattle.schedule_file.specs.Replaying.{IsToldOf, ran, stopped, status_of}
use Rattle.schedule_file.specs.Replaying as telling
use Rattle.schedule_file.specs.declared.refusal.FileRefusal.TheVariants.{TooLong}
use Rattle.amdl_app.specs.Reply.{Reply, says, refuses, refuses_schedule}
use Rattle.amdl_app.specs.Command.{Command, Replay, Asks, text_limit, network_input, schedule_input}
use Rattle.amdl_app.specs.Loaded.{Loaded, Found, Over, Lacking, Failed, Tells, EachComes}
use Rattle.amdl_app.specs.Answer.{AfterNetwork, IsCommandReply, IsAnswer, unasked, asked}
use Rattle.amdl_app.specs.Laws.{AnswerIsUnique}
use Rattle.amdl_app.specs.Outcome.{IsCall}
use Rattle.amdl_app.specs.Promises.{GivesAnswer}
use Rattle.amdl_app.specs.ReplayPromises.{IsReplayedText, ReplayOnly, IsReplayOfText, ReplayIf}
use Rattle.amdl_app.specs.Replaying.{AfterSchedule, IsReplayed, IsReplay, refused, read}
use Rattle.amdl_app.specs.Seen.{Seen}
use Rattle.amdl_app.specs.Spelled.{ComesTo}
use Rattle.amdl_app.proofs.AnswerLemmas.{command_is_asked}
use Rattle.amdl_app.proofs.ReplyKinds.{some_told}
use Rattle.amdl_app.proofs.PromiseLemmas.{answers_up_to_three}
use Rattle.amdl_app.proofs.SpelledLemmas.{spells}

asked_reply : (words : List (List ℕ)) (files : FileMap) (command : Command) (reply : Reply) → Asks words command →
    IsAnswer words files reply → IsCommandReply (Tells files) command reply
asked_reply words files command reply asks (unasked none e) = absurd (none command asks)
asked_reply words files command reply asks (asked other asks' p) =
    subst (λ (c : Command). IsCommandReply (Tells files) c reply) (command_is_asked words other command asks' asks) p

module _ (words : List (List ℕ)) (before after : Seen) (status : ℕ) (status_is_right : StatusIsRight) (mode : Mode)
    (network schedule : List ℕ) (files : FileMap) where
  -- the two texts are told, and the steps of the one are a run of the network of the other
  abbrev IsFound : Type 0
  IsFound =
      (text : List ℕ) × (told : List ℕ) × (file_of files network ≡ Some text) × (file_of files schedule ≡ Some told)
      × IsReplayedText mode before after status text told

  -- so it is where the status and the bytes of a reply are those of the call
  module _ (reply : Reply) (s : status ≡ reply.status)
      (e : after.sink.written ≡ append_known before.sink.written reply.text) (small : status ≤ 1) where
    not_three : reply.status ≡ 3 → ⊥
    not_three three = omega (arith, s, small)

    not_four : reply.status ≡ 4 → ⊥
    not_four four = omega (arith, s, small)

    told_run : (text told : List ℕ) (plan : Plan) (code : ℕ) (lines : List ℕ) → ComesTo text (Ok plan) →
        reply ≡ says code lines → IsToldOf plan mode told code lines → IsReplayedText mode before after status text told
    told_run text told plan code lines comes same (telling.refused refusal is c t) =
        absurd (not_three (ap (λ (r : Reply). r.status) same ∙ c))
    told_run text told plan code lines comes same (telling.replayed steps is (stopped k why events at c t)) =
        absurd (not_three (ap (λ (r : Reply). r.status) same ∙ c))
    told_run text told plan code lines comes same (telling.replayed steps is (ran events last run c t)) =
        let spelled = spells text plan (Ok plan) refl comes in
        let right = status_is_right plan events in
        let known : status ≡ status_of (bad_of plan events) = s ∙ ap (λ (r : Reply). r.status) same ∙ c in record {
          tree = spelled.tree;
          plan = plan;
          file = spelled.file;
          network = spelled.network;
          steps = steps;
          schedule = is;
          events = events;
          last = last;
          run = run;
          lines = e ∙ ap (λ (r : Reply). append_known before.sink.written r.text) same
              ∙ ap (append_known before.sink.written) t;
          good = λ zero'. right.good (sym known ∙ zero');
          bad = λ one. right.bad (λ none. omega (arith, known, one, none));
        }

    behind : (text : List ℕ) (plan : Plan) (others : List Loaded) → file_of files network ≡ Some text →
        ComesTo text (Ok plan) → EachComes (Tells files) (schedule_input schedule ∷ []) others →
        AfterSchedule schedule (IsReplayed plan mode) others reply → IsFound
    behind text plan [] there comes each p = absurd p
    behind text plan (Found told ∷ others) there comes each (code, lines, is, same) =
        (text, told, there, each.0.1, told_run text told plan code lines comes same is)
    behind text plan (Over ∷ others) there comes each p = absurd (not_three (ap (λ (r : Reply). r.status) p))
    behind text plan (Lacking ∷ others) there comes each p = absurd (not_four (ap (λ (r : Reply). r.status) p))
    behind text plan (Failed ∷ others) there comes each p = absurd (not_four (ap (λ (r : Reply). r.status) p))

    found_in : (loads : List Loaded) →
        EachComes (Tells files) (network_input network ∷ schedule_input schedule ∷ []) loads →
        AfterNetwork network (λ text others. IsReplay mode schedule text others) loads reply → IsFound
    found_in [] each p = absurd p
    found_in (Found text ∷ others) each (refused refusal comes same) =
        absurd (not_three (ap (λ (r : Reply). r.status) same))
    found_in (Found text ∷ others) each (read plan comes p) = behind text plan others each.0.1 comes each.1 p
    found_in (Over ∷ others) each p = absurd (not_three (ap (λ (r : Reply). r.status) p))
    found_in (Lacking ∷ others) each p = absurd (not_four (ap (λ (r : Reply). r.status) p))
    found_in (Failed ∷ others) each p = absurd (not_four (ap (λ (r : Reply). r.status) p))

  found_by : Asks words (Replay mode network schedule) → GivesAnswer words files before after status → status ≤ 1 →
      IsFound
  found_by asks gives small =
      let c = asked_reply words files (Replay mode network schedule) gives.reply asks gives.answer in
      found_in gives.reply gives.status_is gives.text_is small c.0 c.1 c.2

  -- a reply to what is told is that of the call
  module _ (one_answer : AnswerIsUnique) (asks : Asks words (Replay mode network schedule))
      (gives : GivesAnswer words files before after status) (text : List ℕ) (there : file_of files network ≡ Some text)
      (within : length text ≤ text_limit) where
    carried : (others : List Loaded) (reply : Reply) →
        EachComes (Tells files) (schedule_input schedule ∷ []) others → IsReplay mode schedule text others reply →
        (status ≡ reply.status) × (after.sink.written ≡ append_known before.sink.written reply.text)
    carried others reply each p =
        let answer : IsAnswer words files reply =
        asked (Replay mode network schedule) asks (Found text ∷ others, ((within, there), each), p) in
        let same : gives.reply ≡ reply = one_answer words files gives.reply reply gives.answer answer in (
          gives.status_is ∙ ap (λ (r : Reply). r.status) same,
          gives.text_is ∙ ap (λ (r : Reply). append_known before.sink.written r.text) same,
        )

    replay_of_text : IsReplayOfText mode schedule files before after status text
    replay_of_text = record {
      refused = λ refusal comes.
          let some = some_told files (schedule_input schedule ∷ []) in
          carried some.0 (refuses refusal) some.1 (refused refusal comes refl);
      too_long = λ plan comes over. carried (Over ∷ []) (refuses_schedule TooLong) (over, tt) (read plan comes refl);
      replayed = λ plan comes told at short answer lines is.
          carried (Found told ∷ []) (says answer lines) ((short, at), tt)
          (read plan comes (answer, lines, is, refl));
    }

module _ (words : List (List ℕ)) (before after : Seen) (status : ℕ) where
  pub replay_only : StatusIsRight → IsCall words before after status → ReplayOnly words before after status
  replay_only right called mode network schedule asks small files is =
      found_by words before after status right mode network schedule files asks
      (answers_up_to_three words before after status called (omega (arith, small)) files is) small

  pub replay_if : StatusIsRight → AnswerIsUnique → IsCall words before after status →
      ReplayIf words before after status
  replay_if right one_answer called mode network schedule asks files is text there within small =
      replay_of_text words before after status right mode network schedule files one_answer asks
      (answers_up_to_three words before after status called small files is) text there within
