-- SAFE is said only where no derivation ends in a bad fact.
use Rattle.std.proofs.Common.{◌≡◌, ◌≢◌, ℕ, ◌<◌, ◌≤◌, ◌⊎◌, Ok, Err, inl, inr, List, [], ◌∷◌}
use Rattle.std.proofs.Common.{◌++◌, Option, Some, None, refl, sym, ap, subst, ◌∙◌, arith, length}
use Rattle.std.specs.List.{Contains}
use Rattle.std.specs.Io.KnownBytes.{append_known}
use Rattle.std.proofs.lemmas.List.{append-nil, append_cancel_left}
use Rattle.std.proofs.lemmas.List.Elements.{Contains-append_left, Contains-push}
use Rattle.net_plan.specs.declared.plan.Plan.{Plan}
use Rattle.net_plan.specs.declared.fact.Fact.{Fact}
use Rattle.packet_state.specs.Laws.{SafeNetworkRunsSafely}
use Rattle.tree_rules.specs.Laws.{HasOneAnswer}
use Rattle.network_file.specs.Laws.{OneReading}
use Rattle.outside.specs.Faults.{Rose}
use Rattle.outside.specs.Files.{FileMap, file_of, LacksFile, IsLonger}
use Rattle.outside.specs.Sink.{AppendsFront}
use Rattle.plan_text.specs.Messages.{usage_text, refused_network, missing_text, fault_load_text}
use Rattle.plan_text.specs.Prints.{PrintsSafe}
use Rattle.plan_text.specs.Laws.{SafeIsTold, MessagesAreNotSafe}
use Rattle.plan_text.specs.declared.refusal.NetworkRefusal.{NetworkRefusal}
use Rattle.plan_text.specs.declared.refusal.NetworkRefusal.TheVariants.{TooLong}
use Rattle.amdl_app.specs.Reply.{Reply, says, refuses}
use Rattle.amdl_app.specs.Command.{Command, Analyse, Check, Asks, network_input, text_limit}
use Rattle.amdl_app.specs.Counts.{IsCheck, counted}
use Rattle.amdl_app.specs.Loaded.{Loaded, Found, Over, Lacking, Failed, EachComes, MayCome}
use Rattle.amdl_app.specs.Report.{IsReport, IsAnalysis, IsAnalysisOf, refused, reported, status_of, HasNoBad}
use Rattle.amdl_app.specs.Report.{HasBad}
use Rattle.amdl_app.specs.Answer.{AfterNetwork, IsCommandReply, IsReply, unasked, asked}
use Rattle.amdl_app.specs.Outcome.{whole, failed, unfinished, IsCall, no_memory, replied}
use Rattle.amdl_app.specs.Promises.{CallSaysSafe, IsSafeText, SafeOnly, StatusIsRight, SafeIf, IsCountedText}
use Rattle.amdl_app.specs.Promises.{AnalysisIsRight, CountsOnly, CountsIf}
use Rattle.amdl_app.specs.Seen.{FilesSeen, Seen, WhereTold}
use Rattle.amdl_app.specs.Spelled.{ComesTo}
use Rattle.amdl_app.proofs.AnswerLemmas.{command_is_asked}
use Rattle.amdl_app.proofs.SpelledLemmas.{WhatIsFound, Spells, spells, found_plan, not_refused, comes_once}
use Rattle.amdl_app.proofs.SpelledLemmas.{comes_to_plan}

none_there : {X : Type 0} (x : X) → Contains [] x → ⊥
none_there x there = let less : there.0 < 0 = there.1 in absurd (omega arith)

report_is_safe : (plan : Plan) (reply : Reply) (report : IsReport plan reply) → report.bad ≡ [] → HasNoBad plan
report_is_safe plan reply report none fact derivable bad =
    none_there fact (subst (λ (l : List Fact). Contains l fact) none
    ((report.bad_ones.member fact).1 ((report.least.member fact).1 derivable, bad)))

alarm_is_bad : (plan : Plan) (reply : Reply) (report : IsReport plan reply) (fact : Fact) (others : List Fact) →
    report.bad ≡ fact ∷ others → HasBad plan
alarm_is_bad plan reply report fact others some =
    let there : Contains report.bad fact =
    subst (λ (l : List Fact). Contains l fact) (sym some)
    (Contains-append_left (fact ∷ []) others fact (Contains-push [] fact)) in
    let among = (report.bad_ones.member fact).0 there in
    (fact, (report.least.member fact).0 among.0, among.1)

no_status : (bad : List Fact) → status_of bad ≡ 0 → bad ≡ []
no_status [] zero' = refl
no_status (fact ∷ facts) zero' = absurd (omega arith)

some_status : (bad : List Fact) → status_of bad ≡ 1 → (fact : Fact) × (others : List Fact) × (bad ≡ fact ∷ others)
some_status [] one = absurd (omega arith)
some_status (fact ∷ facts) one = (fact, facts, refl)

-- the reply to a verb that reads a network, by what loading its file came to
data Loading (before after : FilesSeen) (network : List ℕ) (goes_on : List ℕ → Reply → Type 0) (reply : Reply)
    : Type 0 where
  came : (text : List ℕ) → WhereTold before (λ files. file_of files network ≡ Some text) → goes_on text reply →
      Loading before after network goes_on reply
  longer : WhereTold before (λ files. IsLonger (file_of files network) text_limit) → reply ≡ refuses TooLong →
      Loading before after network goes_on reply
  lacking : LacksFile before.told network before.faults after.faults → reply ≡ says 4 (missing_text network) →
      Loading before after network goes_on reply
  failing : Rose before.faults after.faults → reply ≡ says 4 (fault_load_text network) →
      Loading before after network goes_on reply

loading_by : (before after : FilesSeen) (network : List ℕ) (goes_on : List ℕ → Reply → Type 0) (reply : Reply)
    (loads : List Loaded) → EachComes (MayCome before after) (network_input network ∷ []) loads →
    AfterNetwork network (λ text others. goes_on text) loads reply → Loading before after network goes_on reply
loading_by before after network goes_on reply [] each p = absurd each
loading_by before after network goes_on reply (loaded ∷ other ∷ others) each p = absurd each.1
loading_by before after network goes_on reply (Found text ∷ []) each p = came text each.0.1 p
loading_by before after network goes_on reply (Over ∷ []) each p = longer each.0 p
loading_by before after network goes_on reply (Lacking ∷ []) each p = lacking each.0 p
loading_by before after network goes_on reply (Failed ∷ []) each p = failing each.0 p

command_reply : (words : List (List ℕ)) (before after : FilesSeen) (command : Command) (reply : Reply) →
    Asks words command → IsReply (MayCome before after) words reply →
    IsCommandReply (MayCome before after) command reply
command_reply words before after command reply asks (unasked none e) = absurd (none command asks)
command_reply words before after command reply asks (asked other asks' p) =
    subst (λ (c : Command). IsCommandReply (MayCome before after) c reply)
    (command_is_asked words other command asks' asks) p

analysing : (words : List (List ℕ)) (before after : FilesSeen) (network : List ℕ) (reply : Reply) →
    Asks words (Analyse network) → IsReply (MayCome before after) words reply →
    Loading before after network IsAnalysis reply
analysing words before after network reply asks p =
    let c = command_reply words before after (Analyse network) reply asks p in
    loading_by before after network IsAnalysis reply c.0 c.1 c.2

checking : (words : List (List ℕ)) (before after : FilesSeen) (network : List ℕ) (reply : Reply) →
    Asks words (Check network) → IsReply (MayCome before after) words reply →
    Loading before after network IsCheck reply
checking words before after network reply asks p =
    let c = command_reply words before after (Check network) reply asks p in
    loading_by before after network IsCheck reply c.0 c.1 c.2

-- the file is told, and its network is safe
record IsFoundSafe (before : FilesSeen) (network : List ℕ) : Type 0 where
  text : List ℕ
  there : WhereTold before (λ files. file_of files network ≡ Some text)
  safe : IsSafeText text

module _ (runs : SafeNetworkRunsSafely) where
  safe_text : (text : List ℕ) (plan : Plan) (reply : Reply) → Spells text plan →
      (report : IsReport plan reply) → report.bad ≡ [] → IsSafeText text
  safe_text text plan reply spelled report none =
      let no_bad : HasNoBad plan = report_is_safe plan reply report none in record {
        tree = spelled.tree;
        plan = plan;
        file = spelled.file;
        network = spelled.network;
        no_bad_fact = no_bad;
        no_bad_run = runs plan report.facts spelled.network.sound report.least
            (λ fact there bad. no_bad fact ((report.least.member fact).0 there) bad);
      }

  zero_analysed : (text : List ℕ) (found : WhatIsFound) (reply : Reply) → ComesTo text found →
      IsAnalysisOf found reply → reply.status ≡ 0 → IsSafeText text
  zero_analysed text found reply comes (refused refusal is e) zero' =
      let s : reply.status ≡ 3 = ap (λ (r : Reply). r.status) e in absurd (omega arith)
  zero_analysed text found reply comes (reported plan is report) zero' =
      safe_text text plan reply (spells text plan found is comes) report
      (no_status report.bad (sym (ap (λ (r : Reply). r.status) report.told) ∙ zero'))

  module _ (safe_is_told : SafeIsTold) (messages : MessagesAreNotSafe) where
    front_analysed : (text : List ℕ) (found : WhatIsFound) (reply : Reply) → ComesTo text found →
        IsAnalysisOf found reply → (front rest : List ℕ) → reply.text ≡ front ++ rest → PrintsSafe front →
        IsSafeText text
    front_analysed text found reply comes (refused refusal is e) front rest cut prints =
        absurd (messages.refused refusal front rest (sym (ap (λ (r : Reply). r.text) e) ∙ cut) prints)
    front_analysed text found reply comes (reported plan is report) front rest cut prints =
        let spelled = spells text plan found is comes in
        safe_text text plan reply spelled report
        (safe_is_told plan report.facts report.bad front rest spelled.network.sound.names.named
        (sym (ap (λ (r : Reply). r.text) report.told) ∙ cut) prints)

  module _ (before after : FilesSeen) (network : List ℕ) where
    zero_reply : (reply : Reply) → Loading before after network IsAnalysis reply → reply.status ≡ 0 →
        IsFoundSafe before network
    zero_reply reply (came text there a) zero' =
        record { text = text; there = there; safe = zero_analysed text a.found reply a.comes a.analysed zero' }
    zero_reply reply (longer over e) zero' =
        let s : reply.status ≡ 3 = ap (λ (r : Reply). r.status) e in absurd (omega arith)
    zero_reply reply (lacking lack e) zero' =
        let s : reply.status ≡ 4 = ap (λ (r : Reply). r.status) e in absurd (omega arith)
    zero_reply reply (failing rose e) zero' =
        let s : reply.status ≡ 4 = ap (λ (r : Reply). r.status) e in absurd (omega arith)

    front_reply : SafeIsTold → MessagesAreNotSafe → (reply : Reply) → Loading before after network IsAnalysis reply →
        (front rest : List ℕ) → reply.text ≡ front ++ rest → PrintsSafe front → IsFoundSafe before network
    front_reply told messages reply (came text there a) front rest cut prints = record {
      text = text;
      there = there;
      safe = front_analysed told messages text a.found reply a.comes a.analysed front rest cut prints;
    }
    front_reply told messages reply (longer over e) front rest cut prints =
        absurd (messages.refused TooLong front rest (sym (ap (λ (r : Reply). r.text) e) ∙ cut) prints)
    front_reply told messages reply (lacking lack e) front rest cut prints =
        absurd (messages.missing network front rest (sym (ap (λ (r : Reply). r.text) e) ∙ cut) prints)
    front_reply told messages reply (failing rose e) front rest cut prints =
        absurd (messages.fault_load network front rest (sym (ap (λ (r : Reply). r.text) e) ∙ cut) prints)

module _ (words : List (List ℕ)) (before after : Seen) (status : ℕ) where
  abbrev Called : Type 0
  Called = IsCall words before after status

  abbrev Replies : Reply → Type 0
  Replies reply = IsReply (MayCome before.files after.files) words reply

  appended_is_front : (old appended text : List ℕ) → before.sink.written ≡ Some old →
      after.sink.written ≡ Some (old ++ appended) →
      (front : AppendsFront before.sink.written after.sink.written text) → appended ≡ front.0
  appended_is_front old appended text was is front =
      let both : Some (old ++ appended) ≡ Some (old ++ front.0) =
      sym is ∙ front.2 ∙ ap (λ (known : Option (List ℕ)). append_known known front.0) was in
      let same : old ++ appended ≡ old ++ front.0 = cc in
      append_cancel_left old appended front.0 same

  whole_is_front : (text : List ℕ) → after.sink.written ≡ append_known before.sink.written text →
      AppendsFront before.sink.written after.sink.written text
  whole_is_front text e = (text, ([], sym (append-nil text)), e)

  nothing_is_front : (known : Option (List ℕ)) → known ≡ append_known known []
  nothing_is_front None = refl
  nothing_is_front (Some bytes) = ap Some (sym (append-nil bytes))

  module _ (network : List ℕ) (asks : Asks words (Analyse network)) (runs : SafeNetworkRunsSafely)
      (safe_is_told : SafeIsTold) (messages : MessagesAreNotSafe) where
    printed_front : (old appended : List ℕ) → before.sink.written ≡ Some old →
        after.sink.written ≡ Some (old ++ appended) → PrintsSafe appended →
        (reply : Reply) → Replies reply → AppendsFront before.sink.written after.sink.written reply.text →
        IsFoundSafe before.files network
    printed_front old appended was is prints reply p front =
        front_reply runs before.files after.files network safe_is_told messages reply
        (analysing words before.files after.files network reply asks p) front.0 front.1.0 front.1.1
        (subst PrintsSafe (appended_is_front old appended reply.text was is front) prints)

    printed : (old appended : List ℕ) → before.sink.written ≡ Some old → after.sink.written ≡ Some (old ++ appended) →
        PrintsSafe appended → Called → IsFoundSafe before.files network
    printed old appended was is prints (no_memory s e f) =
        let front : AppendsFront before.sink.written after.sink.written usage_text =
        ([], (usage_text, refl), e ∙ nothing_is_front before.sink.written) in
        absurd (messages.usage [] usage_text refl
        (subst PrintsSafe (appended_is_front old appended usage_text was is front) prints))
    printed old appended was is prints (replied reply p f (whole s e)) =
        printed_front old appended was is prints reply p (whole_is_front reply.text e)
    printed old appended was is prints (replied reply p f (failed s rose front)) =
        printed_front old appended was is prints reply p front
    printed old appended was is prints (replied reply p f (unfinished s front)) =
        printed_front old appended was is prints reply p front

    zero_called : status ≡ 0 → Called → IsFoundSafe before.files network
    zero_called zero' (no_memory s e f) = absurd (omega arith)
    zero_called zero' (replied reply p f (whole s e)) =
        zero_reply runs before.files after.files network reply
        (analysing words before.files after.files network reply asks p) (sym s ∙ zero')
    zero_called zero' (replied reply p f (failed s rose front)) = absurd (omega arith)
    zero_called zero' (replied reply p f (unfinished s front)) = absurd (omega arith)

    said_safe : CallSaysSafe before after status → Called → IsFoundSafe before.files network
    said_safe (inl zero') called = zero_called zero' called
    said_safe (inr some) called = printed some.0 some.1 some.2 some.3 some.4 called

  pub safe_only : SafeNetworkRunsSafely → SafeIsTold → MessagesAreNotSafe → Called →
      SafeOnly words before after status
  safe_only runs safe_is_told messages called network asks says' files is =
      let safe = said_safe network asks runs safe_is_told messages says' called in
      (safe.text, safe.there files is, safe.safe)

-- what a reply says of the network that a text spells
record ReplyIsRight (plan : Plan) (reply : Reply) : Type 0 where
  safe : reply.status ≡ 0 → HasNoBad plan
  alarm : reply.status ≡ 1 → HasBad plan
  small : reply.status ≤ 1

small_status : (bad : List Fact) → status_of bad ≤ 1
small_status [] = omega arith
small_status (fact ∷ facts) = omega arith

report_is_right : (plan : Plan) (reply : Reply) → IsReport plan reply → ReplyIsRight plan reply
report_is_right plan reply report =
    let is : reply.status ≡ status_of report.bad = ap (λ (r : Reply). r.status) report.told in record {
      safe = λ zero'. report_is_safe plan reply report (no_status report.bad (sym is ∙ zero'));
      alarm = λ one. let some = some_status report.bad (sym is ∙ one) in
          alarm_is_bad plan reply report some.0 some.1 some.2;
      small = subst (λ n. n ≤ 1) (sym is) (small_status report.bad);
    }

analysed_is_right : (plan : Plan) (found : WhatIsFound) (reply : Reply) → found ≡ Ok plan → IsAnalysisOf found reply →
    ReplyIsRight plan reply
analysed_is_right plan found reply comes (refused refusal is e) = absurd (not_refused refusal plan found is comes)
analysed_is_right plan found reply comes (reported other is report) =
    let same : other ≡ plan = found_plan other plan found is comes in
    subst (λ (p : Plan). ReplyIsRight p reply) same (report_is_right other reply report)

analysed_refused : (refusal : NetworkRefusal) (found : WhatIsFound) (reply : Reply) → found ≡ Err refusal →
    IsAnalysisOf found reply → reply ≡ refuses refusal
analysed_refused refusal found reply comes (refused other is e) =
    let both : ◌≡◌ {A = WhatIsFound} (Err other) (Err refusal) = sym is ∙ comes in
    let same : other ≡ refusal = cc in e ∙ ap refuses same
analysed_refused refusal found reply comes (reported plan is report) =
    absurd (not_refused refusal plan found comes is)

-- a file that is told and within the limit was found
found_there : (before after : FilesSeen) (network text : List ℕ) (goes_on : List ℕ → Reply → Type 0) (reply : Reply)
    (files : FileMap) → before.told ≡ Some files → file_of files network ≡ Some text → length text ≤ text_limit →
    Loading before after network goes_on reply → goes_on text reply ⊎ (reply.status ≡ 4)
found_there before after network text goes_on reply files is file within (came other there p) =
    let both : Some other ≡ Some text = sym (there files is) ∙ file in
    let same : other ≡ text = cc in inl (subst (λ (t : List ℕ). goes_on t reply) same p)
found_there before after network text goes_on reply files is file within (longer over e) =
    let large = over files is in
    let both : Some large.0 ≡ Some text = sym large.1 ∙ file in
    let same : large.0 ≡ text = cc in
    let less : text_limit < length text = subst (λ (t : List ℕ). text_limit < length t) same large.2 in
    absurd (omega arith)
found_there before after network text goes_on reply files is file within (lacking lack e) =
    inr (ap (λ (r : Reply). r.status) e)
found_there before after network text goes_on reply files is file within (failing rose e) =
    inr (ap (λ (r : Reply). r.status) e)

module _ (words : List (List ℕ)) (before after : Seen) (status : ℕ) (one_reading : OneReading)
    (one_check : HasOneAnswer) where
  whole_is_right : (plan : Plan) (reply : Reply) → status ≡ reply.status → ReplyIsRight plan reply →
      StatusIsRight plan status
  whole_is_right plan reply s right = record {
    safe = λ zero'. right.safe (sym s ∙ zero');
    alarm = λ one. right.alarm (sym s ∙ one);
    known = λ small. let most : reply.status ≤ 1 = right.small in omega (arith, s);
  }

  beyond_is_right : (plan : Plan) → 4 ≤ status → StatusIsRight plan status
  beyond_is_right plan large = record {
    safe = λ zero'. absurd (omega arith);
    alarm = λ one. absurd (omega arith);
    known = λ small. absurd (omega arith);
  }

  refused_is_right : (text : List ℕ) (refusal : NetworkRefusal) (reply : Reply) → ComesTo text (Err refusal) →
      IsAnalysis text reply → status ≡ reply.status →
      after.sink.written ≡ append_known before.sink.written reply.text →
      (status ≡ 3) × (after.sink.written ≡ append_known before.sink.written (refused_network refusal))
  refused_is_right text refusal reply comes a s e =
      let is : reply ≡ refuses refusal =
      analysed_refused refusal a.found reply
      (comes_once one_reading one_check text a.found (Err refusal) a.comes comes) a.analysed in (
        s ∙ ap (λ (r : Reply). r.status) is,
        e ∙ ap (λ (r : Reply). append_known before.sink.written r.text) is,
      )

  found_is_right : (text : List ℕ) (reply : Reply) → IsAnalysis text reply → status ≡ reply.status →
      after.sink.written ≡ append_known before.sink.written reply.text → AnalysisIsRight text before after status
  found_is_right text reply a s e = record {
    refused = λ refusal comes small. refused_is_right text refusal reply comes a s e;
    analysed = λ tree plan read well spelled. whole_is_right plan reply s
        (analysed_is_right plan a.found reply
        (comes_to_plan one_reading one_check text tree plan a.found read well spelled a.comes) a.analysed);
  }

  beyond : (text : List ℕ) → 4 ≤ status → AnalysisIsRight text before after status
  beyond text large = record {
    refused = λ refusal comes small. absurd (omega arith);
    analysed = λ tree plan read well spelled. beyond_is_right plan large;
  }

  pub safe_if : IsCall words before after status → SafeIf words before after status
  safe_if (no_memory s e f) network asks files is text file within = beyond text (omega arith)
  safe_if (replied reply p f (whole s e)) network asks files is text file within =
      elim (found_there before.files after.files network text IsAnalysis reply files is file within
      (analysing words before.files after.files network reply asks p)) [
        | inl a ↦ found_is_right text reply a s e
        | inr four ↦ beyond text (omega (arith, s, four))
      ]
  safe_if (replied reply p f (failed s rose front)) network asks files is text file within = beyond text (omega arith)
  safe_if (replied reply p f (unfinished s front)) network asks files is text file within = beyond text (omega arith)

  -- the counts
  zero_counted : (text : List ℕ) (found : WhatIsFound) (reply : Reply) → ComesTo text found → reply ≡ counted found →
      status ≡ reply.status → after.sink.written ≡ append_known before.sink.written reply.text → status ≡ 0 →
      IsCountedText before after text
  zero_counted text (Ok plan) reply comes told s e zero' =
      let spelled = spells text plan (Ok plan) refl comes in record {
        tree = spelled.tree;
        plan = plan;
        file = spelled.file;
        network = spelled.network;
        counts = e ∙ ap (λ (r : Reply). append_known before.sink.written r.text) told;
      }
  zero_counted text (Err refusal) reply comes told s e zero' =
      let three : reply.status ≡ 3 = ap (λ (r : Reply). r.status) told in absurd (omega (arith, s))

  zero_checked : (network : List ℕ) (reply : Reply) → status ≡ reply.status →
      after.sink.written ≡ append_known before.sink.written reply.text → status ≡ 0 →
      Loading before.files after.files network IsCheck reply →
      WhereTold before.files (λ files.
      (text : List ℕ) × (file_of files network ≡ Some text) × IsCountedText before after text)
  zero_checked network reply s e zero' (came text there c) files is =
      (text, there files is, zero_counted text c.found reply c.comes c.told s e zero')
  zero_checked network reply s e zero' (longer over told) files is =
      let three : reply.status ≡ 3 = ap (λ (r : Reply). r.status) told in absurd (omega (arith, s))
  zero_checked network reply s e zero' (lacking lack told) files is =
      let four : reply.status ≡ 4 = ap (λ (r : Reply). r.status) told in absurd (omega (arith, s))
  zero_checked network reply s e zero' (failing rose told) files is =
      let four : reply.status ≡ 4 = ap (λ (r : Reply). r.status) told in absurd (omega (arith, s))

  pub counts_only : IsCall words before after status → CountsOnly words before after status
  counts_only (no_memory s e f) network asks zero' = absurd (omega arith)
  counts_only (replied reply p f (whole s e)) network asks zero' =
      zero_checked network reply s e zero' (checking words before.files after.files network reply asks p)
  counts_only (replied reply p f (failed s rose front)) network asks zero' = absurd (omega arith)
  counts_only (replied reply p f (unfinished s front)) network asks zero' = absurd (omega arith)

  counted_right : (text : List ℕ) (found other : WhatIsFound) (reply : Reply) → ComesTo text found →
      ComesTo text other → reply ≡ counted other → status ≡ reply.status →
      after.sink.written ≡ append_known before.sink.written reply.text →
      (status ≡ (counted found).status)
      × (after.sink.written ≡ append_known before.sink.written (counted found).text)
  counted_right text found other reply comes comes' told s e =
      let is : reply ≡ counted found =
      told ∙ ap (λ (o : WhatIsFound). counted o) (comes_once one_reading one_check text other found comes' comes) in (
        s ∙ ap (λ (r : Reply). r.status) is,
        e ∙ ap (λ (r : Reply). append_known before.sink.written r.text) is,
      )

  pub counts_if : IsCall words before after status → CountsIf words before after status
  counts_if (no_memory s e f) network asks files is text file within found comes small = absurd (omega arith)
  counts_if (replied reply p f (whole s e)) network asks files is text file within found comes small =
      elim (found_there before.files after.files network text IsCheck reply files is file within
      (checking words before.files after.files network reply asks p)) [
        | inl c ↦ counted_right text found c.found reply comes c.comes c.told s e
        | inr four ↦ absurd (omega (arith, s, four))
      ]
  counts_if (replied reply p f (failed s rose front)) network asks files is text file within found comes small =
      absurd (omega arith)
  counts_if (replied reply p f (unfinished s front)) network asks files is text file within found comes small =
      absurd (omega arith)
