-- Outcomes of loads have one reply, and words and files one answer.
use Rattle.std.proofs.Common.{◌≡◌, ℕ, ◌<◌, List, [], ◌∷◌, Some, None, Result, Ok, Err, length, get_or, refl, sym, ap}
use Rattle.std.proofs.Common.{subst, ◌∙◌, arith, codes}
use Rattle.net_runs.specs.declared.world.Mode.{Mode}
use Rattle.net_runs.specs.declared.world.Mode.TheVariants.{Unordered, Ordered}
use Rattle.tree_rules.specs.Laws.{HasOneAnswer}
use Rattle.network_file.specs.Laws.{OneReading}
use Rattle.network_file.specs.declared.reading.ReadRefusal.{ReadRefusal}
use Rattle.amdl_tree.specs.declared.tree.Tree.{Tree}
use Rattle.net_plan.specs.declared.plan.Plan.{Plan}
use Rattle.net_plan.specs.declared.fact.Fact.{Fact}
use Rattle.net_plan.specs.Laws.{RisingIsUnique}
use Rattle.packet_state.specs.Laws.{LeastIsUnique}
use Rattle.net_plan.specs.Fact.{ListsExactly}
use Rattle.outside.specs.Files.{FileMap}
use Rattle.plan_text.specs.Text.{report_of}
use Rattle.fact_sets.specs.Summary.{IsBadAmong}
use Rattle.schedule_file.specs.Laws.{OneTelling}
use Rattle.amdl_app.specs.Reply.{Reply, says, refuses}
use Rattle.amdl_app.specs.Command.{Command, Analyse, Check, Format, Replay, replay_verb, Asks, Input, inputs_of}
use Rattle.amdl_app.specs.Loaded.{Loaded, Found, Over, Lacking, Failed, Tells, EachComes}
use Rattle.amdl_app.specs.Report.{IsReport, IsAnalysis, IsAnalysisOf, refused, reported, status_of}
use Rattle.amdl_app.specs.Counts.{IsCheck, counted}
use Rattle.amdl_app.specs.Formatting.{IsFormatting, formatted}
use Rattle.amdl_app.specs.Replaying.{IsReplay}
use Rattle.amdl_app.specs.Answer.{AfterNetwork, IsReplyTo, IsCommandReply, unasked, asked}
use Rattle.amdl_app.specs.Laws.{ReplyIsUnique, AnswerIsUnique, StoresItsFile}
use Rattle.amdl_app.proofs.ReplayLemmas.{replay_once, replay_stores}
use Rattle.amdl_app.proofs.SpelledLemmas.{WhatIsFound, found_plan, not_refused, comes_once}

-- what two calls of the same words ask for is the same
verb_of : List (List ℕ) → ℕ
verb_of words = get_or (get_or words 0 []) 0 0

letter_of : Command → ℕ
letter_of (Analyse network) = 97
letter_of (Check network) = 99
letter_of (Format network) = 102
letter_of (Replay mode network schedule) = 114

letter_asked : (words : List (List ℕ)) (command : Command) → Asks words command → verb_of words ≡ letter_of command
unfolding verb_of letter_of
letter_asked words (Analyse network) asks = ap verb_of asks
letter_asked words (Check network) asks = ap verb_of asks
letter_asked words (Format network) asks = ap verb_of asks
letter_asked words (Replay Unordered network schedule) asks = ap verb_of asks
letter_asked words (Replay Ordered network schedule) asks = ap verb_of asks

same_letter : (words : List (List ℕ)) (one two : Command) → Asks words one → Asks words two →
    letter_of one ≡ letter_of two
same_letter words one two first second = sym (letter_asked words one first) ∙ letter_asked words two second

apart : (words : List (List ℕ)) (one two : Command) → Asks words one → Asks words two →
    (letter_of one ≡ letter_of two → ⊥) → ⊥
apart words one two first second differ = differ (same_letter words one two first second)

same_network : (verb : List ℕ) (words : List (List ℕ)) (one two : List ℕ) → words ≡ verb ∷ one ∷ [] →
    words ≡ verb ∷ two ∷ [] → one ≡ two
same_network verb words one two first second = let e : verb ∷ one ∷ [] ≡ verb ∷ two ∷ [] = sym first ∙ second in cc

-- the verb of a replay tells its mode, and the words behind it the files
mode_is_told : (one two : Mode) → replay_verb one ≡ replay_verb two → one ≡ two
mode_is_told Unordered Unordered e = refl
mode_is_told Unordered Ordered e = absurd (let n : ◌≡◌ {A = ℕ} 6 14 = ap length e in omega arith)
mode_is_told Ordered Unordered e = absurd (let n : ◌≡◌ {A = ℕ} 14 6 = ap length e in omega arith)
mode_is_told Ordered Ordered e = refl

same_replay : (words : List (List ℕ)) (mode other : Mode) (one two first second : List ℕ) →
    Asks words (Replay mode one first) → Asks words (Replay other two second) →
    Replay mode one first ≡ Replay other two second
same_replay words mode other one two first second p q =
    let both : replay_verb mode ∷ one ∷ first ∷ [] ≡ replay_verb other ∷ two ∷ second ∷ [] = sym p ∙ q in
    let verb : replay_verb mode ≡ replay_verb other = cc in
    let network : one ≡ two = cc in
    let schedule : first ≡ second = cc in
    λ i. Replay (mode_is_told mode other verb i) (network i) (schedule i)

pub command_is_asked : (words : List (List ℕ)) (one two : Command) → Asks words one → Asks words two → one ≡ two
unfolding letter_of
command_is_asked words (Analyse one) (Analyse two) first second =
    ap Analyse (same_network (codes "analyse") words one two first second)
command_is_asked words (Check one) (Check two) first second =
    ap Check (same_network (codes "check") words one two first second)
command_is_asked words (Format one) (Format two) first second =
    ap Format (same_network (codes "format") words one two first second)
command_is_asked words (Replay mode one schedule) (Replay other two another) first second =
    same_replay words mode other one two schedule another first second
command_is_asked words (Analyse one) (Check two) first second =
    absurd (apart words (Analyse one) (Check two) first second (λ e. omega (arith, e)))
command_is_asked words (Analyse one) (Format two) first second =
    absurd (apart words (Analyse one) (Format two) first second (λ e. omega (arith, e)))
command_is_asked words (Check one) (Analyse two) first second =
    absurd (apart words (Check one) (Analyse two) first second (λ e. omega (arith, e)))
command_is_asked words (Check one) (Format two) first second =
    absurd (apart words (Check one) (Format two) first second (λ e. omega (arith, e)))
command_is_asked words (Format one) (Analyse two) first second =
    absurd (apart words (Format one) (Analyse two) first second (λ e. omega (arith, e)))
command_is_asked words (Format one) (Check two) first second =
    absurd (apart words (Format one) (Check two) first second (λ e. omega (arith, e)))
command_is_asked words (Analyse one) (Replay mode two schedule) first second =
    absurd (apart words (Analyse one) (Replay mode two schedule) first second (λ e. omega (arith, e)))
command_is_asked words (Check one) (Replay mode two schedule) first second =
    absurd (apart words (Check one) (Replay mode two schedule) first second (λ e. omega (arith, e)))
command_is_asked words (Format one) (Replay mode two schedule) first second =
    absurd (apart words (Format one) (Replay mode two schedule) first second (λ e. omega (arith, e)))
command_is_asked words (Replay mode one schedule) (Analyse two) first second =
    absurd (apart words (Replay mode one schedule) (Analyse two) first second (λ e. omega (arith, e)))
command_is_asked words (Replay mode one schedule) (Check two) first second =
    absurd (apart words (Replay mode one schedule) (Check two) first second (λ e. omega (arith, e)))
command_is_asked words (Replay mode one schedule) (Format two) first second =
    absurd (apart words (Replay mode one schedule) (Format two) first second (λ e. omega (arith, e)))

-- a map tells one outcome of a load
found_over : (files : FileMap) (input : Input) (text : List ℕ) → Tells files input (Found text) →
    Tells files input Over → ⊥
found_over files input text found over =
    let both : Some text ≡ Some over.0 = sym found.1 ∙ over.1 in
    let same : text ≡ over.0 = cc in
    let less : input.limit < length text = subst (λ (t : List ℕ). input.limit < length t) (sym same) over.2 in
    omega (arith, found.0)

found_lacking : (files : FileMap) (input : Input) (text : List ℕ) → Tells files input (Found text) →
    Tells files input Lacking → ⊥
found_lacking files input text found lacking = let both : Some text ≡ None = sym found.1 ∙ lacking in cc

over_lacking : (files : FileMap) (input : Input) → Tells files input Over → Tells files input Lacking → ⊥
over_lacking files input over lacking = let both : Some over.0 ≡ None = sym over.1 ∙ lacking in cc

tells_once : (files : FileMap) (input : Input) (one two : Loaded) → Tells files input one → Tells files input two →
    one ≡ two
tells_once files input (Found a) (Found b) p q =
    let both : Some a ≡ Some b = sym p.1 ∙ q.1 in let same : a ≡ b = cc in ap Found same
tells_once files input (Found a) Over p q = absurd (found_over files input a p q)
tells_once files input (Found a) Lacking p q = absurd (found_lacking files input a p q)
tells_once files input (Found a) Failed p q = absurd q
tells_once files input Over (Found b) p q = absurd (found_over files input b q p)
tells_once files input Over Over p q = refl
tells_once files input Over Lacking p q = absurd (over_lacking files input p q)
tells_once files input Over Failed p q = absurd q
tells_once files input Lacking (Found b) p q = absurd (found_lacking files input b q p)
tells_once files input Lacking Over p q = absurd (over_lacking files input q p)
tells_once files input Lacking Lacking p q = refl
tells_once files input Lacking Failed p q = absurd q
tells_once files input Failed two p q = absurd p

each_once : (files : FileMap) (inputs : List Input) (one two : List Loaded) → EachComes (Tells files) inputs one →
    EachComes (Tells files) inputs two → one ≡ two
each_once files [] [] [] p q = refl
each_once files [] [] (b ∷ more) p q = absurd q
each_once files [] (a ∷ rest) two p q = absurd p
each_once files (input ∷ inputs) [] two p q = absurd p
each_once files (input ∷ inputs) (a ∷ rest) [] p q = absurd q
each_once files (input ∷ inputs) (a ∷ rest) (b ∷ more) p q =
    λ i. tells_once files input a b p.0 q.0 i ∷ each_once files inputs rest more p.1 q.1 i

-- the replies after a load are one where those to a text are
after_once : (name : List ℕ) (goes_on : List ℕ → List Loaded → Reply → Type 0) →
    ((text : List ℕ) (others : List Loaded) (one two : Reply) → goes_on text others one → goes_on text others two →
    one ≡ two) →
    (loads : List Loaded) (one two : Reply) → AfterNetwork name goes_on loads one →
    AfterNetwork name goes_on loads two → one ≡ two
after_once name goes_on once [] one two p q = absurd p
after_once name goes_on once (Found text ∷ others) one two p q = once text others one two p q
after_once name goes_on once (Over ∷ others) one two p q = p ∙ sym q
after_once name goes_on once (Lacking ∷ others) one two p q = p ∙ sym q
after_once name goes_on once (Failed ∷ others) one two p q = p ∙ sym q

abbrev report_reply : Plan → List Fact → List Fact → Reply
report_reply plan facts bad = says (status_of bad) (report_of plan facts bad)

module _ (one_reading : OneReading) (one_check : HasOneAnswer) (one_rising : RisingIsUnique)
    (one_least : LeastIsUnique) (one_telling : OneTelling) where
  report_is_one : (plan : Plan) (one two : Reply) → IsReport plan one → IsReport plan two → one ≡ two
  report_is_one plan one two first second =
      let facts : first.facts ≡ second.facts =
      one_least plan first.facts second.facts first.least second.least in
      let listed : ListsExactly (IsBadAmong plan first.facts) second.bad =
      subst (λ (f : List Fact). ListsExactly (IsBadAmong plan f) second.bad) (sym facts) second.bad_ones in
      let bad : first.bad ≡ second.bad = one_rising first.bad second.bad first.bad_ones.rising listed.rising
      (λ fact. (
        λ there. (listed.member fact).1 ((first.bad_ones.member fact).0 there),
        λ there. (first.bad_ones.member fact).1 ((listed.member fact).0 there),
      )) in
      first.told ∙ ap (λ (f : List Fact). report_reply plan f first.bad) facts ∙ ap (report_reply plan second.facts) bad
      ∙ sym second.told

  analysed_once : (found : WhatIsFound) (one two : Reply) → IsAnalysisOf found one → IsAnalysisOf found two → one ≡ two
  analysed_once found one two (refused refusal is e) (refused other is' e') =
      let both : ◌≡◌ {A = WhatIsFound} (Err refusal) (Err other) = sym is ∙ is' in
      let same : refusal ≡ other = cc in e ∙ ap refuses same ∙ sym e'
  analysed_once found one two (refused refusal is e) (reported plan is' report) =
      absurd (not_refused refusal plan found is is')
  analysed_once found one two (reported plan is report) (refused refusal is' e) =
      absurd (not_refused refusal plan found is' is)
  analysed_once found one two (reported plan is report) (reported other is' report') =
      report_is_one plan one two report
      (subst (λ (p : Plan). IsReport p two) (found_plan other plan found is' is) report')

  analysis_is_one : (text : List ℕ) (one two : Reply) → IsAnalysis text one → IsAnalysis text two → one ≡ two
  analysis_is_one text one two first second =
      analysed_once first.found one two first.analysed
      (subst (λ (found : WhatIsFound). IsAnalysisOf found two)
      (comes_once one_reading one_check text second.found first.found second.comes first.comes) second.analysed)

  check_is_one : (text : List ℕ) (one two : Reply) → IsCheck text one → IsCheck text two → one ≡ two
  check_is_one text one two first second =
      first.told
      ∙ ap (λ (found : WhatIsFound). counted found)
      (comes_once one_reading one_check text first.found second.found first.comes second.comes) ∙ sym second.told

  formatting_is_one : (text : List ℕ) (one two : Reply) → IsFormatting text one → IsFormatting text two → one ≡ two
  formatting_is_one text one two first second =
      first.told
      ∙ ap (λ (r : Result Tree ReadRefusal). formatted r)
      (one_reading text first.reading second.reading first.read second.read) ∙ sym second.told

  pub reply_is_one : ReplyIsUnique
  reply_is_one (Analyse network) =
      after_once network (λ text others. IsAnalysis text) (λ text others. analysis_is_one text)
  reply_is_one (Check network) = after_once network (λ text others. IsCheck text) (λ text others. check_is_one text)
  reply_is_one (Format network) =
      after_once network (λ text others. IsFormatting text) (λ text others. formatting_is_one text)
  reply_is_one (Replay mode network schedule) =
      after_once network (λ text others. IsReplay mode schedule text others)
      (λ text others. replay_once one_reading one_check one_telling mode schedule text others)

  command_reply_is_one : (files : FileMap) (command : Command) (one two : Reply) →
      IsCommandReply (Tells files) command one → IsCommandReply (Tells files) command two → one ≡ two
  command_reply_is_one files command one two first second =
      reply_is_one command first.0 one two first.2
      (subst (λ (loads : List Loaded). IsReplyTo command loads two)
      (each_once files (inputs_of command) second.0 first.0 second.1 first.1) second.2)

  pub answer_is_one : AnswerIsUnique
  answer_is_one words files one two (unasked none e) (unasked none' e') = e ∙ sym e'
  answer_is_one words files one two (unasked none e) (asked command asks second) = absurd (none command asks)
  answer_is_one words files one two (asked command asks first) (unasked none e) = absurd (none command asks)
  answer_is_one words files one two (asked command asks first) (asked other asks' second) =
      command_reply_is_one files command one two first
      (subst (λ (c : Command). IsCommandReply (Tells files) c two)
      (command_is_asked words other command asks' asks) second)

-- a reply that stores nothing
stores_nothing : (name : List ℕ) (goes_on : List ℕ → List Loaded → Reply → Type 0) →
    ((text : List ℕ) (others : List Loaded) (reply : Reply) → goes_on text others reply → reply.stored ≡ None) →
    (loads : List Loaded) (reply : Reply) → AfterNetwork name goes_on loads reply → reply.stored ≡ None
stores_nothing name goes_on none [] reply p = absurd p
stores_nothing name goes_on none (Found text ∷ others) reply p = none text others reply p
stores_nothing name goes_on none (Over ∷ others) reply p = ap (λ (r : Reply). r.stored) p
stores_nothing name goes_on none (Lacking ∷ others) reply p = ap (λ (r : Reply). r.stored) p
stores_nothing name goes_on none (Failed ∷ others) reply p = ap (λ (r : Reply). r.stored) p

analysed_stores : (found : WhatIsFound) (reply : Reply) → IsAnalysisOf found reply → reply.stored ≡ None
analysed_stores found reply (refused refusal is e) = ap (λ (r : Reply). r.stored) e
analysed_stores found reply (reported plan is report) = ap (λ (r : Reply). r.stored) report.told

analysis_stores : (text : List ℕ) (reply : Reply) → IsAnalysis text reply → reply.stored ≡ None
analysis_stores text reply a = analysed_stores a.found reply a.analysed

counted_stores : (found : WhatIsFound) → (counted found).stored ≡ None
counted_stores (Ok plan) = refl
counted_stores (Err refusal) = refl

check_stores : (text : List ℕ) (reply : Reply) → IsCheck text reply → reply.stored ≡ None
check_stores text reply c = ap (λ (r : Reply). r.stored) c.told ∙ counted_stores c.found

formatted_stores : (reading : Result Tree ReadRefusal) → (formatted reading).stored ≡ None
formatted_stores (Ok tree) = refl
formatted_stores (Err refusal) = refl

formatting_stores : (text : List ℕ) (reply : Reply) → IsFormatting text reply → reply.stored ≡ None
formatting_stores text reply f = ap (λ (r : Reply). r.stored) f.told ∙ formatted_stores f.reading

pub stores_own_file : StoresItsFile
stores_own_file (Analyse network) loads reply p file stored =
    absurd (let none = stores_nothing network (λ text others. IsAnalysis text)
    (λ text others. analysis_stores text) loads reply p in let both : None ≡ Some file = sym none ∙ stored in cc)
stores_own_file (Check network) loads reply p file stored =
    absurd (let none = stores_nothing network (λ text others. IsCheck text)
    (λ text others. check_stores text) loads reply p in let both : None ≡ Some file = sym none ∙ stored in cc)
stores_own_file (Format network) loads reply p file stored =
    absurd (let none = stores_nothing network (λ text others. IsFormatting text)
    (λ text others. formatting_stores text) loads reply p in let both : None ≡ Some file = sym none ∙ stored in cc)
stores_own_file (Replay mode network schedule) loads reply p file stored =
    absurd (let none = stores_nothing network (λ text others. IsReplay mode schedule text others)
    (λ text others. replay_stores mode schedule text others) loads reply p in
    let both : None ≡ Some file = sym none ∙ stored in cc)
