-- A replay has one reply, and stores nothing.
use Rattle.std.proofs.Common.{◌≡◌, ℕ, List, [], ◌∷◌, None, Ok, Err, refl, sym, ap, subst, ◌∙◌}
use Rattle.tree_rules.specs.Laws.{HasOneAnswer}
use Rattle.net_plan.specs.declared.plan.Plan.{Plan}
use Rattle.net_plan.specs.Sound.{IsSound}
use Rattle.net_runs.specs.declared.world.Mode.{Mode}
use Rattle.network_file.specs.Laws.{OneReading}
use Rattle.schedule_file.specs.Laws.{OneTelling}
use Rattle.amdl_app.specs.Reply.{Reply, says, refuses}
use Rattle.amdl_app.specs.Loaded.{Loaded, Found, Over, Lacking, Failed}
use Rattle.amdl_app.specs.Replaying.{AfterSchedule, IsReplayed, IsReplay, refused, read}
use Rattle.amdl_app.proofs.SpelledLemmas.{WhatIsFound, spells, comes_once}

-- the replies after the load of a schedule are one where those to a text are
after_schedule_once : (name : List ℕ) (replies : List ℕ → Reply → Type 0) →
    ((text : List ℕ) (one two : Reply) → replies text one → replies text two → one ≡ two) →
    (loads : List Loaded) (one two : Reply) → AfterSchedule name replies loads one →
    AfterSchedule name replies loads two → one ≡ two
after_schedule_once name replies once [] one two p q = absurd p
after_schedule_once name replies once (Found text ∷ others) one two p q = once text one two p q
after_schedule_once name replies once (Over ∷ others) one two p q = p ∙ sym q
after_schedule_once name replies once (Lacking ∷ others) one two p q = p ∙ sym q
after_schedule_once name replies once (Failed ∷ others) one two p q = p ∙ sym q

module _ (one_reading : OneReading) (one_check : HasOneAnswer) (one_telling : OneTelling) where
  replayed_once : (plan : Plan) (mode : Mode) (bytes : List ℕ) (one two : Reply) → IsSound plan →
      IsReplayed plan mode bytes one → IsReplayed plan mode bytes two → one ≡ two
  replayed_once plan mode bytes one two sound (status, text, told, e) (other, another, told', e') =
      let same = one_telling plan mode bytes status other text another sound told told' in
      e ∙ (λ i. says (same.0 i) (same.1 i)) ∙ sym e'

  pub replay_once : (mode : Mode) (schedule text : List ℕ) (loads : List Loaded) (one two : Reply) →
      IsReplay mode schedule text loads one → IsReplay mode schedule text loads two → one ≡ two
  replay_once mode schedule text loads one two (refused refusal comes e) (refused other comes' e') =
      let both : ◌≡◌ {A = WhatIsFound} (Err refusal) (Err other) =
      comes_once one_reading one_check text (Err refusal) (Err other) comes comes' in
      let same : refusal ≡ other = cc in e ∙ ap refuses same ∙ sym e'
  replay_once mode schedule text loads one two (refused refusal comes e) (read plan comes' after) =
      absurd (let both : ◌≡◌ {A = WhatIsFound} (Err refusal) (Ok plan) =
      comes_once one_reading one_check text (Err refusal) (Ok plan) comes comes' in cc)
  replay_once mode schedule text loads one two (read plan comes after) (refused refusal comes' e) =
      absurd (let both : ◌≡◌ {A = WhatIsFound} (Ok plan) (Err refusal) =
      comes_once one_reading one_check text (Ok plan) (Err refusal) comes comes' in cc)
  replay_once mode schedule text loads one two (read plan comes after) (read other comes' after') =
      let both : ◌≡◌ {A = WhatIsFound} (Ok plan) (Ok other) =
      comes_once one_reading one_check text (Ok plan) (Ok other) comes comes' in
      let same : plan ≡ other = cc in
      let sound : IsSound plan = (spells text plan (Ok plan) refl comes).network.sound in
      after_schedule_once schedule (IsReplayed plan mode)
      (λ bytes first second. replayed_once plan mode bytes first second sound) loads one two after
      (subst (λ (p : Plan). AfterSchedule schedule (IsReplayed p mode) loads two) (sym same) after')

after_schedule_stores : (plan : Plan) (mode : Mode) (name : List ℕ) (loads : List Loaded) (reply : Reply) →
    AfterSchedule name (IsReplayed plan mode) loads reply → reply.stored ≡ None
after_schedule_stores plan mode name [] reply p = absurd p
after_schedule_stores plan mode name (Found text ∷ others) reply (status, told, of', e) = ap (λ (r : Reply). r.stored) e
after_schedule_stores plan mode name (Over ∷ others) reply p = ap (λ (r : Reply). r.stored) p
after_schedule_stores plan mode name (Lacking ∷ others) reply p = ap (λ (r : Reply). r.stored) p
after_schedule_stores plan mode name (Failed ∷ others) reply p = ap (λ (r : Reply). r.stored) p

pub replay_stores : (mode : Mode) (schedule text : List ℕ) (others : List Loaded) (reply : Reply) →
    IsReplay mode schedule text others reply → reply.stored ≡ None
replay_stores mode schedule text others reply (refused refusal comes e) = ap (λ (r : Reply). r.stored) e
replay_stores mode schedule text others reply (read plan comes after) =
    after_schedule_stores plan mode schedule others reply after
