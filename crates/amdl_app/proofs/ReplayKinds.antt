-- What the reply to a replay is, and what the load of its schedule comes to.
use Rattle.std.proofs.Common.{◌≡◌, ℕ, ◌≤◌, ◌⊎◌, zero, suc, inl, inr, List, [], ◌∷◌, Some, refl, ap, subst}
use Rattle.std.proofs.Common.{◌∙◌, arith}
use Rattle.std.proofs.lemmas.List.Elements.{Contains-push}
use Rattle.net_plan.specs.declared.plan.Plan.{Plan}
use Rattle.net_runs.specs.declared.world.Mode.{Mode}
use Rattle.outside.specs.Files.{FileMap}
use Rattle.schedule.specs.Texts.{lines_of, bad_of}
use Rattle.schedule_file.specs.declared.refusal.FileRefusal.TheVariants.{TooLong}
use Rattle.schedule_file.specs.Replaying.{IsToldOf, IsRunTold, ran, stopped, status_of}
use Rattle.schedule_file.specs.Replaying as telling
use Rattle.amdl_app.specs.Reply.{Reply, says}
use Rattle.amdl_app.specs.Command.{Replay, Asks, LoadsFile, network_input, schedule_input}
use Rattle.amdl_app.specs.Loaded.{Loaded, Found, Over, Lacking, Failed, Tells, MayCome, EachComes}
use Rattle.amdl_app.specs.Answer.{AfterNetwork}
use Rattle.amdl_app.specs.Promises.{AskReplay, of_network, of_schedule, of_step}
use Rattle.amdl_app.specs.Replaying.{AfterSchedule, IsReplayed, IsReplay, refused, read}
use Rattle.amdl_app.specs.Seen.{FilesSeen}
use Rattle.amdl_app.proofs.ReplyKinds.{Kind, good, refusing, lacking, failing, IsFault, may_tells, some_told}
use Rattle.amdl_app.proofs.ReplyKinds.{after_kind, after_tells, loads_first}

run_status : (n : ℕ) → status_of n ≤ 1
run_status zero = omega arith
run_status (suc n) = omega arith

module _ (words : List (List ℕ)) (before after : FilesSeen) (mode : Mode) (network schedule : List ℕ)
    (asks : Asks words (Replay mode network schedule)) where
  asked : AskReplay words
  asked = (mode, network, schedule, asks)

  of_network_file : LoadsFile words network
  of_network_file = loads_first words (Replay mode network schedule) network (schedule_input schedule ∷ []) asks refl

  of_schedule_file : LoadsFile words schedule
  of_schedule_file = record {
    command = Replay mode network schedule;
    asks = asks;
    input = schedule_input schedule;
    loads = Contains-push (network_input network ∷ []) (schedule_input schedule);
    named = refl;
  }

  told_kind : (plan : Plan) (bytes : List ℕ) (reply : Reply) (status : ℕ) (text : List ℕ) →
      reply ≡ says status text → IsToldOf plan mode bytes status text → Kind words before after reply
  told_kind plan bytes reply status text e (telling.refused refusal is s t) =
      refusing (of_schedule asked refusal (e ∙ (λ i. says (s i) (t i))))
  told_kind plan bytes reply status text e (telling.replayed steps is (ran events world run s t)) =
      let same : reply.status ≡ status_of (bad_of plan events) = ap (λ (r : Reply). r.status) e ∙ s in
      good (omega (arith, same, run_status (bad_of plan events)))
  told_kind plan bytes reply status text e (telling.replayed steps is (stopped k why events at s t)) =
      refusing (of_step asked (lines_of plan events) k why (e ∙ (λ i. says (s i) (t i))))

  behind_kind : (plan : Plan) (others : List Loaded) (reply : Reply) →
      EachComes (MayCome before after) (schedule_input schedule ∷ []) others →
      AfterSchedule schedule (IsReplayed plan mode) others reply → Kind words before after reply
  behind_kind plan [] reply each p = absurd p
  behind_kind plan (Found text ∷ others) reply each (status, lines, told, e) =
      told_kind plan text reply status lines e told
  behind_kind plan (Over ∷ others) reply each p = refusing (of_schedule asked TooLong p)
  behind_kind plan (Lacking ∷ others) reply each p = lacking schedule of_schedule_file each.0 p
  behind_kind plan (Failed ∷ others) reply each p = failing schedule of_schedule_file each.0 p

  text_kind : (text : List ℕ) (others : List Loaded) (reply : Reply) →
      EachComes (MayCome before after) (schedule_input schedule ∷ []) others →
      IsReplay mode schedule text others reply → Kind words before after reply
  text_kind text others reply each (refused refusal comes e) = refusing (of_network refusal e)
  text_kind text others reply each (read plan comes p) = behind_kind plan others reply each p

  abbrev Goes : List ℕ → List Loaded → Reply → Type 0
  Goes text others = IsReplay mode schedule text others

  pub replay_kind : (loads : List Loaded) (reply : Reply) →
      EachComes (MayCome before after) (network_input network ∷ schedule_input schedule ∷ []) loads →
      AfterNetwork network Goes loads reply → Kind words before after reply
  replay_kind =
      after_kind words before after network (schedule_input schedule ∷ []) of_network_file Goes text_kind

  abbrev Behind : FileMap → List ℕ → Reply → Type 0
  Behind files text reply =
      (more : List Loaded) × EachComes (Tells files) (schedule_input schedule ∷ []) more × Goes text more reply

  read_tells : (files : FileMap) → before.told ≡ Some files → (text : List ℕ) (plan : Plan)
      (others : List Loaded) (reply : Reply) →
      EachComes (MayCome before after) (schedule_input schedule ∷ []) others →
      ((more : List Loaded) → AfterSchedule schedule (IsReplayed plan mode) more reply → Goes text more reply) →
      AfterSchedule schedule (IsReplayed plan mode) others reply →
      Behind files text reply ⊎ IsFault words before after reply
  read_tells files is text plan [] reply each goes p = absurd each
  read_tells files is text plan (loaded ∷ other ∷ others) reply each goes p = absurd each.1
  read_tells files is text plan (loaded ∷ []) reply each goes p =
      elim (may_tells before after files is (schedule_input schedule) loaded each.0) [
        | inl told ↦ inl (loaded ∷ [], (told, tt), goes (loaded ∷ []) p)
        | inr failure ↦ inr
            (record {
              rose = failure.1;
              name = schedule;
              loads = of_schedule_file;
              told = subst
                  (λ (l : Loaded). AfterSchedule schedule (IsReplayed plan mode) (l ∷ []) reply) failure.0 p;
            })
      ]

  text_tells : (files : FileMap) → before.told ≡ Some files → (text : List ℕ) (others : List Loaded)
      (reply : Reply) → EachComes (MayCome before after) (schedule_input schedule ∷ []) others →
      Goes text others reply → Behind files text reply ⊎ IsFault words before after reply
  text_tells files is text others reply each (refused refusal comes e) =
      let some = some_told files (schedule_input schedule ∷ []) in inl (some.0, some.1, refused refusal comes e)
  text_tells files is text others reply each (read plan comes p) =
      read_tells files is text plan others reply each (λ more q. read plan comes q) p

  pub replay_tells : (files : FileMap) → before.told ≡ Some files → (loads : List Loaded) (reply : Reply) →
      EachComes (MayCome before after) (network_input network ∷ schedule_input schedule ∷ []) loads →
      AfterNetwork network Goes loads reply →
      ((told : List Loaded) × EachComes (Tells files) (network_input network ∷ schedule_input schedule ∷ []) told
      × AfterNetwork network Goes told reply) ⊎ IsFault words before after reply
  replay_tells files is =
      after_tells words before after network (schedule_input schedule ∷ []) of_network_file Goes files is
      (text_tells files is)
