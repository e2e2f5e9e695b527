use Rattle.std.proofs.Common.{◌∷◌, [], List, ℕ, subst}
use Rattle.amdl_app.specs.Answer.{AfterNetwork, IsCommandReply}
use Rattle.amdl_app.specs.Answered.{reply_of}
use Rattle.amdl_app.specs.Asked.{came_to, stopped_by}
use Rattle.amdl_app.specs.Command.{Check, network_input}
use Rattle.amdl_app.specs.Counts.{IsCheck}
use Rattle.amdl_app.specs.Loaded.{Found, MayCome}
use Rattle.amdl_app.specs.Seen.{files_seen}
use Rattle.amdl_app.proofs.Words.{ok_map}
use Rattle.amdl_app.proofs.LoadLemmas.{after_stop}
use Rattle.amdl_app.proofs.checking.check_file.Goals as goal

pub returns-in-Found-clause-reply : goal.returns-in-Found-clause-reply
returns-in-Found-clause-reply g c =
    let may =
    MayCome (files_seen g.F.Files.told g.F.Files.faults c.args.files.now)
    (files_seen g.F.Files.told g.F.Files.faults c.load_network.new.files) in
    let came =
    subst
    (λ loaded. may (network_input c.args.network.now) (came_to loaded)) c.in-Found.is c.in_ok-loaded.ensures.came in
    ok_map c.check_text.result
    (λ answer. IsCheck c.as_slice.result.now (reply_of answer))
    (λ answer. IsCommandReply may (Check c.args.network.now) (reply_of answer))
    (λ answer reply. (
      Found c.in-Found.text.items ∷ [],
      (came, tt),
      subst (λ (t : List ℕ). IsCheck t (reply_of answer)) c.as_slice.ensures.value reply,
    )) c.check_text.ensures

pub returns-in-Stopped-clause-reply : goal.returns-in-Stopped-clause-reply
returns-in-Stopped-clause-reply g c =
    let may =
    MayCome (files_seen g.F.Files.told g.F.Files.faults c.args.files.now)
    (files_seen g.F.Files.told g.F.Files.faults c.load_network.new.files) in
    let came =
    subst
    (λ loaded. may (network_input c.args.network.now)
    (came_to loaded)) c.in-Stopped.is c.in_ok-loaded.ensures.came in
    ok_map c.stop_answer.result
    (λ answer. AfterNetwork c.args.network.now (λ text others reply. ⊥) (stopped_by c.in-Stopped.stop ∷ [])
    (reply_of answer))
    (λ answer. IsCommandReply may (Check c.args.network.now) (reply_of answer))
    (λ answer reply. (
      stopped_by c.in-Stopped.stop ∷ [],
      (came, tt),
      after_stop c.args.network.now (λ text others. IsCheck text) (stopped_by c.in-Stopped.stop ∷ [])
          (reply_of answer) reply,
    )) c.stop_answer.ensures
