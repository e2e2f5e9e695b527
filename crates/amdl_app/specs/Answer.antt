-- What the words of a call come to, given what its loads come to.
use Rattle.std.specs.Prelude.{◌≡◌, ℕ, List, [], ◌∷◌}
use Rattle.outside.specs.Files.{FileMap}
use Rattle.plan_text.specs.Messages.{usage_text, missing_text, fault_load_text}
use Rattle.plan_text.specs.declared.refusal.NetworkRefusal.TheVariants.{TooLong}
use Rattle.amdl_app.specs.Reply.{Reply, says, refuses}
use Rattle.amdl_app.specs.Command.{Command, Analyse, Check, Format, Replay, Asks, AskNothing, Input, inputs_of}
use Rattle.amdl_app.specs.Loaded.{Loaded, Found, Over, Lacking, Failed, Tells, EachComes}
use Rattle.amdl_app.specs.Report.{IsAnalysis}
use Rattle.amdl_app.specs.Counts.{IsCheck}
use Rattle.amdl_app.specs.Formatting.{IsFormatting}
use Rattle.amdl_app.specs.Replaying.{IsReplay}

-- the reply after the file of a network was to be loaded, given the reply to its text and to the loads behind it
abbrev pub AfterNetwork : List ℕ → (List ℕ → List Loaded → Reply → Type 0) → List Loaded → Reply → Type 0
AfterNetwork name goes_on [] reply = ⊥
AfterNetwork name goes_on (Found text ∷ others) reply = goes_on text others reply
AfterNetwork name goes_on (Over ∷ others) reply = reply ≡ refuses TooLong
AfterNetwork name goes_on (Lacking ∷ others) reply = reply ≡ says 4 (missing_text name)
AfterNetwork name goes_on (Failed ∷ others) reply = reply ≡ says 4 (fault_load_text name)

-- the reply to a command whose loads come to these, one case a verb
abbrev pub IsReplyTo : Command → List Loaded → Reply → Type 0
IsReplyTo (Analyse network) = AfterNetwork network (λ text others. IsAnalysis text)
IsReplyTo (Check network) = AfterNetwork network (λ text others. IsCheck text)
IsReplyTo (Format network) = AfterNetwork network (λ text others. IsFormatting text)
IsReplyTo (Replay mode network schedule) = AfterNetwork network (λ text others. IsReplay mode schedule text others)

-- the reply to a command, given one outcome of each of its loads, where it is told what a load may come to
abbrev pub IsCommandReply : (Input → Loaded → Type 0) → Command → Reply → Type 0
IsCommandReply comes command reply =
    (loads : List Loaded) × EachComes comes (inputs_of command) loads × IsReplyTo command loads reply

-- the reply to words
pub data IsReply (comes : Input → Loaded → Type 0) (words : List (List ℕ)) (reply : Reply) : Type 0 where
  -- words that are no row of the table get the usage, and load nothing
  unasked : AskNothing words → reply ≡ says 2 usage_text → IsReply comes words reply
  -- others what their command asks for
  asked : (command : Command) → Asks words command → IsCommandReply comes command reply → IsReply comes words reply

-- the answer to words over files that are told and don't fail
abbrev pub IsAnswer : List (List ℕ) → FileMap → Reply → Type 0
IsAnswer words files = IsReply (Tells files) words
