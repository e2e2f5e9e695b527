-- What a call of the program promises, over the words, what is seen of files and output before and after it, and the
-- status.
use Rattle.std.specs.Prelude.{◌≡◌, ◌≢◌, ℕ, ◌≤◌, ◌⊎◌, List, ◌++◌, length, map, Some, Result, Ok, Err}
use Rattle.std.specs.String.{string_bytes}
use Rattle.std.specs.declared.string.String.{String}
use Rattle.std.specs.declared.alloc.Global.{Global}
use Rattle.std.specs.Io.KnownBytes.{append_known}
use Rattle.amdl_tree.specs.declared.tree.Tree.{Tree}
use Rattle.net_plan.specs.declared.plan.Plan.{Plan}
use Rattle.net_runs.specs.World.{HasNoBadRun}
use Rattle.net_runs.specs.declared.world.Mode.{Mode}
use Rattle.tree_plan.specs.Net.{net}
use Rattle.tree_rules.specs.Checked.{IsWellFormed}
use Rattle.amdl_check.specs.Checking.{IsNetworkOf}
use Rattle.network_file.specs.Reading.{IsReadAs}
use Rattle.outside.specs.Faults.{Rose}
use Rattle.outside.specs.Files.{FileMap, file_of, LacksFile}
use Rattle.outside.specs.Sink.{AppendsFront}
use Rattle.plan_text.specs.Messages.{usage_text, refused_network, missing_text, fault_load_text}
use Rattle.plan_text.specs.Prints.{PrintsSafe}
use Rattle.plan_text.specs.Text.{counts_of}
use Rattle.plan_text.specs.declared.refusal.NetworkRefusal.{NetworkRefusal}
use Rattle.concrete_net.specs.declared.refusal.StepRefusal.{StepRefusal}
use Rattle.schedule_file.specs.Messages.{refused_step}
use Rattle.schedule_file.specs.declared.refusal.FileRefusal.{FileRefusal}
use Rattle.amdl_app.specs.Reply.{Reply, says, refuses, refuses_schedule}
use Rattle.amdl_app.specs.Command.{Analyse, Check, Replay, Asks, AskNothing, LoadsFile, UseNoFile, text_limit}
use Rattle.amdl_app.specs.Counts.{counted}
use Rattle.amdl_app.specs.Report.{HasNoBad, HasBad}
use Rattle.amdl_app.specs.Answer.{IsAnswer}
use Rattle.amdl_app.specs.Seen.{Seen, WhereTold}
use Rattle.amdl_app.specs.Spelled.{ComesTo}

-- the words as lists of bytes
abbrev pub spelled : List (String Global) → List (List ℕ)
spelled words = map string_bytes words

-- the whole text was appended to the output
abbrev pub Appends : Seen → Seen → List ℕ → Type 0
Appends before after text = after.sink.written ≡ append_known before.sink.written text

-- a front of it was appended
abbrev pub AppendsFrontOf : Seen → Seen → List ℕ → Type 0
AppendsFrontOf before after text = AppendsFront before.sink.written after.sink.written text

-- the count of faults of the files rose in the call, and that of the output
abbrev pub FilesFailed : Seen → Seen → Type 0
FilesFailed before after = Rose before.files.faults after.files.faults

abbrev pub SinkFailed : Seen → Seen → Type 0
SinkFailed before after = Rose before.sink.faults after.sink.faults

-- there is an answer, and the status and the appended bytes are its own
pub record GivesAnswer (words : List (List ℕ)) (files : FileMap) (before after : Seen) (status : ℕ) : Type 0 where
  pub reply : Reply
  pub answer : IsAnswer words files reply
  pub status_is : status ≡ reply.status
  pub text_is : Appends before after reply.text

-- a status of 0 to 3 is the answer's, and so are the bytes
abbrev pub AnswersUpToThree : List (List ℕ) → Seen → Seen → ℕ → Type 0
AnswersUpToThree words before after status =
    status ≤ 3 → WhereTold before.files (λ files. GivesAnswer words files before after status)

-- where no count rose and memory sufficed, status and bytes are the answer's
abbrev pub AnswersUnhindered : List (List ℕ) → Seen → Seen → ℕ → Type 0
AnswersUnhindered words before after status =
    ¬ FilesFailed before after → ¬ SinkFailed before after → status ≢ 6 →
    WhereTold before.files (λ files. GivesAnswer words files before after status)

-- words that use no file leave the count of the files' faults as it was
abbrev pub UnusedIsQuiet : List (List ℕ) → Seen → Seen → Type 0
UnusedIsQuiet words before after = UseNoFile words → after.files.faults ≡ before.files.faults

-- status 2 comes only where the words are no row of the table, and the usage is all that is appended
pub record UsageIsRight (words : List (List ℕ)) (before after : Seen) (status : ℕ) : Type 0 where
  pub only : status ≡ 2 → AskNothing words
  pub text : status ≡ 2 → Appends before after usage_text
  -- where they are no row, a front of the usage is appended at each status, and the status is 2, 5 or 6
  pub cut : AskNothing words → AppendsFrontOf before after usage_text
  pub statuses : AskNothing words → (status ≡ 2) ⊎ ((status ≡ 5) ⊎ (status ≡ 6))

-- the words ask for a replay
abbrev pub AskReplay : List (List ℕ) → Type 0
AskReplay words =
    (mode : Mode) × (network : List ℕ) × (schedule : List ℕ) × Asks words (Replay mode network schedule)

-- the reply refuses a text that the words load: that of a network, or where they ask for a replay that of a schedule
-- or, behind lines on the steps before it, a step of the schedule
pub data IsRefusal (words : List (List ℕ)) (reply : Reply) : Type 0 where
  of_network : (refusal : NetworkRefusal) → reply ≡ refuses refusal → IsRefusal words reply
  of_schedule : AskReplay words → (refusal : FileRefusal) → reply ≡ refuses_schedule refusal → IsRefusal words reply
  of_step : AskReplay words → (lines : List ℕ) (k : ℕ) (why : StepRefusal) →
      reply ≡ says 3 (lines ++ refused_step k why) → IsRefusal words reply

-- the answer refuses one
abbrev pub HasRefusal : List (List ℕ) → FileMap → Type 0
HasRefusal words files = (reply : Reply) × IsRefusal words reply × IsAnswer words files reply

-- status 3 comes only there, and there the status is 3, 4, 5 or 6
pub record RefusalIsRight (words : List (List ℕ)) (before : Seen) (status : ℕ) : Type 0 where
  pub only : status ≡ 3 → WhereTold before.files (HasRefusal words)
  pub statuses : WhereTold before.files (λ files. HasRefusal words files → (3 ≤ status) × (status ≤ 6))

-- a file that the words load is missing, or loading it failed, and that is all that is appended
pub data IsFileFault (words : List (List ℕ)) (before after : Seen) : Type 0 where
  lacks : (name : List ℕ) → LoadsFile words name →
      LacksFile before.files.told name before.files.faults after.files.faults →
      Appends before after (missing_text name) → IsFileFault words before after
  fails : (name : List ℕ) → LoadsFile words name → FilesFailed before after →
      Appends before after (fault_load_text name) → IsFileFault words before after

pub record FileFaultIsRight (words : List (List ℕ)) (before after : Seen) (status : ℕ) : Type 0 where
  -- one whole text is appended
  pub text : status ≡ 4 → IsFileFault words before after
  -- without a fault of the files it is the answer's
  pub answer : status ≡ 4 → ¬ FilesFailed before after →
      WhereTold before.files (λ files. GivesAnswer words files before after status)

-- status 5 comes only where the count of the output's faults rose
abbrev pub SinkFaultIsRight : Seen → Seen → ℕ → Type 0
SinkFaultIsRight before after status = status ≡ 5 → SinkFailed before after

-- what a reply that was cut short has appended: nothing, a front of the answer's text, or where the files failed a
-- front of the text that says so
pub data IsCut (words : List (List ℕ)) (files : FileMap) (before after : Seen) : Type 0 where
  nothing : after.sink.written ≡ before.sink.written → IsCut words files before after
  part : (reply : Reply) → IsAnswer words files reply → AppendsFrontOf before after reply.text →
      IsCut words files before after
  fault : FilesFailed before after → (name : List ℕ) → LoadsFile words name →
      AppendsFrontOf before after (fault_load_text name) → IsCut words files before after

abbrev pub CutsAreFronts : List (List ℕ) → Seen → Seen → ℕ → Type 0
CutsAreFronts words before after status = 5 ≤ status → WhereTold before.files (λ files. IsCut words files before after)

-- the call says SAFE: by its status, or by a front of three lines in what it appended
abbrev pub CallSaysSafe : Seen → Seen → ℕ → Type 0
CallSaysSafe before after status =
    (status ≡ 0)
    ⊎ ((old : List ℕ) × (appended : List ℕ) × (before.sink.written ≡ Some old)
    × (after.sink.written ≡ Some (old ++ appended)) × PrintsSafe appended)

-- the text is the file of a well-formed tree, and the network that it spells has no derivation that ends in a bad fact,
-- and no run with a bad event: no finite list of sends, deliveries and reverts, in any order, over unordered or ordered
-- channels
pub record IsSafeText (text : List ℕ) : Type 0 where
  pub tree : Tree
  pub plan : Plan
  pub file : IsReadAs text (Ok tree)
  pub network : IsNetworkOf tree plan
  pub no_bad_fact : HasNoBad plan
  pub no_bad_run : HasNoBadRun plan

-- SAFE is said only of such files
abbrev pub SafeOnly : List (List ℕ) → Seen → Seen → ℕ → Type 0
SafeOnly words before after status =
    (network : List ℕ) → Asks words (Analyse network) → CallSaysSafe before after status →
    WhereTold before.files (λ files. (text : List ℕ) × (file_of files network ≡ Some text) × IsSafeText text)

-- what the status of `analyse` says of the network that a file spells: 0 exactly where no derivation ends in a bad fact,
-- 1 exactly where one does, and never 3; the statuses 4 to 6 say nothing of it
pub record StatusIsRight (plan : Plan) (status : ℕ) : Type 0 where
  pub safe : status ≡ 0 → HasNoBad plan
  pub alarm : status ≡ 1 → HasBad plan
  pub known : status ≤ 3 → status ≤ 1

-- what `analyse` promises of a text within the limit: a status up to 3 is that of its refusal, or is right of the
-- network that it spells
pub record AnalysisIsRight (text : List ℕ) (before after : Seen) (status : ℕ) : Type 0 where
  pub refused : (refusal : NetworkRefusal) → ComesTo text (Err refusal) → status ≤ 3 →
      (status ≡ 3) × Appends before after (refused_network refusal)
  pub analysed : (tree : Tree) (plan : Plan) → IsReadAs text (Ok tree) → IsWellFormed tree.items →
      net tree ≡ Some plan → StatusIsRight plan status

abbrev pub SafeIf : List (List ℕ) → Seen → Seen → ℕ → Type 0
SafeIf words before after status =
    (network : List ℕ) → Asks words (Analyse network) → WhereTold before.files (λ files.
    (text : List ℕ) → file_of files network ≡ Some text → length text ≤ text_limit →
    AnalysisIsRight text before after status)

-- the text is the file of a well-formed tree, and the counts of the network that it spells are all that is appended
pub record IsCountedText (before after : Seen) (text : List ℕ) : Type 0 where
  pub tree : Tree
  pub plan : Plan
  pub file : IsReadAs text (Ok tree)
  pub network : IsNetworkOf tree plan
  pub counts : Appends before after (counts_of plan)

-- `check` has status 0 only where the file is so
abbrev pub CountsOnly : List (List ℕ) → Seen → Seen → ℕ → Type 0
CountsOnly words before after status =
    (network : List ℕ) → Asks words (Check network) → status ≡ 0 →
    WhereTold before.files (λ files.
    (text : List ℕ) × (file_of files network ≡ Some text) × IsCountedText before after text)

-- and of each file within the limit, what it comes to decides the status, which is 0 or 3, or 4 to 6, and with 0 and 3
-- what is appended
abbrev pub CountsIf : List (List ℕ) → Seen → Seen → ℕ → Type 0
CountsIf words before after status =
    (network : List ℕ) → Asks words (Check network) → WhereTold before.files (λ files.
    (text : List ℕ) → file_of files network ≡ Some text → length text ≤ text_limit →
    (found : Result Plan NetworkRefusal) → ComesTo text found → status ≤ 3 →
    (status ≡ (counted found).status) × Appends before after (counted found).text)
