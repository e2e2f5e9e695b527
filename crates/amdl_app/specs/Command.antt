-- What the words of a call ask for, and which files that takes.
use Rattle.std.specs.Prelude.{◌≡◌, ℕ, List, [], ◌∷◌, Option, None, Contains, codes}
use Rattle.net_runs.specs.declared.world.Mode.{Mode}
use Rattle.net_runs.specs.declared.world.Mode.TheVariants.{Unordered, Ordered}

-- the rows of the table of words, one case a verb
pub data Command : Type 0 where
  -- analyse the network of a file
  Analyse : List ℕ → Command
  -- check the network of a file
  Check : List ℕ → Command
  -- print the network of a file in its canonical layout
  Format : List ℕ → Command
  -- replay the schedule of the second file on the network of the first, over channels of the mode
  Replay : Mode → List ℕ → List ℕ → Command

-- the verb that replays over channels of the mode
abbrev pub replay_verb : Mode → List ℕ
replay_verb Unordered = codes "replay"
replay_verb Ordered = codes "replay-ordered"

-- the words ask for the command
abbrev pub Asks : List (List ℕ) → Command → Type 0
Asks words (Analyse network) = words ≡ codes "analyse" ∷ network ∷ []
Asks words (Check network) = words ≡ codes "check" ∷ network ∷ []
Asks words (Format network) = words ≡ codes "format" ∷ network ∷ []
Asks words (Replay mode network schedule) = words ≡ replay_verb mode ∷ network ∷ schedule ∷ []

-- the words are no row of the table
abbrev pub AskNothing : List (List ℕ) → Type 0
AskNothing words = (command : Command) → Asks words command → ⊥

-- a file that is loaded: its name, and the most bytes that it may have
pub record Input : Type 0 where
  pub name : List ℕ
  pub limit : ℕ

-- the text of a network or of a schedule
abbrev pub text_limit : ℕ
text_limit = 4194304

abbrev pub text_input : List ℕ → Input
text_input name = record { name = name; limit = text_limit }

abbrev pub network_input : List ℕ → Input
network_input name = text_input name

abbrev pub schedule_input : List ℕ → Input
schedule_input name = text_input name

-- the files that a command loads, in their order
abbrev pub inputs_of : Command → List Input
inputs_of (Analyse network) = network_input network ∷ []
inputs_of (Check network) = network_input network ∷ []
inputs_of (Format network) = network_input network ∷ []
inputs_of (Replay mode network schedule) = network_input network ∷ schedule_input schedule ∷ []

-- the name of the file that it stores
abbrev pub stored_name_of : Command → Option (List ℕ)
stored_name_of (Analyse network) = None
stored_name_of (Check network) = None
stored_name_of (Format network) = None
stored_name_of (Replay mode network schedule) = None

-- the words ask for a command that loads a file of this name
pub record LoadsFile (words : List (List ℕ)) (name : List ℕ) : Type 0 where
  pub command : Command
  pub asks : Asks words command
  pub input : Input
  pub loads : Contains (inputs_of command) input
  pub named : input.name ≡ name

-- they ask for no command that loads or stores a file
abbrev pub UseNoFile : List (List ℕ) → Type 0
UseNoFile words = (command : Command) → Asks words command → (inputs_of command ≡ []) × (stored_name_of command ≡ None)
