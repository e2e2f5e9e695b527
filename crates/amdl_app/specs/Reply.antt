-- What a call of the program answers: a status, a text, and perhaps one file that it stores.
use Rattle.std.specs.Prelude.{ℕ, List, Option, None}
use Rattle.plan_text.specs.Messages.{refused_network}
use Rattle.plan_text.specs.declared.refusal.NetworkRefusal.{NetworkRefusal}
use Rattle.schedule_file.specs.Messages.{refused_schedule}
use Rattle.schedule_file.specs.declared.refusal.FileRefusal.{FileRefusal}

pub record Reply : Type 0 where
  pub status : ℕ
  pub text : List ℕ
  -- the name and the bytes of the file
  pub stored : Option (List ℕ × List ℕ)

-- a reply that stores nothing
abbrev pub says : ℕ → List ℕ → Reply
says status text = record { status = status; text = text; stored = None }

-- a reply that refuses the text of a network
abbrev pub refuses : NetworkRefusal → Reply
refuses refusal = says 3 (refused_network refusal)

-- a reply that refuses the text of a schedule
abbrev pub refuses_schedule : FileRefusal → Reply
refuses_schedule refusal = says 3 (refused_schedule refusal)
