-- What contracts see of the lent files and of the lent output, before a call and after it.
use Rattle.std.specs.Prelude.{◌≡◌, ℕ, List, Option, Some}
use Rattle.outside.specs.Files.{FileMap}

-- the files: their map where it is told, and the count of their faults
pub record FilesSeen : Type 0 where
  pub told : Option FileMap
  pub faults : ℕ

-- the output: what was written to it where that is told, and the count of its faults
pub record SinkSeen : Type 0 where
  pub written : Option (List ℕ)
  pub faults : ℕ

pub record Seen : Type 0 where
  pub files : FilesSeen
  pub sink : SinkSeen

-- how they are seen, by what they tell and count
abbrev pub files_seen : {F : Type 0} → (F → Option FileMap) → (F → ℕ) → F → FilesSeen
files_seen told faults files = record { told = told files; faults = faults files }

abbrev pub sink_seen : {S : Type 0} → (S → Option (List ℕ)) → (S → ℕ) → S → SinkSeen
sink_seen written faults out = record { written = written out; faults = faults out }

abbrev pub both_seen : FilesSeen → SinkSeen → Seen
both_seen files sink = record { files = files; sink = sink }

-- where the files are told, this holds of them
abbrev pub WhereTold : FilesSeen → (FileMap → Type 0) → Type 0
WhereTold seen holds = (files : FileMap) → seen.told ≡ Some files → holds files
