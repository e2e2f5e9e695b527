-- What a list of kept files means as a map.
use Rattle.std.specs.Prelude.{List, ℕ, Option, map}
use Rattle.std.specs.Ordering.{nat_cmp}
use Rattle.std.specs.Cmp.Lexicographic.{slice_cmp}
use Rattle.std.specs.FinMap.{from_entries, find}
use Rattle.outside.specs.declared.keeping.Kept.{Kept}
use Rattle.outside.specs.Files.{FileMap}

-- a kept file as its name and its bytes
abbrev pub entry_of : Kept → List ℕ × List ℕ
entry_of kept = (kept.name.items, kept.bytes.items)

-- the files of a list, in which the first entry of a name counts
abbrev pub files_of : List Kept → FileMap
files_of kept = from_entries (map entry_of kept)

-- the bytes of the first entry of a name
abbrev pub first_file : List Kept → List ℕ → Option (List ℕ)
first_file kept name = find (slice_cmp nat_cmp) name (map entry_of kept)
