-- What a call on files does to a buffer and to the map of the files' bytes, where that map is told.
use Rattle.std.specs.Prelude.{◌≡◌, ◌≢◌, ℕ, ◌+◌, ◌<◌, ◌≤◌, List, [], ◌++◌, length, ◌⊎◌, Option, Some, None, unwrap_or}
use Rattle.std.specs.Option.{option_map}
use Rattle.std.specs.Ordering.{nat_cmp}
use Rattle.std.specs.Cmp.Lexicographic.{slice_cmp}
use Rattle.std.specs.FinMap.{FinMap, get, insert, code}
use Rattle.std.specs.Coded.{Coded, coded_ℕ, coded_list}
use Rattle.outside.specs.Faults.{Rose}

-- files: a finite map from names to bytes, a name being the bytes of its text
abbrev pub FileMap : Type 0
FileMap = FinMap (slice_cmp nat_cmp) (List ℕ)

-- how a map of files is coded
abbrev pub coded_files : Coded FileMap
coded_files = code (coded_list coded_ℕ) (coded_list coded_ℕ)

-- the bytes under a name, or None where there is no such file
abbrev pub file_of : FileMap → List ℕ → Option (List ℕ)
file_of files name = get files name

-- the bytes under a name; an absent file has none
abbrev pub bytes_of : FileMap → List ℕ → List ℕ
bytes_of files name = unwrap_or (file_of files name) []

-- the files once the name holds these bytes; every other name is as before
abbrev pub with_file : FileMap → List ℕ → List ℕ → FileMap
with_file files name bytes = insert files name bytes

-- the same of a map that may be untold
abbrev pub with_known_file : Option FileMap → List ℕ → List ℕ → Option FileMap
with_known_file told name bytes = option_map (λ files. with_file files name bytes) told

-- the bytes begin with `front`
abbrev pub IsFront : List ℕ → List ℕ → Type 0
IsFront front bytes = (rest : List ℕ) × (bytes ≡ front ++ rest)

-- there is a file, and it is longer than `limit`
abbrev pub IsLonger : Option (List ℕ) → ℕ → Type 0
IsLonger file limit = (bytes : List ℕ) × (file ≡ Some bytes) × (limit < length bytes)

-- a load that is Ok: the whole file was added to the buffer, and at most `limit` bytes
pub record HasLoaded (told : Option FileMap) (name : List ℕ) (limit : ℕ) (before after : List ℕ) : Type 0 where
  pub added : List ℕ
  pub appended : after ≡ before ++ added
  pub within : length added ≤ limit
  pub whole : (files : FileMap) → told ≡ Some files → file_of files name ≡ Some added

-- a load that misses its file: the map has no such name; where no map is told, the count of faults rose
pub record LacksFile (told : Option FileMap) (name : List ℕ) (before now : ℕ) : Type 0 where
  pub absent : (files : FileMap) → told ≡ Some files → file_of files name ≡ None
  pub untold : told ≡ None → Rose before now

-- a load whose file is too long: it is longer than `limit`; where no map is told, the buffer grew by exactly `limit`
-- bytes
pub record IsOverLimit (told : Option FileMap) (name : List ℕ) (limit : ℕ) (before after : List ℕ) : Type 0 where
  pub longer : (files : FileMap) → told ≡ Some files → IsLonger (file_of files name) limit
  pub untold : told ≡ None → length after ≡ length before + limit

-- a load that ended in an error: the buffer holds what it held, perhaps followed by a front of the file;
-- where no map is told, at most `limit` bytes were added
pub record HasPartly (told : Option FileMap) (name : List ℕ) (limit : ℕ) (before after : List ℕ) : Type 0 where
  pub added : List ℕ
  pub appended : after ≡ before ++ added
  pub front : (files : FileMap) → told ≡ Some files → IsFront added (bytes_of files name)
  pub untold : told ≡ None → length added ≤ limit

-- a store that failed: the name holds what it held or a front of the bytes, and every other name is as before
abbrev pub StoresFront : Option FileMap → Option FileMap → List ℕ → List ℕ → Type 0
StoresFront old new name bytes =
    (new ≡ old) ⊎ ((front : List ℕ) × IsFront front bytes × (new ≡ with_known_file old name front))

-- a file that is set is there, and every other name is as before
abbrev pub SetsOneFile : Type 0
SetsOneFile =
    (files : FileMap) (name bytes : List ℕ) → (file_of (with_file files name bytes) name ≡ Some bytes)
    × ((other : List ℕ) → other ≢ name → file_of (with_file files name bytes) other ≡ file_of files other)
