-- What loading a file comes to.
use Rattle.std.specs.Prelude.{◌≡◌, ℕ, ◌≤◌, List, [], ◌∷◌, length, Some, None}
use Rattle.outside.specs.Faults.{Rose}
use Rattle.outside.specs.Files.{FileMap, file_of, LacksFile, IsLonger}
use Rattle.amdl_app.specs.Command.{Input}
use Rattle.amdl_app.specs.Seen.{FilesSeen, WhereTold}

pub data Loaded : Type 0 where
  -- the file has these bytes, not too many
  Found : List ℕ → Loaded
  -- it has too many
  Over : Loaded
  -- there is no such file
  Lacking : Loaded
  -- the outside failed
  Failed : Loaded

-- what a map tells that it comes to
abbrev pub Tells : FileMap → Input → Loaded → Type 0
Tells files input (Found text) = (length text ≤ input.limit) × (file_of files input.name ≡ Some text)
Tells files input Over = IsLonger (file_of files input.name) input.limit
Tells files input Lacking = file_of files input.name ≡ None
Tells files input Failed = ⊥

-- what it may come to in a call: what the map tells where it is told, and a failure, or an absence that no map tells,
-- only where the count of faults rose
abbrev pub MayCome : FilesSeen → FilesSeen → Input → Loaded → Type 0
MayCome before after input (Found text) =
    (length text ≤ input.limit) × WhereTold before (λ files. file_of files input.name ≡ Some text)
MayCome before after input Over = WhereTold before (λ files. IsLonger (file_of files input.name) input.limit)
MayCome before after input Lacking = LacksFile before.told input.name before.faults after.faults
MayCome before after input Failed = Rose before.faults after.faults

-- so it is of each file in turn
abbrev pub EachComes : (Input → Loaded → Type 0) → List Input → List Loaded → Type 0
EachComes comes [] [] = Unit {0}
EachComes comes (input ∷ inputs) (loaded ∷ others) = comes input loaded × EachComes comes inputs others
EachComes comes inputs all = ⊥
