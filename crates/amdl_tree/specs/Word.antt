-- Words, names and reserved words.
use Rattle.std.specs.Prelude.{◌≡◌, ◌≢◌, ◌≤◌, ℕ, Bool, true, ◌&&◌, ◌||◌, false, nat_le, ◌==◌, List, [], ◌∷◌, length}
use Rattle.std.specs.Prelude.{codes}
use Rattle.std.specs.List.{list_all}
use Rattle.amdl_tree.specs.declared.reserved.Reserved.{Reserved}
use Rattle.amdl_tree.specs.declared.reserved.Reserved.TheVariants.{Network, Kind, Field, Middlebox, Port, Relation, On}
use Rattle.amdl_tree.specs.declared.reserved.Reserved.TheVariants.{Host, Box, With, Link, Sends, Forbid, Insert, Remove}
use Rattle.amdl_tree.specs.declared.reserved.Reserved.TheVariants.{Output, Abort, If, Fi, Pick, In, Has, Not, And, Or}
use Rattle.amdl_tree.specs.declared.reserved.Reserved.TheVariants.{True, Add, Drop, Swap, Verdict, Invariant}

-- an ASCII letter or an underscore starts a word
abbrev pub starts_word : ℕ → Bool
starts_word byte = (nat_le 65 byte && nat_le byte 90) || (nat_le 97 byte && nat_le byte 122) || (byte == 95)

-- and a decimal digit may go on with it
abbrev pub goes_on_with_word : ℕ → Bool
goes_on_with_word byte = starts_word byte || (nat_le 48 byte && nat_le byte 57)

-- a word of any length
abbrev pub IsWord : List ℕ → Type 0
IsWord [] = ⊥
IsWord (first ∷ others) = (starts_word first ≡ true) × (list_all goes_on_with_word others ≡ true)

-- how a reserved word is spelled
abbrev pub spelling_of_reserved : Reserved → List ℕ
spelling_of_reserved Network = codes "network"
spelling_of_reserved Kind = codes "type"
spelling_of_reserved Field = codes "field"
spelling_of_reserved Middlebox = codes "middlebox"
spelling_of_reserved Port = codes "port"
spelling_of_reserved Relation = codes "relation"
spelling_of_reserved On = codes "on"
spelling_of_reserved Host = codes "host"
spelling_of_reserved Box = codes "box"
spelling_of_reserved With = codes "with"
spelling_of_reserved Link = codes "link"
spelling_of_reserved Sends = codes "sends"
spelling_of_reserved Forbid = codes "forbid"
spelling_of_reserved Insert = codes "insert"
spelling_of_reserved Remove = codes "remove"
spelling_of_reserved Output = codes "output"
spelling_of_reserved Abort = codes "abort"
spelling_of_reserved If = codes "if"
spelling_of_reserved Fi = codes "fi"
spelling_of_reserved Pick = codes "pick"
spelling_of_reserved In = codes "in"
spelling_of_reserved Has = codes "has"
spelling_of_reserved Not = codes "not"
spelling_of_reserved And = codes "and"
spelling_of_reserved Or = codes "or"
spelling_of_reserved True = codes "true"
spelling_of_reserved Add = codes "add"
spelling_of_reserved Drop = codes "drop"
spelling_of_reserved Swap = codes "swap"
spelling_of_reserved Verdict = codes "verdict"
spelling_of_reserved Invariant = codes "invariant"

-- a name is a word of at most 24 bytes that is not reserved
pub record IsName (bytes : List ℕ) : Type 0 where
  pub word : IsWord bytes
  pub short : length bytes ≤ 24
  pub free : (reserved : Reserved) → bytes ≢ spelling_of_reserved reserved

-- what a word may stand in front of: nothing, or a byte that does not go on with it
abbrev pub EndsWord : List ℕ → Type 0
EndsWord [] = Unit {0}
EndsWord (byte ∷ bytes) = goes_on_with_word byte ≡ false
