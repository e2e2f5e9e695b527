-- The sign at the front of a text.
use Rattle.std.specs.Prelude.{◌≡◌, ◌≢◌, ◌≤◌, ℕ, List, ◌++◌, length}
use Rattle.amdl_tree.specs.Token.{spelling_of_sign}
use Rattle.amdl_tree.specs.declared.token.Sign.{Sign}

abbrev pub StartsNoSign : List ℕ → Type 0
StartsNoSign text = (sign : Sign) (rest : List ℕ) → text ≢ spelling_of_sign sign ++ rest

-- the text begins with this sign, and with none that is longer
pub record IsLongestSign (text : List ℕ) (sign : Sign) : Type 0 where
  pub rest : List ℕ
  pub whole : text ≡ spelling_of_sign sign ++ rest
  pub longest : (other : Sign) (behind : List ℕ) → text ≡ spelling_of_sign other ++ behind →
      length (spelling_of_sign other) ≤ length (spelling_of_sign sign)
