-- What stands at the front of a text.
use Rattle.std.specs.Prelude.{◌≤◌, ◌<◌, ℕ, List, length, take, drop}
use Rattle.amdl_tree.specs.Token.{SpellsToken}
use Rattle.amdl_tree.specs.Lexical.{IsGap, IsLongest}
use Rattle.amdl_lexer.specs.Answer.{StartsNothing, StartsOverlong}
use Rattle.amdl_lexer.specs.declared.front.Front.{Front}
use Rattle.amdl_lexer.specs.declared.front.Front.TheVariants.{Gap, Good, Overlong, Nothing}

-- it is cut behind this many bytes, of which there is one at least
pub record Cuts (text : List ℕ) (size : ℕ) : Type 0 where
  pub some : 0 < size
  pub within : size ≤ length text

abbrev pub IsFront : List ℕ → Front → Type 0
IsFront text (Gap size) = Cuts text size × IsGap (take size text) (drop size text)
IsFront text (Good token size) =
    Cuts text size × SpellsToken token (take size text) × IsLongest (take size text) (drop size text)
IsFront text Overlong = StartsOverlong text
IsFront text Nothing = StartsNothing text
