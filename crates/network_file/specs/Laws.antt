-- Laws over the definitions.
use Rattle.std.specs.Prelude.{◌≡◌, ◌≤◌, ℕ, List, length, Result, Ok}
use Rattle.amdl_tree.specs.Layout.{layout_of_tree}
use Rattle.amdl_tree.specs.Spelling.{spell}
use Rattle.amdl_tree.specs.WellBuilt.{IsShaped}
use Rattle.amdl_tree.specs.declared.token.Lexed.{Lexed}
use Rattle.amdl_tree.specs.declared.tree.Tree.{Tree}
use Rattle.amdl_lexer.specs.Answer.{IsLexed}
use Rattle.amdl_parser.specs.Answer.{IsTreeAnswer, tokens_of}
use Rattle.network_file.specs.declared.reading.ReadRefusal.{ReadRefusal}
use Rattle.network_file.specs.Reading.{IsReadAs}

-- no text is read in two ways
abbrev pub OneReading : Type 0
OneReading = (text : List ℕ) (one two : Result Tree ReadRefusal) → IsReadAs text one → IsReadAs text two → one ≡ two

-- where the text has at most 4,194,304 bytes and the tree at most 1,000,000 tokens, the text is cut into tokens, which
-- are parsed as the tree
abbrev pub ReadsBack : List ℕ → Tree → Type 0
ReadsBack text tree =
    length text ≤ 4194304 → length (spell tree) ≤ 1000000 →
    (lexeds : List Lexed) × IsLexed text lexeds × IsTreeAnswer (tokens_of lexeds) (Ok tree)

-- so it is with the layout of a shaped tree
abbrev pub LayoutReadsBack : Type 0
LayoutReadsBack = (tree : Tree) → IsShaped tree → ReadsBack (layout_of_tree tree) tree
