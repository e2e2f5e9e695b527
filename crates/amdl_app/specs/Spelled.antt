-- What the text of a network comes to: the plan that it spells, or why it is refused.
use Rattle.std.specs.Prelude.{◌≡◌, ℕ, List, Result, Ok, Err}
use Rattle.amdl_tree.specs.declared.tree.Tree.{Tree}
use Rattle.net_plan.specs.declared.plan.Plan.{Plan}
use Rattle.tree_rules.specs.declared.rule.Rule.{Rule}
use Rattle.tree_rules.specs.Checked.{IsRefusedAt}
use Rattle.amdl_check.specs.Checking.{IsNetworkOf}
use Rattle.network_file.specs.Reading.{IsReadAs}
use Rattle.network_file.specs.declared.reading.ReadRefusal.{ReadRefusal}
use Rattle.network_file.specs.declared.reading.ReadRefusal.TheVariants as read
use Rattle.plan_text.specs.declared.refusal.NetworkRefusal.{NetworkRefusal}
use Rattle.plan_text.specs.declared.refusal.NetworkRefusal.TheVariants as text

-- why the text of a network is refused that is no network file
abbrev pub refusal_of : ReadRefusal → NetworkRefusal
refusal_of (read.BadByte at) = text.BadByte at
refusal_of (read.WordTooLong at) = text.WordTooLong at
refusal_of read.TooManyTokens = text.TooManyTokens
refusal_of (read.Syntax at) = text.Syntax at
refusal_of (read.Deep at) = text.Deep at

-- what the items of a tree come to
pub data IsCheckedAs (tree : Tree) (found : Result Plan NetworkRefusal) : Type 0 where
  -- a rule holds of one
  broken : (item : ℕ) (rule : Rule) → IsRefusedAt tree.items item rule → found ≡ Err (text.BrokenRule item rule) →
      IsCheckedAs tree found
  -- they are well formed, and spell a sound plan
  formed : (plan : Plan) → IsNetworkOf tree plan → found ≡ Ok plan → IsCheckedAs tree found

-- what a text within the limit comes to
pub data ComesTo (bytes : List ℕ) (found : Result Plan NetworkRefusal) : Type 0 where
  -- it is no network file
  unread : (refusal : ReadRefusal) → IsReadAs bytes (Err refusal) → found ≡ Err (refusal_of refusal) →
      ComesTo bytes found
  -- it is the file of a tree
  checked : (tree : Tree) → IsReadAs bytes (Ok tree) → IsCheckedAs tree found → ComesTo bytes found
