-- The reply of `format` to a text.
use Rattle.std.specs.Prelude.{◌≡◌, List, ℕ, Result, Ok, Err}
use Rattle.amdl_tree.specs.Layout.{layout_of_tree}
use Rattle.amdl_tree.specs.declared.tree.Tree.{Tree}
use Rattle.network_file.specs.Reading.{IsReadAs}
use Rattle.network_file.specs.declared.reading.ReadRefusal.{ReadRefusal}
use Rattle.amdl_app.specs.Reply.{Reply, says, refuses}
use Rattle.amdl_app.specs.Spelled.{refusal_of}

-- the canonical layout of the tree, or the refusal
abbrev pub formatted : Result Tree ReadRefusal → Reply
formatted (Ok tree) = says 0 (layout_of_tree tree)
formatted (Err refusal) = refuses (refusal_of refusal)

-- the reply to the text of a network within the limit
pub record IsFormatting (bytes : List ℕ) (reply : Reply) : Type 0 where
  pub reading : Result Tree ReadRefusal
  pub read : IsReadAs bytes reading
  pub told : reply ≡ formatted reading
