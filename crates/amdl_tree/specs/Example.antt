-- A small tree and its text.
use Rattle.std.specs.Prelude.{ℕ, List, [], ◌∷◌, ◌++◌, codes}
use Rattle.amdl_tree.specs.Layout.{line}
use Rattle.amdl_tree.specs.Spelling.{word, key, mark}
use Rattle.amdl_tree.specs.declared.token.Token.{Token}
use Rattle.amdl_tree.specs.declared.token.Sign.TheVariants as signs
use Rattle.amdl_tree.specs.declared.reserved.Reserved.TheVariants as words
use Rattle.amdl_tree.specs.declared.tree.Equal.{Equal}
use Rattle.amdl_tree.specs.declared.tree.End.TheVariants.{Host as AtHost}
use Rattle.amdl_tree.specs.declared.tree.Item.TheVariants.{Kind, Field, Host, Link, Sends, Forbid}
use Rattle.amdl_tree.specs.declared.tree.Tree.{Tree}

-- that a field has a value
abbrev pub equal : List ℕ → List ℕ → Equal
equal field value = record { field = field; value = value }

-- two hosts on one wire
abbrev pub wire : Tree
wire = record {
  name = codes "wire";
  items =
      Kind (codes "Addr") (codes "a" ∷ codes "b" ∷ [])
      ∷ Field (codes "src") (codes "Addr")
      ∷ Field (codes "dst") (codes "Addr")
      ∷ Host (codes "p")
      ∷ Host (codes "q")
      ∷ Link (AtHost (codes "p")) (AtHost (codes "q"))
      ∷ Sends (codes "p") (equal (codes "src") (codes "a") ∷ [])
      ∷ Forbid (codes "q") (equal (codes "src") (codes "a") ∷ equal (codes "dst") (codes "b") ∷ [])
      ∷ [];
}

abbrev pub text_of_wire : List ℕ
text_of_wire =
    line (codes "network wire;")
    ++ line (codes "type Addr = {a, b};")
    ++ line (codes "field src : Addr;")
    ++ line (codes "field dst : Addr;")
    ++ line (codes "host p;")
    ++ line (codes "host q;")
    ++ line (codes "link p -- q;")
    ++ line (codes "sends p : src = a;")
    ++ line (codes "forbid q : src = a, dst = b;")

abbrev pub tokens_of_wire : List Token
tokens_of_wire =
    key words.Network ++ word (codes "wire") ++ mark signs.Semicolon
    ++ key words.Kind ++ word (codes "Addr") ++ mark signs.Equals ++ mark signs.OpenBrace ++ word (codes "a")
    ++ mark signs.Comma ++ word (codes "b") ++ mark signs.CloseBrace ++ mark signs.Semicolon
    ++ key words.Field ++ word (codes "src") ++ mark signs.Colon ++ word (codes "Addr") ++ mark signs.Semicolon
    ++ key words.Field ++ word (codes "dst") ++ mark signs.Colon ++ word (codes "Addr") ++ mark signs.Semicolon
    ++ key words.Host ++ word (codes "p") ++ mark signs.Semicolon
    ++ key words.Host ++ word (codes "q") ++ mark signs.Semicolon
    ++ key words.Link ++ word (codes "p") ++ mark signs.Dashes ++ word (codes "q") ++ mark signs.Semicolon
    ++ key words.Sends ++ word (codes "p") ++ mark signs.Colon ++ word (codes "src") ++ mark signs.Equals
    ++ word (codes "a") ++ mark signs.Semicolon
    ++ key words.Forbid ++ word (codes "q") ++ mark signs.Colon ++ word (codes "src") ++ mark signs.Equals
    ++ word (codes "a")
    ++ mark signs.Comma ++ word (codes "dst") ++ mark signs.Equals ++ word (codes "b") ++ mark signs.Semicolon

-- a tree that no text spells: a type without values
abbrev pub valueless : Tree
valueless = record { name = codes "none"; items = Kind (codes "Addr") [] ∷ [] }
