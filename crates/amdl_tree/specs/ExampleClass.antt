-- A tree with a class and a box, its spelling, its depth and its layout.
use Rattle.std.specs.Prelude.{ℕ, List, [], ◌∷◌, ◌++◌, codes}
use Rattle.amdl_tree.specs.Layout.{line}
use Rattle.amdl_tree.specs.Example.{equal}
use Rattle.amdl_tree.specs.Spelling.{word, key, mark}
use Rattle.amdl_tree.specs.declared.token.Token.{Token}
use Rattle.amdl_tree.specs.declared.token.Sign.TheVariants as signs
use Rattle.amdl_tree.specs.declared.reserved.Reserved.TheVariants as words
use Rattle.amdl_tree.specs.declared.guard.Atom.{Atom}
use Rattle.amdl_tree.specs.declared.guard.Guard.{Guard}
use Rattle.amdl_tree.specs.declared.guard.Lit.{Lit}
use Rattle.amdl_tree.specs.declared.guard.Lit.TheVariants.{True, Has, Same, Differ, Not, Group}
use Rattle.amdl_tree.specs.declared.statement.Alternative.{Alternative}
use Rattle.amdl_tree.specs.declared.statement.Stmt.{Stmt}
use Rattle.amdl_tree.specs.declared.statement.Stmt.TheVariants.{Insert, Remove, Abort, Output, Choose, Pick}
use Rattle.amdl_tree.specs.declared.class.Class.{Class}
use Rattle.amdl_tree.specs.declared.tree.Item.TheVariants.{Class as OfClass, Instance}
use Rattle.amdl_tree.specs.declared.tree.Tree.{Tree}

-- a relation and two names in parentheses
abbrev pub atom : List ℕ → List ℕ → List ℕ → Atom
atom relation one two = record { relation = relation; args = one ∷ two ∷ [] }

abbrev pub any_of : List (List Lit) → Guard
any_of any = record { any = any }

abbrev pub branch : Guard → List Stmt → Alternative
branch guard body = record { guard = guard; body = body }

-- not (has seen(src, dst) or src != dst) and true
abbrev pub not_seen : Guard
not_seen =
    any_of
    ((Not
    (Group
    (any_of
    ((Has (atom (codes "seen") (codes "src") (codes "dst")) ∷ []) ∷ (Differ (codes "src") (codes "dst") ∷ []) ∷ [])))
    ∷ True ∷ []) ∷ [])

-- a class whose deepest place stands within an `if`, a `not` and a group
abbrev pub gate : Class
gate = record {
  name = codes "gate";
  ports = codes "i" ∷ codes "o" ∷ [];
  relations = record { name = codes "seen"; kinds = codes "Addr" ∷ codes "Addr" ∷ [] } ∷ [];
  handlers =
      record {
        port = codes "i";
        body =
            Choose (branch not_seen []
            ∷ branch (any_of ((Same (codes "src") (codes "a") ∷ []) ∷ []))
            (Pick (codes "x") (codes "Addr") (Insert (atom (codes "seen") (codes "x") (codes "dst")) ∷ [])
            ∷ Output (codes "o") (equal (codes "src") (codes "dst") ∷ equal (codes "dst") (codes "a") ∷ [])
            ∷ [])
            ∷ [])
            ∷ Remove (atom (codes "seen") (codes "a") (codes "b"))
            ∷ Output (codes "o") []
            ∷ [];
      }
      ∷ record { port = codes "o"; body = Pick (codes "y") (codes "Addr") [] ∷ Abort ∷ [] }
      ∷ [];
}

-- one box of this class
abbrev pub gated : Tree
gated = record {
  name = codes "gated";
  items =
      OfClass gate
      ∷ Instance (codes "g") (codes "gate")
      (atom (codes "seen") (codes "a") (codes "b") ∷ atom (codes "seen") (codes "b") (codes "a") ∷ [])
      ∷ Instance (codes "h") (codes "gate") []
      ∷ [];
}

-- the spelling of an atom with two arguments
abbrev pub tokens_of_atom : List ℕ → List ℕ → List ℕ → List Token
tokens_of_atom relation one two =
    word relation ++ mark signs.OpenParen ++ word one ++ mark signs.Comma ++ word two ++ mark signs.CloseParen

abbrev pub tokens_of_gated : List Token
tokens_of_gated =
    key words.Network ++ word (codes "gated") ++ mark signs.Semicolon
    ++ key words.Middlebox ++ word (codes "gate") ++ mark signs.OpenBrace
    ++ key words.Port ++ word (codes "i") ++ mark signs.Comma ++ word (codes "o") ++ mark signs.Semicolon
    ++ key words.Relation ++ tokens_of_atom (codes "seen") (codes "Addr") (codes "Addr") ++ mark signs.Semicolon
    ++ key words.On ++ word (codes "i") ++ mark signs.Colon ++ mark signs.OpenBrace
    ++ key words.If ++ key words.Not ++ mark signs.OpenParen ++ key words.Has
    ++ tokens_of_atom (codes "seen") (codes "src") (codes "dst")
    ++ key words.Or ++ word (codes "src") ++ mark signs.Differs ++ word (codes "dst") ++ mark signs.CloseParen
    ++ key words.And ++ key words.True
    ++ mark signs.Arrow ++ mark signs.OpenBrace ++ mark signs.CloseBrace
    ++ mark signs.Bar ++ word (codes "src") ++ mark signs.Equals ++ word (codes "a") ++ mark signs.Arrow
    ++ mark signs.OpenBrace
    ++ key words.Pick ++ word (codes "x") ++ mark signs.Colon ++ word (codes "Addr") ++ key words.In
    ++ mark signs.OpenBrace
    ++ key words.Insert ++ tokens_of_atom (codes "seen") (codes "x") (codes "dst") ++ mark signs.Semicolon
    ++ mark signs.CloseBrace
    ++ key words.Output ++ word (codes "o") ++ mark signs.OpenBracket ++ word (codes "src") ++ mark signs.Becomes
    ++ word (codes "dst")
    ++ mark signs.Comma ++ word (codes "dst") ++ mark signs.Becomes ++ word (codes "a") ++ mark signs.CloseBracket
    ++ mark signs.Semicolon
    ++ mark signs.CloseBrace ++ key words.Fi
    ++ key words.Remove ++ tokens_of_atom (codes "seen") (codes "a") (codes "b") ++ mark signs.Semicolon
    ++ key words.Output ++ word (codes "o") ++ mark signs.Semicolon ++ mark signs.CloseBrace
    ++ key words.On ++ word (codes "o") ++ mark signs.Colon ++ mark signs.OpenBrace
    ++ key words.Pick ++ word (codes "y") ++ mark signs.Colon ++ word (codes "Addr") ++ key words.In
    ++ mark signs.OpenBrace ++ mark signs.CloseBrace
    ++ key words.Abort ++ mark signs.Semicolon ++ mark signs.CloseBrace
    ++ mark signs.CloseBrace
    ++ key words.Box ++ word (codes "g") ++ mark signs.Colon ++ word (codes "gate") ++ key words.With
    ++ tokens_of_atom (codes "seen") (codes "a") (codes "b") ++ mark signs.Comma
    ++ tokens_of_atom (codes "seen") (codes "b") (codes "a") ++ mark signs.Semicolon
    ++ key words.Box ++ word (codes "h") ++ mark signs.Colon ++ word (codes "gate") ++ mark signs.Semicolon

abbrev pub text_of_gated : List ℕ
text_of_gated =
    line (codes "network gated;")
    ++ line (codes "middlebox gate {")
    ++ line (codes "  port i, o;")
    ++ line (codes "  relation seen(Addr, Addr);")
    ++ line (codes "  on i : {")
    ++ line (codes "    if not (has seen(src, dst) or src != dst) and true -> {")
    ++ line (codes "    } | src = a -> {")
    ++ line (codes "      pick x : Addr in {")
    ++ line (codes "        insert seen(x, dst);")
    ++ line (codes "      }")
    ++ line (codes "      output o [src := dst, dst := a];")
    ++ line (codes "    } fi")
    ++ line (codes "    remove seen(a, b);")
    ++ line (codes "    output o;")
    ++ line (codes "  }")
    ++ line (codes "  on o : {")
    ++ line (codes "    pick y : Addr in {")
    ++ line (codes "    }")
    ++ line (codes "    abort;")
    ++ line (codes "  }")
    ++ line (codes "}")
    ++ line (codes "box g : gate with seen(a, b), seen(b, a);")
    ++ line (codes "box h : gate;")
