-- The network of a text by hand: two types, two classes, of which one has its handlers in another order than its ports
-- and no handler
-- stands in the other, a box that starts with tuples out of order and twice, and hosts with several patterns.
use Rattle.std.specs.Prelude.{◌≡◌, ℕ, List, [], ◌∷◌, Some, None, codes, replicate}
use Rattle.header_set.specs.Pattern.{any_pattern}
use Rattle.amdl_tree.specs.declared.guard.Atom.{Atom}
use Rattle.amdl_tree.specs.declared.guard.Lit.TheVariants.{Has}
use Rattle.amdl_tree.specs.declared.statement.Alternative.{Alternative}
use Rattle.amdl_tree.specs.declared.statement.Stmt.{Stmt}
use Rattle.amdl_tree.specs.declared.statement.Stmt.TheVariants.{Insert, Output, Abort, Choose, Pick}
use Rattle.amdl_tree.specs.declared.class.Class.{Class}
use Rattle.amdl_tree.specs.declared.tree.Equal.{Equal}
use Rattle.amdl_tree.specs.declared.tree.End.TheVariants.{Host as AtHost, Port as AtPort}
use Rattle.amdl_tree.specs.declared.tree.Item.TheVariants.{Kind, Field, Class as OfClass, Host, Instance, Link, Sends}
use Rattle.amdl_tree.specs.declared.tree.Item.TheVariants.{Forbid}
use Rattle.amdl_tree.specs.declared.tree.Tree.{Tree}
use Rattle.box_handlers.specs.declared.act.Term.TheVariants as term
use Rattle.box_handlers.specs.declared.act.Query.{Query}
use Rattle.box_handlers.specs.declared.act.Probe.TheVariants as probe
use Rattle.box_handlers.specs.declared.act.Branch.{Branch}
use Rattle.box_handlers.specs.declared.act.Act.{Act}
use Rattle.box_handlers.specs.declared.act.Act.TheVariants as act
use Rattle.net_plan.specs.declared.plan.Plan.{Plan}
use Rattle.net_plan.specs.declared.plan.ClassPlan.{ClassPlan}
use Rattle.tree_plan.specs.Net.{net}

abbrev pub seen : List ℕ → List ℕ → Atom
seen one two = record { relation = codes "seen"; args = one ∷ two ∷ [] }

abbrev pub equal : List ℕ → List ℕ → Equal
equal field value = record { field = field; value = value }

-- if has seen(u, kind) -> { insert known(kind); } fi
abbrev pub asks_seen : Alternative
asks_seen = record {
  guard = record { any = (Has (seen (codes "u") (codes "kind")) ∷ []) ∷ [] };
  body = Insert (record { relation = codes "known"; args = codes "kind" ∷ [] }) ∷ [];
}

-- pick u : Addr in { .. } output o [src := b, kind := z];
abbrev pub marks : List Stmt
marks =
    Pick (codes "u") (codes "Addr") (Choose (asks_seen ∷ []) ∷ [])
    ∷ Output (codes "o") (equal (codes "src") (codes "b") ∷ equal (codes "kind") (codes "z") ∷ [])
    ∷ []

abbrev pub marker : Class
marker = record {
  name = codes "marker";
  ports = codes "i" ∷ codes "o" ∷ [];
  relations =
      record { name = codes "seen"; kinds = codes "Addr" ∷ codes "Kind" ∷ [] }
      ∷ record { name = codes "known"; kinds = codes "Kind" ∷ [] } ∷ [];
  handlers = record { port = codes "o"; body = Abort ∷ [] } ∷ record { port = codes "i"; body = marks } ∷ [];
}

abbrev pub plug : Class
plug = record { name = codes "plug"; ports = codes "p" ∷ []; relations = []; handlers = [] }

abbrev pub marked_tree : Tree
marked_tree = record {
  name = codes "marked";
  items =
      Kind (codes "Addr") (codes "a" ∷ codes "b" ∷ [])
      ∷ Kind (codes "Kind") (codes "x" ∷ codes "y" ∷ codes "z" ∷ [])
      ∷ Field (codes "src") (codes "Addr")
      ∷ Field (codes "kind") (codes "Kind")
      ∷ OfClass marker
      ∷ OfClass plug
      ∷ Host (codes "h")
      ∷ Instance (codes "m") (codes "marker")
      (seen (codes "b") (codes "z") ∷ seen (codes "a") (codes "x") ∷ seen (codes "b") (codes "z") ∷ [])
      ∷ Host (codes "k")
      ∷ Instance (codes "n") (codes "plug") []
      ∷ Link (AtHost (codes "k")) (AtPort (codes "m") (codes "o"))
      ∷ Link (AtPort (codes "m") (codes "i")) (AtHost (codes "h"))
      ∷ Sends (codes "h") (equal (codes "src") (codes "a") ∷ [])
      ∷ Forbid (codes "k") (equal (codes "kind") (codes "z") ∷ [])
      ∷ Sends (codes "h") (equal (codes "kind") (codes "y") ∷ equal (codes "src") (codes "b") ∷ [])
      ∷ Forbid (codes "h") []
      ∷ [];
}

-- seen(u, kind) with the outermost pick, and with a value in its place
abbrev pub picked_seen : Query
picked_seen = record { relation = 0; args = term.Picked 0 ∷ term.Field 1 ∷ [] }

abbrev pub seen_at : ℕ → Query
seen_at value = record { relation = 0; args = term.Value value ∷ term.Field 1 ∷ [] }

abbrev pub asks_picked : Branch
asks_picked = record {
  guard = record { any = (probe.Has picked_seen ∷ []) ∷ [] };
  body = act.Insert (record { relation = 1; args = term.Field 1 ∷ [] }) ∷ [];
}

abbrev pub marking_acts : List Act
marking_acts =
    act.Pick 2 (act.Choose (asks_picked ∷ []) ∷ [])
    ∷ act.Output 1 (record { field = 0; to = term.Value 1 } ∷ record { field = 1; to = term.Value 2 } ∷ [])
    ∷ []

-- the handlers stand in the order of the ports
abbrev pub marker_plan : ClassPlan
marker_plan = record {
  ports = codes "i" ∷ codes "o" ∷ [];
  relations = record { name = codes "seen"; kinds = 0 ∷ 1 ∷ [] } ∷ record { name = codes "known"; kinds = 1 ∷ [] } ∷ [];
  handlers = marking_acts ∷ (act.Abort ∷ []) ∷ [];
  queries = seen_at 0 ∷ seen_at 1 ∷ [];
}

abbrev pub plug_plan : ClassPlan
plug_plan = record { ports = codes "p" ∷ []; relations = []; handlers = [] ∷ []; queries = [] }

-- the ends are 0 and 1 of the hosts, 2 and 3 of the first box, 4 of the second; the tuples are 0 of (a, x) and 5 of (b,
-- z)
abbrev pub marked_plan : Plan
marked_plan = record {
  name = codes "marked";
  kinds = record { name = codes "Addr"; values = codes "a" ∷ codes "b" ∷ [] }
      ∷ record { name = codes "Kind"; values = codes "x" ∷ codes "y" ∷ codes "z" ∷ [] } ∷ [];
  fields = record { name = codes "src"; kind = 0 } ∷ record { name = codes "kind"; kind = 1 } ∷ [];
  classes = marker_plan ∷ plug_plan ∷ [];
  hosts =
      record {
        name = codes "h";
        sends = (Some 0 ∷ replicate 7 None) ∷ (Some 1 ∷ Some 1 ∷ replicate 6 None)
            ∷ [];
        forbids = any_pattern ∷ [];
      }
      ∷ record { name = codes "k"; sends = []; forbids = (None ∷ Some 2 ∷ replicate 6 None) ∷ [] }
      ∷ [];
  boxes =
      record {
        name = codes "m";
        class = 0;
        first = record { relation = 0; tuple = 0 }
            ∷ record { relation = 0; tuple = 5 } ∷ [];
      }
      ∷ record { name = codes "n"; class = 1; first = [] }
      ∷ [];
  links = record { one = 1; two = 3 } ∷ record { one = 2; two = 0 } ∷ [];
}

abbrev pub NetOfMarked : Type 0
NetOfMarked = net marked_tree ≡ Some marked_plan
