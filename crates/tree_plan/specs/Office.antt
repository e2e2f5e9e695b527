-- The network of a text by hand: an office with a cache and an access list, so two boxes of two classes, one of which
-- starts with a
-- tuple, three fields of two types, and outputs that change fields.
use Rattle.std.specs.Prelude.{◌≡◌, ℕ, List, [], ◌∷◌, Some, None, codes, replicate}
use Rattle.amdl_tree.specs.declared.guard.Atom.{Atom}
use Rattle.amdl_tree.specs.declared.guard.Lit.{Lit}
use Rattle.amdl_tree.specs.declared.guard.Lit.TheVariants.{Has, Same}
use Rattle.amdl_tree.specs.declared.guard.Lit.TheVariants as lit
use Rattle.amdl_tree.specs.declared.statement.Alternative.{Alternative}
use Rattle.amdl_tree.specs.declared.statement.Stmt.{Stmt}
use Rattle.amdl_tree.specs.declared.statement.Stmt.TheVariants.{Insert, Output, Choose}
use Rattle.amdl_tree.specs.declared.class.Class.{Class}
use Rattle.amdl_tree.specs.declared.tree.Equal.{Equal}
use Rattle.amdl_tree.specs.declared.tree.End.TheVariants.{Host as AtHost, Port as AtPort}
use Rattle.amdl_tree.specs.declared.tree.Item.TheVariants.{
  Kind,
  Field,
  Class as OfClass,
  Host,
  Instance,
  Link,
  Sends,
  Forbid,
}
use Rattle.amdl_tree.specs.declared.tree.Tree.{Tree}
use Rattle.box_handlers.specs.declared.act.Term.{Term}
use Rattle.box_handlers.specs.declared.act.Term.TheVariants as term
use Rattle.box_handlers.specs.declared.act.Query.{Query}
use Rattle.box_handlers.specs.declared.act.Change.{Change}
use Rattle.box_handlers.specs.declared.act.Probe.{Probe}
use Rattle.box_handlers.specs.declared.act.Probe.TheVariants as probe
use Rattle.box_handlers.specs.declared.act.Branch.{Branch}
use Rattle.box_handlers.specs.declared.act.Act.{Act}
use Rattle.box_handlers.specs.declared.act.Act.TheVariants as act
use Rattle.net_plan.specs.declared.plan.Plan.{Plan}
use Rattle.net_plan.specs.declared.plan.ClassPlan.{ClassPlan}
use Rattle.tree_plan.specs.Marked.{equal}
use Rattle.tree_plan.specs.Net.{net}

-- an alternative whose guard is all of some literals
abbrev pub where_all : List Lit → List Stmt → Alternative
where_all lits body = record { guard = record { any = lits ∷ [] }; body = body }

abbrev pub atom : List ℕ → List (List ℕ) → Atom
atom relation args = record { relation = relation; args = args }

abbrev pub allowed : List ℕ → List ℕ → Lit
allowed one two = Has (atom (codes "allowed") (one ∷ two ∷ []))

abbrev pub acl : Class
acl = record {
  name = codes "acl";
  ports = codes "lan" ∷ codes "wan" ∷ [];
  relations = record { name = codes "allowed"; kinds = codes "Addr" ∷ codes "Addr" ∷ [] } ∷ [];
  handlers =
      record {
        port = codes "lan";
        body = Choose (where_all (allowed (codes "src") (codes "dst")
            ∷ []) (Output (codes "wan") [] ∷ []) ∷ []) ∷ [];
      }
      ∷ record {
        port = codes "wan";
        body = Choose (where_all (allowed (codes "dst") (codes "src")
            ∷ []) (Output (codes "lan") [] ∷ []) ∷ []) ∷ [];
      }
      ∷ [];
}

abbrev pub stored : List ℕ → Atom
stored one = atom (codes "stored") (one ∷ [])

-- answers a request from what is stored, with the addresses exchanged, and else passes it on
abbrev pub asks_stored : List ℕ → List Stmt
asks_stored port =
    Choose (where_all (Same (codes "kind") (codes "req") ∷ Has (stored (codes "dst")) ∷ [])
    (Output port (equal (codes "src") (codes "dst") ∷ equal (codes "dst") (codes "src")
    ∷ equal (codes "kind") (codes "rep") ∷ []) ∷ [])
    ∷ where_all (Same (codes "kind") (codes "req") ∷ lit.Not (Has (stored (codes "dst"))) ∷ []) (Output (codes "up") []
    ∷ [])
    ∷ [])
    ∷ []

-- stores who replies, and passes the reply on
abbrev pub stores : List Stmt
stores =
    Choose (where_all (Same (codes "kind") (codes "rep") ∷ [])
    (Insert (stored (codes "src"))
    ∷ Choose (where_all (Same (codes "dst") (codes "a") ∷ []) (Output (codes "pa") [] ∷ [])
    ∷ where_all (Same (codes "dst") (codes "b") ∷ []) (Output (codes "pb") [] ∷ [])
    ∷ [])
    ∷ [])
    ∷ [])
    ∷ []

abbrev pub cache : Class
cache = record {
  name = codes "cache";
  ports = codes "pa" ∷ codes "pb" ∷ codes "up" ∷ [];
  relations = record { name = codes "stored"; kinds = codes "Addr" ∷ [] } ∷ [];
  handlers =
      record { port = codes "pa"; body = asks_stored (codes "pa") }
      ∷ record { port = codes "pb"; body = asks_stored (codes "pb") }
      ∷ record { port = codes "up"; body = stores }
      ∷ [];
}

abbrev pub office_tree : Tree
office_tree = record {
  name = codes "office";
  items =
      Kind (codes "Addr") (codes "a" ∷ codes "b" ∷ codes "s" ∷ [])
      ∷ Kind (codes "Kind") (codes "req" ∷ codes "rep" ∷ [])
      ∷ Field (codes "src") (codes "Addr")
      ∷ Field (codes "dst") (codes "Addr")
      ∷ Field (codes "kind") (codes "Kind")
      ∷ OfClass acl
      ∷ OfClass cache
      ∷ Host (codes "ha")
      ∷ Host (codes "hb")
      ∷ Host (codes "srv")
      ∷ Instance (codes "c") (codes "cache") []
      ∷ Instance (codes "fw") (codes "acl") (atom (codes "allowed") (codes "a" ∷ codes "s" ∷ []) ∷ [])
      ∷ Link (AtHost (codes "ha")) (AtPort (codes "c") (codes "pa"))
      ∷ Link (AtHost (codes "hb")) (AtPort (codes "c") (codes "pb"))
      ∷ Link (AtPort (codes "c") (codes "up")) (AtPort (codes "fw") (codes "lan"))
      ∷ Link (AtPort (codes "fw") (codes "wan")) (AtHost (codes "srv"))
      ∷ Sends (codes "ha") (equal (codes "src") (codes "a") ∷ equal (codes "dst") (codes "s")
      ∷ equal (codes "kind") (codes "req") ∷ [])
      ∷ Sends (codes "hb") (equal (codes "src") (codes "b") ∷ equal (codes "dst") (codes "s")
      ∷ equal (codes "kind") (codes "req") ∷ [])
      ∷ Sends (codes "srv") (equal (codes "src") (codes "s") ∷ equal (codes "kind") (codes "rep") ∷ [])
      ∷ Forbid (codes "hb") (equal (codes "src") (codes "s") ∷ [])
      ∷ [];
}

-- the fields by numbers
abbrev pub src : Term
src = term.Field 0

abbrev pub dst : Term
dst = term.Field 1

abbrev pub kind : Term
kind = term.Field 2

-- a branch whose guard is all of some probes
abbrev pub branch_where : List Probe → List Act → Branch
branch_where probes body = record { guard = record { any = probes ∷ [] }; body = body }

abbrev pub query : List Term → Query
query args = record { relation = 0; args = args }

abbrev pub change : ℕ → Term → Change
change field to = record { field = field; to = to }

abbrev pub lan_acts : List Act
lan_acts = act.Choose (branch_where (probe.Has (query (src ∷ dst ∷ [])) ∷ []) (act.Output 1 [] ∷ []) ∷ []) ∷ []

abbrev pub wan_acts : List Act
wan_acts = act.Choose (branch_where (probe.Has (query (dst ∷ src ∷ [])) ∷ []) (act.Output 0 [] ∷ []) ∷ []) ∷ []

abbrev pub acl_plan : ClassPlan
acl_plan = record {
  ports = codes "lan" ∷ codes "wan" ∷ [];
  relations = record { name = codes "allowed"; kinds = 0 ∷ 0 ∷ [] } ∷ [];
  handlers = lan_acts ∷ wan_acts ∷ [];
  queries = query (src ∷ dst ∷ []) ∷ query (dst ∷ src ∷ []) ∷ [];
}

-- the values are numbered in their types: req 0 and rep 1, a 0, b 1 and s 2
abbrev pub asking_acts : ℕ → List Act
asking_acts port =
    act.Choose (branch_where (probe.Same kind (term.Value 0) ∷ probe.Has (query (dst ∷ [])) ∷ [])
    (act.Output port (change 0 dst ∷ change 1 src ∷ change 2 (term.Value 1) ∷ []) ∷ [])
    ∷ branch_where (probe.Same kind (term.Value 0) ∷ probe.Not (probe.Has (query (dst ∷ []))) ∷ []) (act.Output 2 []
    ∷ [])
    ∷ [])
    ∷ []

abbrev pub storing_acts : List Act
storing_acts =
    act.Choose (branch_where (probe.Same kind (term.Value 1) ∷ [])
    (act.Insert (query (src ∷ []))
    ∷ act.Choose (branch_where (probe.Same dst (term.Value 0) ∷ []) (act.Output 0 [] ∷ [])
    ∷ branch_where (probe.Same dst (term.Value 1) ∷ []) (act.Output 1 [] ∷ [])
    ∷ [])
    ∷ [])
    ∷ [])
    ∷ []

-- what is inserted is no query, and what two handlers ask is one
abbrev pub cache_plan : ClassPlan
cache_plan = record {
  ports = codes "pa" ∷ codes "pb" ∷ codes "up" ∷ [];
  relations = record { name = codes "stored"; kinds = 0 ∷ [] } ∷ [];
  handlers = asking_acts 0 ∷ asking_acts 1 ∷ storing_acts ∷ [];
  queries = query (dst ∷ []) ∷ [];
}

-- the ends are 0 to 2 of the hosts, 3 to 5 of the cache, which is box 0 and of class 1, and 6 and 7 of the other box;
-- the tuple (a, s) of
-- three values and three is 2
abbrev pub office_plan : Plan
office_plan = record {
  name = codes "office";
  kinds =
      record { name = codes "Addr"; values = codes "a" ∷ codes "b" ∷ codes "s" ∷ [] }
      ∷ record { name = codes "Kind"; values = codes "req" ∷ codes "rep" ∷ [] }
      ∷ [];
  fields = record { name = codes "src"; kind = 0 } ∷ record { name = codes "dst"; kind = 0 }
      ∷ record { name = codes "kind"; kind = 1 } ∷ [];
  classes = acl_plan ∷ cache_plan ∷ [];
  hosts =
      record { name = codes "ha"; sends = (Some 0 ∷ Some 2 ∷ Some 0 ∷ replicate 5 None) ∷ []; forbids = [] }
      ∷ record {
        name = codes "hb";
        sends = (Some 1 ∷ Some 2 ∷ Some 0 ∷ replicate 5 None)
            ∷ [];
        forbids = (Some 2 ∷ replicate 7 None) ∷ [];
      }
      ∷ record { name = codes "srv"; sends = (Some 2 ∷ None ∷ Some 1 ∷ replicate 5 None) ∷ []; forbids = [] }
      ∷ [];
  boxes =
      record { name = codes "c"; class = 1; first = [] }
      ∷ record { name = codes "fw"; class = 0; first = record { relation = 0; tuple = 2 } ∷ [] }
      ∷ [];
  links = record { one = 0; two = 3 } ∷ record { one = 1; two = 4 } ∷ record { one = 5; two = 6 }
      ∷ record { one = 7; two = 2 } ∷ [];
}

abbrev pub NetOfOffice : Type 0
NetOfOffice = net office_tree ≡ Some office_plan
