-- The network of a text by hand: a gate that opens once, whose one box starts with a tuple.
use Rattle.std.specs.Prelude.{◌≡◌, List, [], ◌∷◌, Some, None, codes, replicate}
use Rattle.amdl_tree.specs.declared.guard.Lit.TheVariants.{Has}
use Rattle.amdl_tree.specs.declared.statement.Stmt.{Stmt}
use Rattle.amdl_tree.specs.declared.statement.Stmt.TheVariants.{Remove, Output, Choose}
use Rattle.amdl_tree.specs.declared.class.Class.{Class}
use Rattle.amdl_tree.specs.declared.tree.End.TheVariants.{Host as AtHost, Port as AtPort}
use Rattle.amdl_tree.specs.declared.tree.Item.TheVariants.{Kind, Field, Class as OfClass, Host, Instance, Link, Sends}
use Rattle.amdl_tree.specs.declared.tree.Tree.{Tree}
use Rattle.box_handlers.specs.declared.act.Term.TheVariants as term
use Rattle.box_handlers.specs.declared.act.Query.{Query}
use Rattle.box_handlers.specs.declared.act.Probe.TheVariants as probe
use Rattle.box_handlers.specs.declared.act.Act.{Act}
use Rattle.box_handlers.specs.declared.act.Act.TheVariants as act
use Rattle.amdl_tree.specs.Example.{wire}
use Rattle.net_plan.specs.Laws.{wire_plan}
use Rattle.net_plan.specs.declared.plan.Plan.{Plan}
use Rattle.net_plan.specs.declared.plan.ClassPlan.{ClassPlan}
use Rattle.tree_plan.specs.Net.{net}

-- if has trusted(src) -> { output o; remove trusted(src); } fi
abbrev pub opens_once : List Stmt
opens_once =
    Choose (record {
      guard = record { any = (Has (record { relation = codes "trusted"; args = codes "src" ∷ [] }) ∷ []) ∷ [] };
      body = Output (codes "o") [] ∷ Remove (record { relation = codes "trusted"; args = codes "src" ∷ [] }) ∷ [];
    } ∷ [])
    ∷ []

abbrev pub gate : Class
gate = record {
  name = codes "gate";
  ports = codes "i" ∷ codes "o" ∷ [];
  relations = record { name = codes "trusted"; kinds = codes "Addr" ∷ [] } ∷ [];
  handlers = record { port = codes "i"; body = opens_once } ∷ [];
}

abbrev pub once_tree : Tree
once_tree = record {
  name = codes "once";
  items =
      Kind (codes "Addr") (codes "a" ∷ codes "b" ∷ [])
      ∷ Field (codes "src") (codes "Addr")
      ∷ OfClass gate
      ∷ Host (codes "h")
      ∷ Host (codes "k")
      ∷ Instance (codes "g") (codes "gate") (record { relation = codes "trusted"; args = codes "b" ∷ [] } ∷ [])
      ∷ Link (AtHost (codes "h")) (AtPort (codes "g") (codes "i"))
      ∷ Link (AtHost (codes "k")) (AtPort (codes "g") (codes "o"))
      ∷ Sends (codes "h") (record { field = codes "src"; value = codes "b" } ∷ [])
      ∷ [];
}

-- trusted(src), by numbers
abbrev pub trusted : Query
trusted = record { relation = 0; args = term.Field 0 ∷ [] }

abbrev pub once_acts : List Act
once_acts =
    act.Choose (record {
      guard = record { any = (probe.Has trusted ∷ []) ∷ [] };
      body = act.Output 1 [] ∷ act.Remove trusted ∷ [];
    } ∷ [])
    ∷ []

-- a port without a handler has the empty one
abbrev pub gate_plan : ClassPlan
gate_plan = record {
  ports = codes "i" ∷ codes "o" ∷ [];
  relations = record { name = codes "trusted"; kinds = 0 ∷ [] } ∷ [];
  handlers = once_acts ∷ [] ∷ [];
  queries = trusted ∷ [];
}

-- ends 0 and 1 are those of the hosts, 2 and 3 the ports of the box
abbrev pub once_plan : Plan
once_plan = record {
  name = codes "once";
  kinds = record { name = codes "Addr"; values = codes "a" ∷ codes "b" ∷ [] } ∷ [];
  fields = record { name = codes "src"; kind = 0 } ∷ [];
  classes = gate_plan ∷ [];
  hosts = record { name = codes "h"; sends = (Some 1 ∷ replicate 7 None) ∷ []; forbids = [] }
      ∷ record { name = codes "k"; sends = []; forbids = [] } ∷ [];
  boxes = record { name = codes "g"; class = 0; first = record { relation = 0; tuple = 1 } ∷ [] } ∷ [];
  links = record { one = 0; two = 2 } ∷ record { one = 1; two = 3 } ∷ [];
}

abbrev pub NetOfOnce : Type 0
NetOfOnce = net once_tree ≡ Some once_plan

-- two hosts on a wire
abbrev pub NetOfWire : Type 0
NetOfWire = net wire ≡ Some wire_plan
