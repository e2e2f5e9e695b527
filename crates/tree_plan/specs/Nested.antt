-- The class of a text by hand: picks within picks, counted from the outermost, and a pick whose name another one had
-- before it.
use Rattle.std.specs.Prelude.{◌≡◌, ℕ, List, [], ◌∷◌, Some, codes}
use Rattle.amdl_tree.specs.declared.guard.Lit.{Lit}
use Rattle.amdl_tree.specs.declared.guard.Lit.TheVariants.{Has, Same}
use Rattle.amdl_tree.specs.declared.statement.Stmt.{Stmt}
use Rattle.amdl_tree.specs.declared.statement.Stmt.TheVariants.{Output, Abort, Choose, Pick}
use Rattle.amdl_tree.specs.declared.class.Class.{Class}
use Rattle.amdl_tree.specs.declared.tree.Item.{Item}
use Rattle.amdl_tree.specs.declared.tree.Item.TheVariants.{Kind, Field}
use Rattle.box_handlers.specs.declared.act.Term.{Term}
use Rattle.box_handlers.specs.declared.act.Term.TheVariants as term
use Rattle.box_handlers.specs.declared.act.Query.{Query}
use Rattle.box_handlers.specs.declared.act.Probe.TheVariants as probe
use Rattle.box_handlers.specs.declared.act.Act.{Act}
use Rattle.box_handlers.specs.declared.act.Act.TheVariants as act
use Rattle.net_plan.specs.declared.plan.ClassPlan.{ClassPlan}
use Rattle.tree_plan.specs.Marked.{equal, seen}
use Rattle.tree_plan.specs.Office.{where_all, branch_where, change}
use Rattle.tree_plan.specs.Net.{class_of}

abbrev pub two_types : List Item
two_types =
    Kind (codes "Addr") (codes "a" ∷ codes "b" ∷ [])
    ∷ Kind (codes "Kind") (codes "x" ∷ codes "y" ∷ [])
    ∷ Field (codes "src") (codes "Addr")
    ∷ Field (codes "kind") (codes "Kind")
    ∷ []

-- pick u : Addr in { pick v : Kind in { if has seen(u, v) -> { output o [kind := v]; } fi } if has seen(u, kind) -> {
-- abort; } fi }
-- pick v : Addr in { if v = src and has seen(v, x) -> { } fi }
abbrev pub picks_twice : List Stmt
picks_twice =
    Pick (codes "u") (codes "Addr")
    (Pick (codes "v") (codes "Kind")
    (Choose (where_all (Has (seen (codes "u") (codes "v"))
    ∷ []) (Output (codes "o") (equal (codes "kind") (codes "v") ∷ []) ∷ []) ∷ []) ∷ [])
    ∷ Choose (where_all (Has (seen (codes "u") (codes "kind")) ∷ []) (Abort ∷ []) ∷ [])
    ∷ [])
    ∷ Pick (codes "v") (codes "Addr")
    (Choose (where_all (Same (codes "v") (codes "src") ∷ Has (seen (codes "v") (codes "x")) ∷ []) [] ∷ []) ∷ [])
    ∷ []

abbrev pub nester : Class
nester = record {
  name = codes "nester";
  ports = codes "i" ∷ codes "o" ∷ [];
  relations = record { name = codes "seen"; kinds = codes "Addr" ∷ codes "Kind" ∷ [] } ∷ [];
  handlers = record { port = codes "i"; body = picks_twice } ∷ [];
}

abbrev pub seen_by : Term → Term → Query
seen_by one two = record { relation = 0; args = one ∷ two ∷ [] }

-- `u` is pick 0, and `v` is pick 1 within it, and pick 0 where it stands alone
abbrev pub nested_acts : List Act
nested_acts =
    act.Pick 2
    (act.Pick 2
    (act.Choose (branch_where (probe.Has (seen_by (term.Picked 0) (term.Picked 1)) ∷ [])
    (act.Output 1 (change 1 (term.Picked 1) ∷ []) ∷ []) ∷ []) ∷ [])
    ∷ act.Choose (branch_where (probe.Has (seen_by (term.Picked 0) (term.Field 1)) ∷ []) (act.Abort ∷ []) ∷ [])
    ∷ [])
    ∷ act.Pick 2
    (act.Choose (branch_where
    (probe.Same (term.Picked 0) (term.Field 0) ∷ probe.Has (seen_by (term.Picked 0) (term.Value 0)) ∷ []) []
    ∷ []) ∷ [])
    ∷ []

-- the outer block comes whole for one value and then for the other, and the last two queries were asked before
abbrev pub nester_plan : ClassPlan
nester_plan = record {
  ports = codes "i" ∷ codes "o" ∷ [];
  relations = record { name = codes "seen"; kinds = 0 ∷ 1 ∷ [] } ∷ [];
  handlers = nested_acts ∷ [] ∷ [];
  queries =
      seen_by (term.Value 0) (term.Value 0) ∷ seen_by (term.Value 0) (term.Value 1)
      ∷ seen_by (term.Value 0) (term.Field 1)
      ∷ seen_by (term.Value 1) (term.Value 0) ∷ seen_by (term.Value 1) (term.Value 1)
      ∷ seen_by (term.Value 1) (term.Field 1)
      ∷ [];
}

abbrev pub ClassOfNested : Type 0
ClassOfNested = class_of two_types nester ≡ Some nester_plan
