-- The rules by hand: for each rule an item that it holds of, most with one beside it that it doesn't hold of.
use Rattle.std.specs.Prelude.{◌≡◌, ℕ, true, false, List, [], ◌∷◌, ◌++◌, Some, codes, replicate}
use Rattle.amdl_tree.specs.declared.guard.Lit.{Lit}
use Rattle.amdl_tree.specs.declared.guard.Lit.TheVariants.{Has, Same, True}
use Rattle.amdl_tree.specs.declared.statement.Stmt.{Stmt}
use Rattle.amdl_tree.specs.declared.statement.Stmt.TheVariants.{Choose, Pick, Output}
use Rattle.amdl_tree.specs.declared.class.Class.{Class}
use Rattle.amdl_tree.specs.declared.tree.Equal.{Equal}
use Rattle.amdl_tree.specs.declared.tree.End.TheVariants.{Host as AtHost, Port as AtPort}
use Rattle.amdl_tree.specs.declared.tree.Item.{Item}
use Rattle.amdl_tree.specs.declared.tree.Item.TheVariants.{
  Kind,
  Field,
  Class as OfClass,
  Host,
  Instance,
  Link,
  Sends,
  Forbid,
}
use Rattle.tree_rules.specs.declared.rule.Rule.TheVariants.{
  NameTaken,
  UnknownName,
  TooMany,
  HeaderTooLarge,
  FieldLate,
  Arity,
  KindMismatch,
  RelationTooLarge,
  HandlerTwice,
  TooManyPaths,
  TooManyQueries,
  EndToItself,
  EndTaken,
  SameItem,
  TooManyCells,
}
use Rattle.tree_rules.specs.Checked.{breaks, first_rule}

-- two types, and a field of each
abbrev pub two_fields : List Item
two_fields =
    Kind (codes "A") (codes "a" ∷ codes "b" ∷ [])
    ∷ Kind (codes "B") (codes "x" ∷ codes "y" ∷ [])
    ∷ Field (codes "f") (codes "A")
    ∷ Field (codes "g") (codes "B")
    ∷ []

-- a class with one relation, r(A), and a handler of this body for its first port
abbrev pub class_with : List Stmt → Class
class_with body = record {
  name = codes "c";
  ports = codes "i" ∷ codes "o" ∷ [];
  relations = record { name = codes "r"; kinds = codes "A" ∷ [] } ∷ [];
  handlers = record { port = codes "i"; body = body } ∷ [];
}

-- an `if` of one literal with an empty block
abbrev pub asks : Lit → Stmt
asks lit = Choose (record { guard = record { any = (lit ∷ []) ∷ [] }; body = [] } ∷ [])

abbrev pub has_r : List (List ℕ) → Lit
has_r args = Has (record { relation = codes "r"; args = args })

abbrev pub equal : List ℕ → List ℕ → Equal
equal field value = record { field = field; value = value }

-- the fields, a box of the class, and two hosts
abbrev pub some_nodes : List Item
some_nodes =
    two_fields ++ OfClass (class_with []) ∷ Host (codes "h") ∷ Host (codes "k") ∷ Instance (codes "n") (codes "c") []
    ∷ []

-- a type and a value may have one name, a value and a field may not
pub record NamesByHand : Type 0 where
  pub kind_again : breaks NameTaken two_fields (Kind (codes "A") (codes "c" ∷ [])) ≡ true
  pub value_twice : breaks NameTaken two_fields (Kind (codes "C") (codes "c" ∷ codes "c" ∷ [])) ≡ true
  pub value_as_field : breaks NameTaken two_fields (Kind (codes "C") (codes "f" ∷ [])) ≡ true
  pub kind_as_value : breaks NameTaken two_fields (Kind (codes "a") (codes "c" ∷ [])) ≡ false
  pub box_as_host : breaks NameTaken some_nodes (Instance (codes "h") (codes "c") []) ≡ true
  pub field_twice :
      breaks NameTaken some_nodes
      (Sends (codes "h") (equal (codes "f") (codes "a") ∷ equal (codes "f") (codes "b") ∷ []))
      ≡ true
  pub pick_as_value : breaks NameTaken two_fields (OfClass (class_with (Pick (codes "x") (codes "A") [] ∷ []))) ≡ true
  pub pick_in_pick :
      breaks NameTaken two_fields
      (OfClass (class_with (Pick (codes "p") (codes "A") (Pick (codes "p") (codes "B") [] ∷ []) ∷ []))) ≡ true
  pub pick_beside_pick :
      breaks NameTaken two_fields
      (OfClass (class_with (Pick (codes "p") (codes "A") [] ∷ Pick (codes "p") (codes "B") [] ∷ []))) ≡ false

-- a box is no end without its port, and a field is no value
pub record UnknownByHand : Type 0 where
  pub kind : breaks UnknownName two_fields (Field (codes "h") (codes "C")) ≡ true
  pub later_value : breaks UnknownName two_fields (OfClass (class_with (asks (has_r (codes "z" ∷ [])) ∷ []))) ≡ true
  pub port_of_class : breaks UnknownName two_fields (OfClass (class_with (Output (codes "p") [] ∷ []))) ≡ true
  pub box_alone : breaks UnknownName some_nodes (Link (AtHost (codes "n")) (AtHost (codes "h"))) ≡ true
  pub ends_known : breaks UnknownName some_nodes (Link (AtPort (codes "n") (codes "o")) (AtHost (codes "h"))) ≡ false
  pub field_as_value :
      breaks UnknownName some_nodes
      (Instance (codes "m") (codes "c") (record { relation = codes "r"; args = codes "f" ∷ [] } ∷ [])) ≡ true

-- limits at their value and one above
pub record CountsByHand : Type 0 where
  pub values : breaks TooMany [] (Kind (codes "A") (replicate 256 (codes "a"))) ≡ false
  pub values_more : breaks TooMany [] (Kind (codes "A") (replicate 257 (codes "a"))) ≡ true
  pub hosts : breaks TooMany (replicate 255 (Host (codes "h"))) (Host (codes "h")) ≡ false
  pub hosts_more : breaks TooMany (replicate 256 (Host (codes "h"))) (Host (codes "h")) ≡ true
  pub statements : breaks TooMany two_fields (OfClass (class_with (replicate 4 (asks True)))) ≡ false

-- a type of 256 values, and so many fields of it
abbrev pub bytes : ℕ → List Item
bytes fields = Kind (codes "T") (replicate 256 (codes "v")) ∷ replicate fields (Field (codes "p") (codes "T"))

-- two of these fields give 65,536 packets
pub record HeadersByHand : Type 0 where
  pub two : breaks HeaderTooLarge (bytes 1) (Field (codes "q") (codes "T")) ≡ false
  pub three : breaks HeaderTooLarge (bytes 2) (Field (codes "q") (codes "T")) ≡ true
  pub late : breaks FieldLate (two_fields ++ Host (codes "h") ∷ []) (Field (codes "q") (codes "A")) ≡ true
  pub early : breaks FieldLate two_fields (Field (codes "q") (codes "A")) ≡ false

-- a relation over so many arguments of the large type
abbrev pub wide : ℕ → Class
wide arguments = record {
  name = codes "c";
  ports = codes "i" ∷ [];
  relations = record { name = codes "r"; kinds = replicate arguments (codes "T") } ∷ [];
  handlers = [];
}

pub record RelationsByHand : Type 0 where
  pub arity : breaks Arity two_fields (OfClass (class_with (asks (has_r (codes "f" ∷ codes "f" ∷ [])) ∷ []))) ≡ true
  pub argument : breaks KindMismatch two_fields (OfClass (class_with (asks (has_r (codes "g" ∷ [])) ∷ []))) ≡ true
  pub fits : breaks KindMismatch two_fields (OfClass (class_with (asks (has_r (codes "f" ∷ [])) ∷ []))) ≡ false
  pub compared : breaks KindMismatch two_fields (OfClass (class_with (asks (Same (codes "f") (codes "x")) ∷ []))) ≡ true
  pub pattern : breaks KindMismatch some_nodes (Sends (codes "h") (equal (codes "g") (codes "a") ∷ [])) ≡ true
  pub two : breaks RelationTooLarge (bytes 0) (OfClass (wide 2)) ≡ false
  pub three : breaks RelationTooLarge (bytes 0) (OfClass (wide 3)) ≡ true

-- a type of so many values
abbrev pub values : ℕ → List Item
values n = Kind (codes "A") (replicate n (codes "v")) ∷ []

-- each `if` of one alternative doubles the paths, and each value of a pick asks another tuple
pub record HandlersByHand : Type 0 where
  pub twice :
      breaks HandlerTwice two_fields
      (OfClass (record (class_with []) {
        handlers = record { port = codes "i"; body = [] } ∷ record { port = codes "i"; body = [] } ∷ [];
      })) ≡ true
  pub ten_ifs : breaks TooManyPaths two_fields (OfClass (class_with (replicate 10 (asks True)))) ≡ false
  pub eleven_ifs : breaks TooManyPaths two_fields (OfClass (class_with (replicate 11 (asks True)))) ≡ true
  pub twelve :
      breaks TooManyQueries (values 12)
      (OfClass (class_with (Pick (codes "p") (codes "A") (asks (has_r (codes "p" ∷ [])) ∷ []) ∷ []))) ≡ false
  pub thirteen :
      breaks TooManyQueries (values 13)
      (OfClass (class_with (Pick (codes "p") (codes "A") (asks (has_r (codes "p" ∷ [])) ∷ []) ∷ []))) ≡ true

abbrev pub linked : List Item
linked = some_nodes ++ Link (AtHost (codes "h")) (AtPort (codes "n") (codes "i")) ∷ []

-- an item is the same as it is written, equations in another order are another item
pub record LinksByHand : Type 0 where
  pub itself : breaks EndToItself some_nodes (Link (AtHost (codes "h")) (AtHost (codes "h"))) ≡ true
  pub other_port :
      breaks EndToItself some_nodes (Link (AtPort (codes "n") (codes "i")) (AtPort (codes "n") (codes "o"))) ≡ false
  pub taken : breaks EndTaken linked (Link (AtHost (codes "k")) (AtPort (codes "n") (codes "i"))) ≡ true
  pub free : breaks EndTaken linked (Link (AtHost (codes "k")) (AtPort (codes "n") (codes "o"))) ≡ false
  pub again :
      breaks SameItem (Sends (codes "h") (equal (codes "f") (codes "a") ∷ []) ∷ [])
      (Sends (codes "h") (equal (codes "f") (codes "a") ∷ [])) ≡ true
  pub forbidden :
      breaks SameItem (Sends (codes "h") (equal (codes "f") (codes "a") ∷ []) ∷ [])
      (Forbid (codes "h") (equal (codes "f") (codes "a") ∷ [])) ≡ false
  pub turned :
      breaks SameItem (Sends (codes "h") (equal (codes "f") (codes "a") ∷ equal (codes "g") (codes "x") ∷ []) ∷ [])
      (Sends (codes "h") (equal (codes "g") (codes "x") ∷ equal (codes "f") (codes "a") ∷ [])) ≡ false

-- 65,536 packets, and 64 ends or 65; without a field there is one packet
pub record CellsByHand : Type 0 where
  pub ends : breaks TooManyCells (bytes 2 ++ replicate 63 (Host (codes "h"))) (Host (codes "k")) ≡ false
  pub ends_more : breaks TooManyCells (bytes 2 ++ replicate 64 (Host (codes "h"))) (Host (codes "k")) ≡ true
  pub fieldless : breaks TooManyCells (replicate 255 (Host (codes "h"))) (Host (codes "k")) ≡ false

-- a handler with 26,624 paths, of which 13 queries are asked
abbrev pub many_paths : List Stmt
many_paths = Pick (codes "p") (codes "A") (asks (has_r (codes "p" ∷ [])) ∷ []) ∷ replicate 10 (asks True)

-- the class with two handlers of this body for one port
abbrev pub class_twice : List Stmt → Class
class_twice body = record (class_with body) {
  handlers = record { port = codes "i"; body = body } ∷ record { port = codes "i"; body = body } ∷ [];
}

-- of two rules that hold of one item the earlier one
pub record OrderByHand : Type 0 where
  pub name_unknown : first_rule two_fields (Field (codes "f") (codes "C")) ≡ Some NameTaken
  pub unknown_count : first_rule (bytes 8) (Field (codes "q") (codes "C")) ≡ Some UnknownName
  pub count_header : first_rule (bytes 8) (Field (codes "q") (codes "T")) ≡ Some TooMany
  pub header_late : first_rule (bytes 2 ++ Host (codes "h") ∷ []) (Field (codes "q") (codes "T")) ≡ Some HeaderTooLarge
  pub arity_kind :
      first_rule some_nodes
      (Instance (codes "m") (codes "c") (record { relation = codes "r"; args = codes "x" ∷ codes "a" ∷ [] } ∷ []))
      ≡ Some Arity
  pub unknown_itself : first_rule some_nodes (Link (AtHost (codes "z")) (AtHost (codes "z"))) ≡ Some UnknownName
  pub itself_taken : first_rule linked (Link (AtHost (codes "h")) (AtHost (codes "h"))) ≡ Some EndToItself
  pub kind_same :
      first_rule (some_nodes ++ Sends (codes "h") (equal (codes "g") (codes "a") ∷ []) ∷ [])
      (Sends (codes "h") (equal (codes "g") (codes "a") ∷ [])) ≡ Some KindMismatch
  pub count_cells : first_rule (bytes 2 ++ replicate 256 (Host (codes "h"))) (Host (codes "k")) ≡ Some TooMany
  pub twice_paths : first_rule (values 13) (OfClass (class_twice many_paths)) ≡ Some HandlerTwice
  pub paths_queries : first_rule (values 13) (OfClass (class_with many_paths)) ≡ Some TooManyPaths

pub record RulesByHand : Type 0 where
  pub names : NamesByHand
  pub unknown : UnknownByHand
  pub counts : CountsByHand
  pub headers : HeadersByHand
  pub relations : RelationsByHand
  pub handlers : HandlersByHand
  pub links : LinksByHand
  pub cells : CellsByHand
  pub order : OrderByHand
