-- What is printed in place of a report: usage, and refusals of one line.
use Rattle.std.specs.Prelude.{ℕ, List, ◌++◌, codes, decimal}
use Rattle.amdl_tree.specs.Layout.{line}
use Rattle.tree_rules.specs.declared.rule.Rule.{Rule}
use Rattle.tree_rules.specs.declared.rule.Rule.TheVariants.{
  NameTaken,
  UnknownName,
  TooMany,
  HeaderTooLarge,
  FieldLate,
  Arity,
  KindMismatch,
  RelationTooLarge,
  HandlerTwice,
  TooManyPaths,
  TooManyQueries,
  EndToItself,
  EndTaken,
  SameItem,
  TooManyCells,
  NoField,
}
use Rattle.plan_text.specs.declared.refusal.NetworkRefusal.{NetworkRefusal}
use Rattle.plan_text.specs.declared.refusal.NetworkRefusal.TheVariants.{TooLong, BadByte, WordTooLong, TooManyTokens}
use Rattle.plan_text.specs.declared.refusal.NetworkRefusal.TheVariants.{Syntax, Deep, BrokenRule}

-- how a call is written, and the verbs
abbrev pub usage_text : List ℕ
usage_text =
    line (codes "usage: amdl VERB WORD [WORD]")
    ++ line (codes "verbs: analyse check format replay replay-ordered")

-- a rule by its name
abbrev pub name_of_rule : Rule → List ℕ
name_of_rule NameTaken = codes "NameTaken"
name_of_rule UnknownName = codes "UnknownName"
name_of_rule TooMany = codes "TooMany"
name_of_rule HeaderTooLarge = codes "HeaderTooLarge"
name_of_rule FieldLate = codes "FieldLate"
name_of_rule Arity = codes "Arity"
name_of_rule KindMismatch = codes "KindMismatch"
name_of_rule RelationTooLarge = codes "RelationTooLarge"
name_of_rule HandlerTwice = codes "HandlerTwice"
name_of_rule TooManyPaths = codes "TooManyPaths"
name_of_rule TooManyQueries = codes "TooManyQueries"
name_of_rule EndToItself = codes "EndToItself"
name_of_rule EndTaken = codes "EndTaken"
name_of_rule SameItem = codes "SameItem"
name_of_rule TooManyCells = codes "TooManyCells"
name_of_rule NoField = codes "NoField"

-- a fault of the byte at this place, of the token and of the item
abbrev pub byte_fault : ℕ → List ℕ → List ℕ
byte_fault at fault = codes "byte " ++ decimal at ++ fault

abbrev pub token_fault : ℕ → List ℕ → List ℕ
token_fault at fault = codes "token " ++ decimal at ++ fault

abbrev pub item_fault : ℕ → List ℕ → List ℕ
item_fault at fault = codes "item " ++ decimal at ++ fault

-- why a text is refused, in words
abbrev pub text_of_refusal : NetworkRefusal → List ℕ
text_of_refusal TooLong = codes "TooLong"
text_of_refusal (BadByte at) = byte_fault at (codes " BadByte")
text_of_refusal (WordTooLong at) = byte_fault at (codes " WordTooLong")
text_of_refusal TooManyTokens = codes "TooManyTokens"
text_of_refusal (Syntax at) = token_fault at (codes " Syntax")
text_of_refusal (Deep at) = token_fault at (codes " Deep")
text_of_refusal (BrokenRule item rule) = item_fault item (codes " " ++ name_of_rule rule)

-- the network text is refused
abbrev pub refused_network : NetworkRefusal → List ℕ
refused_network refusal = line (codes "refused network " ++ text_of_refusal refusal)

-- there is no file of this name
abbrev pub missing_text : List ℕ → List ℕ
missing_text name = line (codes "missing " ++ name)

-- reading the file of this name failed
abbrev pub fault_load_text : List ℕ → List ℕ
fault_load_text name = line (codes "fault load " ++ name)
