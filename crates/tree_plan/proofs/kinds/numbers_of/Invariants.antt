use Rattle.std.proofs.Common.{◌≡◌, ℕ, List, drop}
use Rattle.std.specs.Option.{option_or}
use Rattle.tree_plan.specs.Names.{value_number}
use Rattle.tree_plan.specs.Tables.{kinds_back}
use Rattle.tree_plan.specs.Numbers.{number_at}
use Rattle.tree_plan.proofs.kinds.numbers_of.Given as goal

-- a name without a number is sought in the types behind
abbrev pub invariant-loop-kind : goal.invariant-loop-kind
invariant-loop-kind l =
    (name : List ℕ) →
    option_or (number_at l.numbers name) (value_number (kinds_back (drop l.kind-index l.kinds)) name)
    ≡ value_number (kinds_back l.kinds) name
