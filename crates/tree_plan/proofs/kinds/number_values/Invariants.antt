use Rattle.std.proofs.Common.{◌≡◌, ℕ, List, drop}
use Rattle.std.specs.List.{position_from}
use Rattle.std.specs.Option.{option_or}
use Rattle.tree_plan.specs.Names.{same_name, number_of}
use Rattle.tree_plan.specs.Numbers.{number_at}
use Rattle.tree_plan.proofs.kinds.number_values.Given as goal

-- a name without a number is sought in the values behind
abbrev pub invariant-loop-number : goal.invariant-loop-number
invariant-loop-number l =
    (name : List ℕ) →
    option_or (number_at l.numbers name) (position_from (same_name name) l.number (drop l.number l.values))
    ≡ option_or (number_at l.fn.numbers name) (number_of l.values name)
