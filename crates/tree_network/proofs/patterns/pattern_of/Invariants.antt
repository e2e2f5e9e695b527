use Rattle.std.proofs.Common.{◌≡◌, drop, fold}
use Rattle.std.specs.Option.{option_map}
use Rattle.tree_plan.specs.Names.{all_some}
use Rattle.tree_plan.specs.Net.{with_equation, equation_of, pattern_of}
use Rattle.tree_plan.specs.Tables.{kinds_back}
use Rattle.tree_network.specs.Reads.{fields_back}
use Rattle.tree_network.proofs.patterns.pattern_of.Given as goal

-- the equations behind are still to be put into the pattern
abbrev pub invariant-loop-equal : goal.invariant-loop-equal
invariant-loop-equal l =
    pattern_of (kinds_back l.kinds) (fields_back l.fields) l.equals
    ≡ option_map (fold with_equation l.pattern)
    (all_some (equation_of (kinds_back l.kinds) (fields_back l.fields)) (drop l.equal-index l.equals))
