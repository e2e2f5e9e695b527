use Rattle.std.proofs.Common.{◌≡◌, drop, flat_map}
use Rattle.std.specs.List.{list_any}
use Rattle.tree_rules.specs.Uses.{uses_of_statement, uses_of_alternative}
use Rattle.tree_rules.proofs.walk.+statements.Given as goal

-- nothing so far passes
abbrev pub invariant-block_uses-loop-stmt : goal.invariant-block_uses-loop-stmt
invariant-block_uses-loop-stmt g l =
    list_any (g.T.UseTest.test l.test) (flat_map (λ stmt. uses_of_statement stmt l.opened) l.body)
    ≡ list_any (g.T.UseTest.test l.test) (flat_map (λ stmt. uses_of_statement stmt l.opened) (drop l.stmt-index l.body))

abbrev pub invariant-choice_uses-loop-alternative : goal.invariant-choice_uses-loop-alternative
invariant-choice_uses-loop-alternative g l =
    list_any (g.T.UseTest.test l.test) (flat_map (λ one. uses_of_alternative one l.opened) l.alternatives)
    ≡ list_any (g.T.UseTest.test l.test)
    (flat_map (λ one. uses_of_alternative one l.opened) (drop l.alternative-index l.alternatives))
