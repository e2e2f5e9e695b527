use Rattle.std.proofs.Common.{◌≡◌, drop, flat_map}
use Rattle.std.specs.List.{list_any}
use Rattle.tree_rules.specs.Uses.{all_uses, uses_of_lit}
use Rattle.tree_rules.proofs.walk.+guards.Given as goal

-- nothing so far passes
abbrev pub invariant-conjunction_uses-loop-lit : goal.invariant-conjunction_uses-loop-lit
invariant-conjunction_uses-loop-lit g l =
    list_any (g.T.UseTest.test l.test) (flat_map (λ lit. uses_of_lit lit l.opened) l.lits)
    ≡ list_any (g.T.UseTest.test l.test) (flat_map (λ lit. uses_of_lit lit l.opened) (drop l.lit-index l.lits))

abbrev pub invariant-guard_uses-loop-lits : goal.invariant-guard_uses-loop-lits
invariant-guard_uses-loop-lits g l =
    list_any (g.T.UseTest.test l.test) (flat_map (λ lits. all_uses uses_of_lit lits l.opened) l.guard.any)
    ≡ list_any (g.T.UseTest.test l.test)
    (flat_map (λ lits. all_uses uses_of_lit lits l.opened) (drop l.lits-index l.guard.any))
