use Rattle.std.proofs.Common.{◌≡◌, ◌*◌, ◌≤◌, drop}
use Rattle.std.specs.Option.{option_map}
use Rattle.item_rules.specs.Found.{capped, product_with}
use Rattle.item_rules.proofs.header.packets.Given as goal

-- the product so far, and what the other items count for
abbrev pub invariant-loop-item : goal.invariant-loop-item
invariant-loop-item l =
    (option_map capped (product_with l.before l.before)
    ≡ option_map (λ rest. capped (l.packets * rest)) (product_with l.before (drop l.item-index l.before)))
    × (l.packets ≤ 18446744073709551615)
