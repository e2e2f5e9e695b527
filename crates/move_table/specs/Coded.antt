-- How a table of moves is stored.
use Rattle.std.specs.Prelude.{Bool, List, refl}
use Rattle.std.specs.Coded.{Coded, code_by, coded×, coded_bool, coded_list}
use Rattle.net_plan.specs.declared.plan.Plan.{Plan}
use Rattle.move_table.specs.Moves.{Memory}

abbrev pub memory_code : Coded Plan → Coded Memory
memory_code plan_code =
    code_by (Plan × List (List Bool)) (coded× plan_code (coded_list (coded_list coded_bool)))
    (λ memory. (memory.plan, memory.moves)) (λ parts. record { plan = parts.0; moves = parts.1 }) (λ _. refl)
