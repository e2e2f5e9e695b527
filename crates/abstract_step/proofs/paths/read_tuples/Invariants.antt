use Rattle.std.proofs.Common.{◌≡◌, ◌≤◌, [], take, map}
use Rattle.std.specs.Vec.{vec_len, vec_capacity}
use Rattle.net_plan.specs.Reading.{tuple_at}
use Rattle.abstract_step.specs.Walk.{class_at}
use Rattle.abstract_step.proofs.paths.read_tuples.Given as goal

-- the tuples so far
abbrev pub invariant-loop-query : goal.invariant-loop-query
invariant-loop-query l =
    (l.tuples.items
    ≡ map (tuple_at l.place.net.now (class_at l.place) l.place.p []) (take l.query-index l.query-items))
    × (vec_len l.tuples ≡ l.query-index) × (vec_capacity l.fn.tuples ≤ vec_capacity l.tuples)
