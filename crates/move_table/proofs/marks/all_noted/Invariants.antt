use Rattle.std.proofs.Common.{ℕ, ◌<◌, ◌⊎◌, get_or}
use Rattle.query_tables.specs.Tables.{tuples_in}
use Rattle.move_table.specs.Marks.{IsNotedAt, ReachesOutside}
use Rattle.move_table.proofs.marks.all_noted.Given as goal

abbrev pub invariant-loop-q : goal.invariant-loop-q
invariant-loop-q l =
    (k : ℕ) (d : ℕ) → k < l.q-index →
    IsNotedAt l.net l.moves l.b l.effect (get_or l.q-items k d)
    ⊎ ReachesOutside l.site.fixed (tuples_in l.net l.b (get_or l.q-items k d)) l.w l.after
