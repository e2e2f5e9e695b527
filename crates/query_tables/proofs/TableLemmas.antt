-- The tuples of a box at its packets, row by row.
use Rattle.std.proofs.Common.{◌≡◌, ℕ, suc, ◌+◌, ◌*◌, ◌<◌, ◌≤◌, [], length, take, drop, subst, ap, arith, ◌∙◌}
use Rattle.std.specs.List.{Contains}
use Rattle.std.proofs.lemmas.List.{length-map}
use Rattle.std.proofs.lemmas.Nat.{mul-le}
use Rattle.box_contents.specs.declared.entry.Entry.{Entry}
use Rattle.net_plan.specs.declared.plan.Plan.{Plan}
use Rattle.net_plan.specs.Plan.{packets_of}
use Rattle.net_plan.specs.Reading.{tuple_at}
use Rattle.packet_state.specs.Answers.{class_of_box}
use Rattle.query_tables.specs.Tables.{Reads, queries_of, tuples_in, all_tuples}
use Rattle.query_tables.proofs.ListLemmas.{map_has, map_from, length_pieces, row_at}

module _ (plan : Plan) (box : ℕ) where
  pub reads_tuple : (packet : ℕ) (entry : Entry) → Reads plan box packet entry →
      Contains (tuples_in plan box packet) entry
  reads_tuple packet entry reads =
      subst (Contains (tuples_in plan box packet)) reads.tuple_is
      (map_has (tuple_at plan (class_of_box plan box) packet []) (class_of_box plan box).queries reads.query
      reads.asked)

  pub tuple_reads : (packet : ℕ) (entry : Entry) → Contains (tuples_in plan box packet) entry →
      Reads plan box packet entry
  tuple_reads packet entry has =
      let found =
      map_from (tuple_at plan (class_of_box plan box) packet []) (class_of_box plan box).queries entry has in
      record { query = found.0; asked = found.1; tuple_is = found.2 }

  pub even_tuples : (packet : ℕ) → length (tuples_in plan box packet) ≡ queries_of plan box
  even_tuples packet = length-map (class_of_box plan box).queries (tuple_at plan (class_of_box plan box) packet [])

  length_tuples : length (all_tuples plan box) ≡ packets_of plan * queries_of plan box
  length_tuples = length_pieces (tuples_in plan box) (queries_of plan box) even_tuples 0 (packets_of plan)

  pub tuples_row : (packet : ℕ) → packet < packets_of plan →
      take (queries_of plan box) (drop (packet * queries_of plan box) (all_tuples plan box)) ≡ tuples_in plan box packet
  tuples_row packet less =
      row_at (tuples_in plan box) (queries_of plan box) even_tuples 0 (packets_of plan) packet less
      ∙ ap (tuples_in plan box) (let e : 0 + packet ≡ packet = omega arith in e)

  -- the row of a packet ends within the tuples
  pub row_within : (packet : ℕ) → packet < packets_of plan →
      packet * queries_of plan box + queries_of plan box ≤ length (all_tuples plan box)
  row_within packet less =
      let rows : suc packet * queries_of plan box ≤ packets_of plan * queries_of plan box =
      mul-le (suc packet) (queries_of plan box) (packets_of plan) (queries_of plan box) less (omega arith) in
      let row : packet * queries_of plan box + queries_of plan box ≡ suc packet * queries_of plan box = omega arith in
      omega (arith, rows, row, length_tuples)
