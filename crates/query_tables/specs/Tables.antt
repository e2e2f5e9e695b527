-- The tuples of the queries of a box at its packets, and which packets read a tuple.
use Rattle.std.specs.Prelude.{◌≡◌, ℕ, ◌+◌, ◌*◌, ◌^◌, List, [], length}
use Rattle.std.specs.List.{Contains, flat_map, range_with_len}
use Rattle.box_contents.specs.declared.entry.Entry.{Entry}
use Rattle.box_handlers.specs.declared.act.Query.{Query}
use Rattle.net_plan.specs.declared.plan.Plan.{Plan}
use Rattle.net_plan.specs.Plan.{packets_of}
use Rattle.net_plan.specs.Reading.{tuple_at}
use Rattle.packet_state.specs.Answers.{class_of_box}
use Rattle.box_masks.specs.Bits.{tuples_at}
use Rattle.query_tables.specs.declared.sites.Site.{Site}

-- some query of the box has the tuple at the packet
pub record Reads (plan : Plan) (box packet : ℕ) (entry : Entry) : Type 0 where
  pub query : Query
  pub asked : Contains (class_of_box plan box).queries query
  pub tuple_is : tuple_at plan (class_of_box plan box) packet [] query ≡ entry

-- how many queries a box has
abbrev pub queries_of : Plan → ℕ → ℕ
queries_of plan box = length (class_of_box plan box).queries

-- the tuples of the queries of the box at the packet, in the order of the queries
abbrev pub tuples_in : Plan → ℕ → ℕ → List Entry
tuples_in plan box packet = tuples_at plan box packet (class_of_box plan box).queries

-- the tuples of the box at all its packets, packet by packet
abbrev pub all_tuples : Plan → ℕ → List Entry
all_tuples plan box = flat_map (tuples_in plan box) (range_with_len 0 (packets_of plan))

-- tuples are ordered by relation and then by tuple, which is the order of these numbers
abbrev pub key_of : Entry → ℕ
key_of entry = entry.relation * 2 ^ 32 + entry.tuple

abbrev pub key_seen : Site → ℕ
key_seen site = key_of site.entry
