-- The tuples that the queries of a box have at its packets, in the order in which sites are runs of them.
use Rattle.std.specs.Prelude.{◌≡◌, ℕ, ◌+◌, ◌*◌, ◌^◌, ◌<◌, ◌≤◌, cond, List, [], ◌∷◌, length, nat_eq, slice_index_or}
use Rattle.std.specs.List.{All, Contains, flat_map, range_with_len}
use Rattle.std.specs.List.Sorted.{IsNonDecreasingBy}
use Rattle.box_contents.specs.declared.entry.Entry.{Entry}
use Rattle.box_contents.specs.Contents.{same_entry}
use Rattle.box_masks.specs.Bits.{with_bit}
use Rattle.net_plan.specs.declared.plan.Plan.{Plan}
use Rattle.net_plan.specs.Plan.{packets_of}
use Rattle.query_tables.specs.declared.spots.Spot.{Spot}
use Rattle.query_tables.specs.declared.sites.Site.{Site}
use Rattle.query_tables.specs.Sites.{bits_of, IsSite}
use Rattle.query_tables.specs.Tables.{tuples_in, key_of, key_seen}

-- the spots of a packet at which the queries have the tuples of a row, for the last ones of them: each tuple once
abbrev pub spots_over : List Entry → ℕ → List Entry → List Spot
spots_over row packet [] = []
spots_over row packet (tuple ∷ tuples) =
    cond (nat_eq (bits_of tuple tuples) 0)
    (record { entry = tuple; bits = bits_of tuple row; packet = packet } ∷ spots_over row packet tuples)
    (spots_over row packet tuples)

abbrev pub spots_in : Plan → ℕ → ℕ → List Spot
spots_in plan box packet = spots_over (tuples_in plan box packet) packet (tuples_in plan box packet)

-- the spots of the box at all its packets, packet by packet
abbrev pub all_spots : Plan → ℕ → List Spot
all_spots plan box = flat_map (spots_in plan box) (range_with_len 0 (packets_of plan))

-- spots are ordered by tuple, then by bits and then by packet, which is the order of these numbers
abbrev pub group_of : Entry → ℕ → ℕ
group_of entry bits = key_of entry * 2 ^ 16 + bits

abbrev pub group_seen : Spot → ℕ
group_seen spot = group_of spot.entry spot.bits

abbrev pub key_spotted : Spot → ℕ
key_spotted spot = group_seen spot * 2 ^ 32 + spot.packet

-- a spot of the box
pub record IsSpot (plan : Plan) (box : ℕ) (spot : Spot) : Type 0 where
  pub in_range : spot.packet < packets_of plan
  pub bits_are : bits_of spot.entry (tuples_in plan box spot.packet) ≡ spot.bits
  pub some : 0 < spot.bits

-- these are the spots of the box in their order
pub record AreSpots (plan : Plan) (box : ℕ) (spots : List Spot) : Type 0 where
  pub grouped : IsNonDecreasingBy group_seen spots
  pub rising : IsNonDecreasingBy key_spotted spots
  pub only : All (IsSpot plan box) spots
  pub all : (spot : Spot) → IsSpot plan box spot → Contains spots spot

-- its numbers fit their types
pub record IsSmall (spot : Spot) : Type 0 where
  pub tuple_is : spot.entry.tuple < 2 ^ 32
  pub bits_are : spot.bits < 2 ^ 16

-- the two have one tuple and one set of queries
pub record IsLike (spot other : Spot) : Type 0 where
  pub entry_is : other.entry ≡ spot.entry
  pub bits_are : other.bits ≡ spot.bits

-- a new run begins at the place, or there is nothing there
abbrev pub IsStart : List Spot → ℕ → Type 0
IsStart spots at =
    (k : ℕ) (d : Spot) → k < at → at < length spots →
    group_seen (slice_index_or spots k d) < group_seen (slice_index_or spots at d)

-- the spot is one of the tuple of the site and its queries
pub record IsSpotOf (site : Site) (spot : Spot) : Type 0 where
  pub entry_is : spot.entry ≡ site.entry
  pub bits_are : spot.bits ≡ site.bits

-- a site whose packets are those of a run of spots
pub record IsRun (plan : Plan) (box : ℕ) (spots : List Spot) (site : Site) : Type 0 where
  pub some : site.from < site.to
  pub within : site.to ≤ length spots
  pub small : site.bits < 2 ^ 16
  pub same : (k : ℕ) (d : Spot) → site.from ≤ k → k < site.to → IsSpotOf site (slice_index_or spots k d)
  pub before : (k : ℕ) (d : Spot) → k < site.from →
      group_seen (slice_index_or spots k d) < group_of site.entry site.bits
  pub behind : (k : ℕ) (d : Spot) → site.to ≤ k → k < length spots →
      group_of site.entry site.bits < group_seen (slice_index_or spots k d)
  pub is : IsSite plan box site

-- the place is in the run of one of the sites
pub record HasRun (sites : List Site) (k : ℕ) : Type 0 where
  pub number : ℕ
  pub site : Site
  pub there : number < length sites
  pub is : slice_index_or sites number site ≡ site
  pub from : site.from ≤ k
  pub to : k < site.to

-- these are the sites of the first spots, in the order of their tuples
pub record AreSites (plan : Plan) (box : ℕ) (spots : List Spot) (upto : ℕ) (sites : List Site) : Type 0 where
  pub few : length sites ≤ upto
  pub within : upto ≤ length spots
  pub start : IsStart spots upto
  pub runs : All (IsRun plan box spots) sites
  pub ended : All (λ site. site.to ≤ upto) sites
  pub found : (k : ℕ) → k < upto → HasRun sites k
  pub rising : IsNonDecreasingBy key_seen sites

-- the places at which two lists have one and the same tuple, as bits
abbrev pub alike : List Entry → List Entry → ℕ
alike [] others = 0
alike (tuple ∷ tuples) [] = 0
alike (tuple ∷ tuples) (other ∷ others) = with_bit (alike tuples others) (same_entry tuple other)
