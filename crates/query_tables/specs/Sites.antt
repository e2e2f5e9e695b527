-- The sites of a box: a tuple and a set of queries, and the packets at which exactly these queries have the tuple.
use Rattle.std.specs.Prelude.{◌≡◌, ℕ, ◌^◌, ◌<◌, List, [], ◌∷◌, Some, slice_index_or}
use Rattle.std.specs.Int.{bit_at}
use Rattle.std.specs.List.{slice_get}
use Rattle.box_contents.specs.declared.entry.Entry.{Entry}
use Rattle.box_contents.specs.Contents.{same_entry}
use Rattle.box_masks.specs.Bits.{with_bit}
use Rattle.net_plan.specs.declared.plan.Plan.{Plan}
use Rattle.net_plan.specs.Plan.{packets_of}
use Rattle.query_tables.specs.declared.sites.Site.{Site}
use Rattle.query_tables.specs.Search.{HasNone, HasNoneFrom}
use Rattle.query_tables.specs.Tables.{queries_of, tuples_in}

-- the queries that have the tuple, as bits
abbrev pub bits_of : Entry → List Entry → ℕ
bits_of entry [] = 0
bits_of entry (tuple ∷ tuples) = with_bit (bits_of entry tuples) (same_entry entry tuple)

-- a packet of the site
pub record IsMember (plan : Plan) (box : ℕ) (site : Site) (packet : ℕ) : Type 0 where
  pub in_range : packet < packets_of plan
  pub bits_are : bits_of site.entry (tuples_in plan box packet) ≡ site.bits

-- these queries have the same tuples
abbrev pub AreFixed : ℕ → List Entry → List Entry → Type 0
AreFixed fixed one two = (query : ℕ) → bit_at fixed query ≡ 1 → slice_get one query ≡ slice_get two query

pub record IsSite (plan : Plan) (box : ℕ) (site : Site) : Type 0 where
  pub some : 0 < site.bits
  pub below : site.fixed < 2 ^ queries_of plan box
  pub first_is : IsMember plan box site site.first
  pub own : (query : ℕ) → bit_at site.bits query ≡ 1 → bit_at site.fixed query ≡ 1
  pub fixed_are : (packet : ℕ) → IsMember plan box site packet →
      AreFixed site.fixed (tuples_in plan box site.first) (tuples_in plan box packet)

-- what is seen of the tables: the plan of their network, and the sites of each box
pub record Tables : Type 0 where
  pub plan : Plan
  pub sites : List (List Site)

abbrev pub sites_at : Tables → ℕ → List Site
sites_at tables box = slice_index_or tables.sites box []

-- the site of a number is this one
abbrev pub IsSiteAt : Tables → ℕ → ℕ → Site → Type 0
IsSiteAt tables box number site = slice_get (sites_at tables box) number ≡ Some site

-- a site of this number of the tuple, with the packet
pub record IsSiteOf (tables : Tables) (box number : ℕ) (entry : Entry) (packet : ℕ) : Type 0 where
  pub site : Site
  pub at : IsSiteAt tables box number site
  pub entry_is : site.entry ≡ entry
  pub member : IsMember tables.plan box site packet

-- the packet is one of the site of this number
pub record IsMemberAt (tables : Tables) (box number packet : ℕ) : Type 0 where
  pub site : Site
  pub at : IsSiteAt tables box number site
  pub member : IsMember tables.plan box site packet

-- the packet is one of both sites
pub record AreCommon (tables : Tables) (box one other packet : ℕ) : Type 0 where
  pub of_one : IsMemberAt tables box one packet
  pub of_other : IsMemberAt tables box other packet

-- no packet from the one up to the other, without that one, is one of both sites
abbrev pub HasNoCommon : Tables → ℕ → ℕ → ℕ → ℕ → ℕ → Type 0
HasNoCommon tables box one other from to = HasNone (AreCommon tables box one other) from to

-- nor any from one on
abbrev pub HasNoCommonFrom : Tables → ℕ → ℕ → ℕ → ℕ → Type 0
HasNoCommonFrom tables box one other from = HasNoneFrom (AreCommon tables box one other) from
