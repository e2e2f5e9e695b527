-- What is stored of a box: its tuples, its sites, and their packets.
use Rattle.std.specs.Prelude.{◌≡◌, ℕ, ◌-◌, ◌^◌, ◌<◌, ◌≤◌, List, length, take, drop, Some, slice_index_or, map}
use Rattle.std.specs.List.{All, Contains, slice_get}
use Rattle.std.specs.List.Sorted.{IsNonDecreasing, IsNonDecreasingBy}
use Rattle.box_contents.specs.declared.entry.Entry.{Entry}
use Rattle.net_plan.specs.declared.plan.Plan.{Plan}
use Rattle.net_plan.specs.Plan.{packets_of}
use Rattle.query_tables.specs.declared.sites.Site.{Site}
use Rattle.query_tables.specs.declared.table.BoxTable.{BoxTable}
use Rattle.query_tables.specs.Sites.{IsMember, IsSite, Tables}
use Rattle.query_tables.specs.Tables.{Reads, all_tuples, key_seen}

-- the packets of a site among those of all sites
abbrev pub members_in : List ℕ → Site → List ℕ
members_in members site = take (site.to - site.from) (drop site.from members)

-- a site of the box, with its packets where it says
pub record IsStored (plan : Plan) (box : ℕ) (members : List ℕ) (site : Site) : Type 0 where
  pub from_to : site.from ≤ site.to
  pub within : site.to ≤ length members
  pub is : IsSite plan box site
  pub all : (packet : ℕ) → IsMember plan box site packet → Contains (members_in members site) packet
  pub only : All (IsMember plan box site) (members_in members site)
  pub rising : IsNonDecreasing (members_in members site)

-- one of the sites has the tuple and the packet
pub record IsFound (plan : Plan) (box : ℕ) (sites : List Site) (entry : Entry) (packet : ℕ) : Type 0 where
  pub number : ℕ
  pub site : Site
  pub at : slice_get sites number ≡ Some site
  pub entry_is : site.entry ≡ entry
  pub member : IsMember plan box site packet

-- the table is that of the box: its tuples, and its sites in the order of their tuples
pub record IsTable (plan : Plan) (box : ℕ) (table : BoxTable) : Type 0 where
  pub tuples_are : table.tuples.items ≡ all_tuples plan box
  pub few : length table.sites.items < 2 ^ 32
  pub stored : All (IsStored plan box table.members.items) table.sites.items
  pub rising : IsNonDecreasingBy key_seen table.sites.items
  pub found : (packet : ℕ) (entry : Entry) → packet < packets_of plan → Reads plan box packet entry →
      IsFound plan box table.sites.items entry packet

-- the tables are those of the first boxes
pub record AreTables (plan : Plan) (boxes : ℕ) (tables : List BoxTable) : Type 0 where
  pub one_each : length tables ≡ boxes
  pub tables_are : (box : ℕ) (d : BoxTable) → box < boxes → IsTable plan box (slice_index_or tables box d)

-- what is seen of them
abbrev pub sites_in : BoxTable → List Site
sites_in table = table.sites.items

abbrev pub seen_of : Plan → List BoxTable → Tables
seen_of plan tables = record { plan = plan; sites = map sites_in tables }
