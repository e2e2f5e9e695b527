-- What was noted at least, and at most.
use Rattle.std.specs.Prelude.{◌≡◌, ℕ, ◌<◌, ◌⊎◌, Bool, false, List, Some, slice_get, bit_and}
use Rattle.std.specs.Int.{bit_at}
use Rattle.std.specs.List.{Contains}
use Rattle.box_contents.specs.declared.entry.Entry.{Entry}
use Rattle.box_contents.specs.Contents.{same_entry}
use Rattle.fix_engine.specs.Progress.{Progress, found_in, Grows}
use Rattle.net_plan.specs.declared.plan.Plan.{Plan}
use Rattle.net_plan.specs.declared.fact.Fact.{Fact}
use Rattle.net_plan.specs.Cells.{IsInRange, cell_of}
use Rattle.box_moves.specs.Moves.{IsKept, IsSized}
use Rattle.move_table.specs.Offered.{IsCellOf}
use Rattle.box_masks.specs.declared.write.Write.{Write}
use Rattle.query_tables.specs.Tables.{tuples_in}
use Rattle.query_tables.specs.declared.sites.Site.{Site}
use Rattle.query_tables.specs.Sites.{Tables, IsMember, IsSiteAt, AreCommon}
use Rattle.move_table.specs.Kept.{keeps}
use Rattle.move_table.specs.Moves.{Move, IsOne, Has, Moved, AreFollowed, Patches}

-- all moves of which Least holds were noted, and none but those of which Most holds; what the former make of facts that
-- are done is found, nothing was offered but what the latter make of them, and noted moves stay followed
pub record NotedWithin (plan : Plan) (Least Most : Move → Type 0) (old_moves new_moves : List (List Bool))
    (old_work new_work : Progress) : Type 0 where
  pub sized : IsSized plan new_moves
  pub stays : (move : Move) → Has plan old_moves move → Has plan new_moves move
  pub all : (move : Move) → IsKept plan move.box → IsOne plan move → Least move →
      Has plan new_moves move ⊎ (move.mask ≡ move.other)
  pub only : (move : Move) → Has plan new_moves move → Has plan old_moves move ⊎ Most move
  pub grows : Grows old_work new_work
  pub found : (fact : Fact) → IsInRange plan fact → Moved plan Least old_work.done fact →
      Contains (found_in new_work) (cell_of plan fact)
  pub offered : (cell : ℕ) → Contains (found_in new_work) cell →
      Contains (found_in old_work) cell ⊎ IsCellOf plan (Moved plan Most old_work.done) cell
  pub followed : AreFollowed plan old_moves old_work → AreFollowed plan new_moves new_work

-- one of the masks has all bits of the other
abbrev pub AreNested : ℕ → ℕ → Type 0
AreNested one other = (bit_and one other ≡ one) ⊎ (bit_and one other ≡ other)

-- the tuples of a packet that the writes change stand at these queries alone
abbrev pub AreChangedWithin : Plan → ℕ → ℕ → ℕ → List Write → ℕ → ℕ → Type 0
AreChangedWithin plan box packet mask writes fixed other =
    (query : ℕ) (tuple : Entry) → slice_get (tuples_in plan box other) query ≡ Some tuple →
    keeps (tuples_in plan box packet) mask writes tuple ≡ false → bit_at fixed query ≡ 1

-- the writes make the move at a packet of the site, and change nothing there but what is fixed at the site
pub record IsCovered (plan : Plan) (tables : Tables) (box packet mask : ℕ) (writes : List Write)
    (number : ℕ) (move : Move) : Type 0 where
  pub patches : Patches plan box packet mask writes move
  pub site : Site
  pub at : IsSiteAt tables box number site
  pub member : IsMember plan box site move.packet
  pub within : AreChangedWithin plan box packet mask writes site.fixed move.packet

-- the write of a number changes a tuple
pub record IsChange (plan : Plan) (box packet mask : ℕ) (writes : List Write) (index : ℕ) (entry : Entry) : Type 0 where
  pub write : Write
  pub stands : slice_get writes index ≡ Some write
  pub entry_is : write.entry ≡ entry
  pub not_kept : keeps (tuples_in plan box packet) mask writes entry ≡ false

-- the move is covered at a site of the tuple that the write of a number changes
pub record IsCoveredBy (plan : Plan) (tables : Tables) (box packet mask : ℕ) (writes : List Write)
    (index : ℕ) (move : Move) : Type 0 where
  pub number : ℕ
  pub covered : IsCovered plan tables box packet mask writes number move
  pub change : IsChange plan box packet mask writes index covered.site.entry

-- the writes make the move at a packet of two sites
pub record IsShared (plan : Plan) (tables : Tables) (box packet mask : ℕ) (writes : List Write)
    (one other : ℕ) (move : Move) : Type 0 where
  pub patches : Patches plan box packet mask writes move
  pub common : AreCommon tables box one other move.packet
  pub apart : ¬ AreNested common.of_one.site.fixed common.of_other.site.fixed
  pub differ : same_entry common.of_one.site.entry common.of_other.site.entry ≡ false

-- and these are sites of the tuples that the writes of two numbers change
pub record IsSharedBy (plan : Plan) (tables : Tables) (box packet mask : ℕ) (writes : List Write)
    (index other : ℕ) (move : Move) : Type 0 where
  pub one : ℕ
  pub two : ℕ
  pub shared : IsShared plan tables box packet mask writes one two move
  pub first_change : IsChange plan box packet mask writes index shared.common.of_one.site.entry
  pub second_change : IsChange plan box packet mask writes other shared.common.of_other.site.entry

-- and so with an earlier write
abbrev pub SharedBefore : Plan → Tables → ℕ → ℕ → ℕ → List Write → ℕ → Move → Type 0
SharedBefore plan tables box packet mask writes index move =
    (other : ℕ) × (other < index) × IsSharedBy plan tables box packet mask writes index other move

-- the writes make the move at a packet of the site of a number and of a site of the tuple
pub record SharedWith (plan : Plan) (tables : Tables) (box packet mask : ℕ) (writes : List Write)
    (one : ℕ) (entry : Entry) (move : Move) : Type 0 where
  pub two : ℕ
  pub shared : IsShared plan tables box packet mask writes one two move
  pub entry_is : shared.common.of_other.site.entry ≡ entry
