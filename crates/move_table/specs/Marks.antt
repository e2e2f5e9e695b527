-- Moves that were noted at all packets of a site, and the marks that say so.
use Rattle.std.specs.Prelude.{◌≡◌, ℕ, ◌⊎◌, Bool, List, Some, slice_get, bit_and}
use Rattle.std.specs.Int.{bit_at}
use Rattle.box_contents.specs.declared.entry.Entry.{Entry}
use Rattle.net_plan.specs.declared.plan.Plan.{Plan}
use Rattle.packet_state.specs.Answers.{answers}
use Rattle.box_masks.specs.Writes.{AreContentsOf}
use Rattle.box_moves.specs.Moves.{IsSized, HasMove}
use Rattle.query_tables.specs.Tables.{tuples_in}
use Rattle.query_tables.specs.declared.sites.Site.{Site}
use Rattle.query_tables.specs.Sites.{Tables, IsMember, IsSiteAt}
use Rattle.move_table.specs.declared.effect.Effect.{Effect}
use Rattle.move_table.specs.Effect.{overwritten, cut, between}

-- the move was noted, or it is none
abbrev pub IsNoted : Plan → List (List Bool) → ℕ → ℕ → ℕ → ℕ → Type 0
IsNoted plan moves box packet before after = HasMove plan moves box packet before after ⊎ (before ≡ after)

-- what the effect makes of these answers of the box at the packet was noted, whatever contents answer so
abbrev pub IsNotedFrom : Plan → List (List Bool) → ℕ → Effect → ℕ → ℕ → Type 0
IsNotedFrom plan moves box effect packet mask =
    (contents : List Entry) → AreContentsOf plan box contents → answers plan box packet contents ≡ mask →
    IsNoted plan moves box packet mask (overwritten mask effect)

-- and so for any answers that have the known bits
abbrev pub IsNotedAt : Plan → List (List Bool) → ℕ → Effect → ℕ → Type 0
IsNotedAt plan moves box effect packet =
    (mask : ℕ) → bit_and mask effect.known ≡ effect.bits → IsNotedFrom plan moves box effect packet mask

-- the tuple is that of a query that isn't fixed
pub record StandsOutside (fixed : ℕ) (tuples : List Entry) (tuple : Entry) : Type 0 where
  pub query : ℕ
  pub is_free : bit_at fixed query ≡ 0
  pub stands : slice_get tuples query ≡ Some tuple

-- a tuple of which P holds, at a query that is fixed, has another bit in the other mask
pub record Changes (P : Entry → Type 0) (fixed : ℕ) (tuples : List Entry) (mask other : ℕ) : Type 0 where
  pub query : ℕ
  pub is_fixed : bit_at fixed query ≡ 1
  pub differ : ¬ (bit_at mask query ≡ bit_at other query)
  pub tuple : Entry
  pub stands : slice_get tuples query ≡ Some tuple
  pub holds : P tuple

-- a tuple that changes where it is fixed stands where it isn't fixed too, so that the change can't stay within the
-- queries that are fixed
abbrev pub ReachesOutside : ℕ → List Entry → ℕ → ℕ → Type 0
ReachesOutside fixed tuples mask other = Changes (StandsOutside fixed tuples) fixed tuples mask other

-- it was noted, or reaches outside the queries that are fixed
abbrev pub IsNotedWithin : Plan → List (List Bool) → ℕ → ℕ → Effect → ℕ → ℕ → Type 0
IsNotedWithin plan moves box fixed effect packet mask =
    IsNoted plan moves box packet mask (overwritten mask effect)
    ⊎ ReachesOutside fixed (tuples_in plan box packet) mask (overwritten mask effect)

-- and so at each packet of a site
abbrev pub AllNoted : Plan → List (List Bool) → ℕ → Site → Effect → Type 0
AllNoted plan moves box site effect =
    (packet : ℕ) → IsMember plan box site packet → (mask : ℕ) → bit_and mask effect.known ≡ effect.bits →
    (contents : List Entry) → AreContentsOf plan box contents → answers plan box packet contents ≡ mask →
    IsNotedWithin plan moves box site.fixed effect packet mask

-- the effect is one on these queries alone
abbrev pub IsCut : ℕ → Effect → Type 0
IsCut fixed effect = (whole : Effect) × (effect ≡ cut whole fixed)

-- marks stand in a table of moves of their own, by the numbers of sites: where one stands, all was noted of what makes
-- the one mask of the queries that are fixed at the site the other one
pub record AreMarks (plan : Plan) (tables : Tables) (moves marks : List (List Bool)) : Type 0 where
  pub sized : IsSized plan marks
  pub noted : (box number mask other : ℕ) (site : Site) → IsSiteAt tables box number site →
      HasMove plan marks box number mask other → AllNoted plan moves box site (between site.fixed mask other)
